use Rattle.std.proofs.Common.{ap, ◌∙◌, rules, refl, tests}
use Rattle.std.specs.Iterator.Adapters.{enumerate_source, enumerate_count}
use Rattle.std.specs.Slice.Iter.{iter_rest}
use Rattle.std.proofs.lemmas.Iterator.Consumers.{YieldsList-at, YieldsList-from_filter_map}
use Rattle.carrier.proofs.Chosen.{better, numbered, chosen_last, numbered_back, reduced}
use Rattle.carrier.proofs.places.chosen.Goals as goal

pub returns : goal.returns
returns g c =
    let back =
    numbered_back _ (λ t. refl) {s = c.rev.result} c.args.places.now
    (ap enumerate_count c.rev.ensures.source ∙ c.enumerate.ensures.count)
    (ap (λ e. iter_rest (enumerate_source e)) c.rev.ensures.source ∙ ap iter_rest c.enumerate.ensures.source ∙ c.iter.ensures.rest) in
    chosen_last g.M.Make.order c.args.places.now c.reduce.result
    (reduced _ _ (better g.M.Make.order) c.reduce.result c.reduce.ensures.runs (λ x y r q k. search (rules, tests))
    (YieldsList-from_filter_map _ numbered (YieldsList-at c.filter_map.ensures.source back) c.filter_map.ensures.closure (λ x r q k. search (rules, tests))))
