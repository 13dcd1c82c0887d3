use Rattle.std.proofs.Common.{map, get_or, sym, ◌∙◌, arith, rules}
use Rattle.std.proofs.lemmas.List.{get_or-map, length-map, same_lists}
use Rattle.pulse.specs.Rounds.{idle}
use Rattle.plan.proofs.Filled.{filled}
use Rattle.row.proofs.questions.Question.idle_houses.Goals as goal

pub returns : goal.returns
returns g c =
    let f = idle g.Q.Quantity.sense in
    let cs = c.args.plan.now.draft.counters in
    let items = c.from_fn.ensures.items in
    same_lists c.from_fn.result (map f cs) (items.long ∙ sym (length-map cs f ∙ c.args.plan.now.draft.tables.1))
    (λ i d lt. filled _ (λ k. f (get_or cs k 0)) _ (λ k y q called. search rules) c.from_fn.result d 48 items i (omega arith) ∙ sym (get_or-map f cs i 0 d (omega arith)))
