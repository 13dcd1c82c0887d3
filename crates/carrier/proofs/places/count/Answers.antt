use Rattle.std.proofs.Common.{rules, ◌+◌, ◌%◌, ◌^◌, cond, arith}
use Rattle.std.proofs.lemmas.Iterator.{YieldsList-from_slice}
use Rattle.std.proofs.lemmas.Iterator.Consumers.{fold_from_yields_List}
use Rattle.std.specs.Option.{is_some}
use Rattle.plan.proofs.Counts.{folded}
use Rattle.carrier.proofs.Held.{held_count}
use Rattle.carrier.proofs.places.count.Goals as goal

pub returns : goal.returns
returns c =
    let ps = c.args.places.now in
    let made = fold_from_yields_List _ (λ n p. cond (is_some p) ((n + 1) % 2 ^ 64) n) _ _ c.fold.ensures.ran
    (YieldsList-from_slice ps cc)
    (λ n p r q k. search rules) in
    omega (arith, made, folded is_some 0 ps (omega arith), held_count ps)
