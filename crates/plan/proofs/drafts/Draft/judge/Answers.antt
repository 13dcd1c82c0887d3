use Rattle.lines.specs.declared.lines.Way.{Way}
use Rattle.plan.specs.declared.rules.Rule.{Rule}
use Rattle.plan.proofs.Verdicts.{refuses, every, below_7, below_8, below_9, below_10, below_11}
use Rattle.plan.proofs.drafts.Draft.judge.Goals as goal

pub returns-in_err-check : goal.returns-in_err-check
returns-in_err-check c = refuses c.args.self (Rule.Single Way.Direct) _ _ c.from_residual.ensures.1 c.in_err-check.ensures (below_7 c.args.self)

pub returns-in_err-check-2 : goal.returns-in_err-check-2
returns-in_err-check-2 c =
    refuses c.args.self (Rule.Leading Way.Direct) _ _ c.from_residual-in_err-check-2.ensures.1 c.in_err-check-2.ensures
    (below_8 c.args.self c.in_ok-check.ensures)

pub returns-in_err-check-3 : goal.returns-in_err-check-3
returns-in_err-check-3 c =
    refuses c.args.self (Rule.Single Way.Back) _ _ c.from_residual-in_err-check-3.ensures.1 c.in_err-check-3.ensures
    (below_9 c.args.self c.in_ok-check.ensures c.in_ok-check-2.ensures)

pub returns-in_err-check-4 : goal.returns-in_err-check-4
returns-in_err-check-4 c =
    refuses c.args.self (Rule.Leading Way.Back) _ _ c.from_residual-in_err-check-4.ensures.1 c.in_err-check-4.ensures
    (below_10 c.args.self c.in_ok-check.ensures c.in_ok-check-2.ensures c.in_ok-check-3.ensures)

pub returns-in_err-check-5 : goal.returns-in_err-check-5
returns-in_err-check-5 c =
    refuses c.args.self Rule.Counters _ _ c.from_residual-in_err-check-5.ensures.1 c.in_err-check-5.ensures
    (below_11 c.args.self c.in_ok-check.ensures c.in_ok-check-2.ensures c.in_ok-check-3.ensures c.in_ok-check-4.ensures)

pub invariant_of-result : goal.invariant_of-result
invariant_of-result c = record {
  right = λ q h lt. ∣ every c.args.self c.in_ok-check.ensures c.in_ok-check-2.ensures c.in_ok-check-3.ensures c.in_ok-check-4.ensures c.in_ok-check-5.ensures q h lt ∣₁;
}
