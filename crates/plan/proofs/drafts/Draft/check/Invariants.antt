use Rattle.std.proofs.Common.{ℕ, ◌<◌}
use Rattle.plan.specs.Rules.{Keeps}
use Rattle.plan.proofs.drafts.Draft.check.Given as goal

abbrev pub invariant-loop-house : goal.invariant-loop-house
invariant-loop-house l = (h : ℕ) → h < l.house → Keeps l.rule l.self h
