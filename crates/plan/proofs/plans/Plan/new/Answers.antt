use Rattle.std.proofs.Common.{ℕ, ◌<◌, sym, refl, subst, arith}
use Rattle.lines.specs.Lines.{blank}
use Rattle.plan.proofs.Records.{all_alike}
use Rattle.plan.proofs.Verdicts.{alone}
use Rattle.plan.proofs.plans.Plan.new.Goals as goal

pub invariant_of-result : goal.invariant_of-result
invariant_of-result c = record {
  size = (omega arith, omega arith, omega arith, omega arith, omega arith);
  tables = (refl, refl);
  form = λ i h. absurd (omega arith);
  bytes = λ h. let small : ℕ → Type 0 = λ x. x < 256 in subst small (sym (all_alike 0 48 h)) (omega arith);
  spare = λ i _. all_alike blank 128 i;
  rest = λ h _. all_alike 0 48 h;
}

pub invariant_of-result-2 : goal.invariant_of-result-2
invariant_of-result-2 c = record { right = λ q h lt. ∣ alone _ refl refl refl q h lt ∣₁ }
