use Rattle.std.proofs.Common.{rules, ℕ, ◌<◌, count_by, refl, ◌∙◌, ⊎_elim, arith}
use Rattle.std.proofs.lemmas.Bool.{cases_lt}
use Rattle.std.proofs.lemmas.List.{get_or_past}
use Rattle.std.proofs.lemmas.List.Sums.{count_by-le-length}
use Rattle.lines.specs.declared.lines.End.{End}
use Rattle.lines.specs.declared.lines.Way.{Way}
use Rattle.lines.specs.Lines.{meets}
use Rattle.plan.specs.declared.drafts.Draft.{Draft}
use Rattle.plan.specs.Rules.{lines_of}
use Rattle.plan.proofs.Filled.{filled}
use Rattle.plan.proofs.Forms.{length_lines, none_enters}
use Rattle.plan.proofs.drafts.Draft.counted.Goals as goal

abbrev entering : Draft → ℕ → ℕ
entering d h = count_by (meets Way.Back End.To h) (lines_of d)

small : (d : Draft) (h : ℕ) → entering d h < 256
small d h = omega (arith, count_by-le-length (meets Way.Back End.To h) (lines_of d), length_lines d)

pub invariant_of-self : goal.invariant_of-self
invariant_of-self c =
    let d = c.args.self in
    let made = c.from_fn-self.ensures.items in
    let counts = filled _ (entering d) _ (λ i r q k. search (rules, none_enters d i)) _ 0 48 made in
    let past = λ (h : ℕ). get_or_past c.from_fn-self.result h 0 in
    record {
      size = d.size;
      tables = (d.tables.0, made.long);
      form = d.form;
      bytes = λ h. ⊎_elim (λ lt. omega (arith, counts h lt, small d h)) (λ ge. omega (arith, past h (omega (arith, made.long)))) (cases_lt h 48);
      spare = d.spare;
      rest = λ h ge. ⊎_elim (λ lt. counts h lt ∙ none_enters d h ge) (λ ge'. past h (omega (arith, made.long))) (cases_lt h 48);
    }

pub returns : goal.returns
returns c =
    let d = c.args.self in
    let counts = filled _ (entering d) _ (λ i r q k. search (rules, none_enters d i)) _ 0 48 c.from_fn-self.ensures.items in
    (refl, refl, refl, refl, λ h lt. counts h (omega (arith, d.size)))
