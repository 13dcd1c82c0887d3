-- What a draft in form says of the list of its lines.
use Rattle.std.proofs.Common.{◌≡◌, ℕ, ◌<◌, ◌≤◌, length, get_or, count_by, eqb, sym, subst, arith}
use Rattle.std.proofs.lemmas.Bool.{and_parts, eqb-true}
use Rattle.std.proofs.lemmas.List.{length-take-le, get_or-take}
use Rattle.plan.specs.declared.drafts.Draft.{Draft}
use Rattle.lines.specs.declared.lines.End.{End}
use Rattle.lines.specs.declared.lines.Way.{Way}
use Rattle.lines.specs.Lines.{blank, marked, meets, InForm}
use Rattle.plan.specs.Rules.{lines_of}
use Rattle.plan.proofs.Counts.{none_counted}

module _ (d : Draft) where
  pub length_lines : length (lines_of d) ≡ d.lines
  length_lines = length-take-le d.lines d.records (omega arith)

  pub form_of : (i : ℕ) → i < length (lines_of d) → InForm d.houses (get_or (lines_of d) i blank)
  form_of i h =
      let lt : i < d.lines = omega (arith, length_lines) in
      subst (InForm d.houses) (sym (get_or-take d.lines d.records i blank lt)) (d.form i lt)

  -- no back line enters what is no house
  pub none_enters : (h : ℕ) → d.houses ≤ h → count_by (meets Way.Back End.To h) (lines_of d) ≡ 0
  none_enters h past =
      none_counted (meets Way.Back End.To h) blank (lines_of d)
      (λ i lt enters.
      let l = get_or (lines_of d) i blank in
      let at : l.to ≡ h = eqb-true l.to h (and_parts (marked Way.Back l.marks) (eqb l.to h) enters).1 in
      omega (arith, (form_of i lt).1))
