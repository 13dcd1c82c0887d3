-- What stands where in the file of a draft, and that no two drafts have the same file.
use Rattle.std.proofs.Common.{◌≡◌, ℕ, zero, suc, ◌+◌, ◌*◌, ◌<◌, List, [], ◌∷◌, ◌++◌, length, get_or, take, drop, sym, refl, ap, ◌∙◌, subst, ap₂, ⊎_elim, arith}
use Rattle.std.proofs.lemmas.List.{get_or-append-add, get_or-take, ext_get_or}
use Rattle.std.proofs.lemmas.Bool.{cases_lt}
use Rattle.std.specs.List.{flat_map}
use Rattle.plan.specs.declared.drafts.Draft.{Draft}
use Rattle.lines.specs.declared.lines.Line.{Line}
use Rattle.lines.specs.declared.lines.Marks.{Marks}
use Rattle.plan.specs.Files.{byte, record_of, file_of, houses_in, lines_in, capacity_in}
use Rattle.lines.specs.Lines.{blank, marks_number}
use Rattle.plan.specs.Readers.{RecordAt}
use Rattle.plan.specs.Rules.{lines_of}
use Rattle.plan.proofs.Files.{records_length}
use Rattle.plan.proofs.Forms.{length_lines}
use Rattle.plan.proofs.Same.{same_draft}

record_past : (a b c : ℕ) (xs : List ℕ) (p : ℕ) (l : Line) → RecordAt xs p l → RecordAt (a ∷ b ∷ c ∷ xs) (suc (suc (suc p))) l
record_past a b c xs p l (f, t, m) =
    let e₁ : suc (suc (suc (p + 1))) ≡ suc (suc (suc p)) + 1 = omega arith in
    let e₂ : suc (suc (suc (p + 2))) ≡ suc (suc (suc p)) + 2 = omega arith in
    (f, t ∙ ap (byte (a ∷ b ∷ c ∷ xs)) e₁, m ∙ ap (byte (a ∷ b ∷ c ∷ xs)) e₂)

record_in : (ls : List Line) (t : List ℕ) (i : ℕ) → i < length ls → RecordAt (flat_map record_of ls ++ t) (3 * i) (get_or ls i blank)
record_in [] t i h = absurd (omega arith)
record_in (l ∷ ls) t zero h = (refl, refl, refl)
record_in (l ∷ ls) t (suc i) h =
    let e : suc (suc (suc (3 * i))) ≡ 3 * suc i = omega arith in
    subst (λ p. RecordAt (flat_map record_of (l ∷ ls) ++ t) p (get_or ls i blank)) e
    (record_past l.from l.to (marks_number l.marks) (flat_map record_of ls ++ t) (3 * i) (get_or ls i blank) (record_in ls t i (omega arith)))

module _ (d : Draft) where
  pub lines_are : lines_in (file_of d) ≡ d.lines
  lines_are = omega arith

  -- the record of line i
  pub record_of_line : (i : ℕ) → i < d.lines → RecordAt (drop 9 (file_of d)) (3 * i) (get_or d.records i blank)
  record_of_line i h =
      subst (RecordAt (drop 9 (file_of d)) (3 * i)) (get_or-take d.lines d.records i blank h)
      (record_in (lines_of d) (take d.houses d.counters) i (omega (arith, length_lines d)))

  -- the counter of house h
  pub counter_of_house : (h : ℕ) → h < d.houses → byte (drop 9 (file_of d)) (3 * d.lines + h) ≡ get_or d.counters h 0
  counter_of_house h lt =
      let at : 3 * d.lines + h ≡ length (flat_map record_of (lines_of d)) + h = omega (arith, records_length (lines_of d), length_lines d) in
      ap (byte (drop 9 (file_of d))) at
      ∙ get_or-append-add (flat_map record_of (lines_of d)) (take d.houses d.counters) h 0
      ∙ get_or-take d.houses d.counters h 0 lt

-- the marks of a number
marks_at : ℕ → Marks
marks_at zero = Marks.Neither
marks_at (suc zero) = Marks.Direct
marks_at (suc (suc zero)) = Marks.Back
marks_at (suc (suc (suc n))) = Marks.Both

marks_back : (x : Marks) → marks_at (marks_number x) ≡ x
unfolding marks_at
marks_back Marks.Neither = refl
marks_back Marks.Direct = refl
marks_back Marks.Back = refl
marks_back Marks.Both = refl

marks_are : (x y : Marks) → marks_number x ≡ marks_number y → x ≡ y
marks_are x y e = sym (marks_back x) ∙ ap marks_at e ∙ marks_back y

-- a record is of one line only
one_line : (xs : List ℕ) (p : ℕ) (x y : Line) → RecordAt xs p x → RecordAt xs p y → x ≡ y
one_line xs p x y a b =
    λ i. record { from = (a.0 ∙ sym b.0) i; to = (a.1 ∙ sym b.1) i; marks = marks_are x.marks y.marks (a.2 ∙ sym b.2) i }

-- no two drafts have the same file
pub one_draft : (d e : Draft) → file_of d ≡ file_of e → d ≡ e
one_draft d e same =
    let n : d.houses ≡ e.houses = ap houses_in same in
    let m : d.lines ≡ e.lines = sym (lines_are d) ∙ ap lines_in same ∙ lines_are e in
    let k : d.capacity ≡ e.capacity = ap capacity_in same in
    same_draft d e n m k
    (ext_get_or blank d.records e.records (d.tables.0 ∙ sym e.tables.0) (λ i _. ⊎_elim (line i m) (λ past. d.spare i past ∙ sym (e.spare i (omega arith))) (cases_lt i d.lines)))
    (ext_get_or 0 d.counters e.counters (d.tables.1 ∙ sym e.tables.1) (λ h _. ⊎_elim (counter h n m) (λ past. d.rest h past ∙ sym (e.rest h (omega arith))) (cases_lt h d.houses)))
  where
    line : (i : ℕ) → d.lines ≡ e.lines → i < d.lines → get_or d.records i blank ≡ get_or e.records i blank
    line i m lt =
        one_line (drop 9 (file_of e)) (3 * i) _ _
        (subst (λ f. RecordAt (drop 9 f) (3 * i) (get_or d.records i blank)) same (record_of_line d i lt))
        (record_of_line e i (omega arith))

    counter : (h : ℕ) → d.houses ≡ e.houses → d.lines ≡ e.lines → h < d.houses → get_or d.counters h 0 ≡ get_or e.counters h 0
    counter h n m lt =
        sym (counter_of_house d h lt)
        ∙ ap₂ (λ f l. byte (drop 9 f) (3 * l + h)) same m
        ∙ counter_of_house e h (omega arith)
