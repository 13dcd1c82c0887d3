-- What the law needs of a plan: each house but the head has one line of each tree, counters count back lines, and what
-- passes along the lines of a tree holds of every house.
use Rattle.std.proofs.Common.{◌≡◌, ℕ, zero, suc, ◌+◌, ◌-◌, ◌<◌, ◌≤◌, Bool, true, false, ◌&&◌, eqb, ◌≢◌, length, get_or, count_by, sym, refl, ap, ◌∙◌, subst, inl, inr, ⊎_elim, arith}
use mathlib.Core.Logic.{∥∥₁_elim}
use base.Stored.{Coded-set, coded_bool, coded_ℕ}
use Rattle.std.proofs.lemmas.List.{get_or-take}
use Rattle.std.proofs.lemmas.Bool.{and_from, and_parts, cases_eq, cases_lt, cond-false, eq-eqb, eqb-true, ne_eqb}
use Rattle.lines.specs.declared.lines.End.{End}
use Rattle.lines.specs.declared.lines.Line.{Line}
use Rattle.lines.specs.declared.lines.Way.{Way}
use Rattle.lines.specs.Lines.{blank, house_at, near, beyond, marked, meets, serves}
use Rattle.plan.specs.declared.drafts.Draft.{Draft}
use Rattle.plan.specs.declared.plans.Plan.{Plan}
use Rattle.plan.specs.declared.rules.Rule.{Rule}
use Rattle.plan.specs.Rules.{lines_of, due, Leads}
use Rattle.plan.specs.Judged.{Kept}
use Rattle.plan.proofs.Counts.{sole, counted}
use Rattle.plan.proofs.Forms.{length_lines}
use Rattle.pulse.proofs.Totals.{adding, bit, counted_by, pick, regroup, sum, total_same}

abbrev pub line : Draft → ℕ → Line
line d i = get_or d.records i blank

-- the line belongs to the tree; its end at the house that it serves, and the other
abbrev pub in_tree : Way → Draft → ℕ → Bool
in_tree w d i = marked w (line d i).marks

abbrev pub near_end : Way → Draft → ℕ → ℕ
near_end w d i = house_at (near w) (line d i)

abbrev pub far_end : Way → Draft → ℕ → ℕ
far_end w d i = house_at (beyond w) (line d i)

-- the same of a plan
abbrev pub houses_of : Plan → ℕ
houses_of p = p.draft.houses

abbrev pub count_of : Plan → ℕ
count_of p = p.draft.lines

abbrev pub direct : Plan → ℕ → Bool
direct p i = in_tree Way.Direct p.draft i

abbrev pub back : Plan → ℕ → Bool
back p i = in_tree Way.Back p.draft i

abbrev pub start : Plan → ℕ → ℕ
start p i = (line p.draft i).from

abbrev pub end : Plan → ℕ → ℕ
end p i = (line p.draft i).to

bit_and : (x y : Bool) → bit (x && y) ≡ pick y (bit x)
bit_and true true = refl
bit_and true false = refl
bit_and false true = refl
bit_and false false = refl

pub positive : (n : ℕ) (f : ℕ → ℕ) → 1 ≤ sum n f → (i : ℕ) × (i < n) × (1 ≤ f i)
positive zero f some = absurd (omega arith)
positive (suc n) f some =
    ⊎_elim
    (λ h. (n, omega arith, h))
    (λ h. let r = positive n f (omega arith) in (r.0, omega (arith, r.1), r.2))
    (cases_lt 0 (f n))

pub due_house : (h : ℕ) → h ≢ 0 → due h ≡ 1
due_house h far = cond-false (eqb h 0) 0 1 (ne_eqb h 0 far)

due_few : (h : ℕ) → due h ≤ 1
due_few h = ⊎_elim (λ e. subst (λ k. due k ≤ 1) (sym e) (omega arith)) (λ far. omega (arith, due_house h far)) (cases_eq h 0)

due_sum : (n : ℕ) → sum (suc n) due ≡ n
due_sum zero = refl
due_sum (suc n) = omega (arith, due_sum n, due_house (suc n) (λ e. omega arith))

module _ (p : Plan) where
  single : (w : Way) → Kept (Rule.Single w) p.draft
  single w h lt = ∥∥₁_elim (p.right (Rule.Single w) h lt) (Coded-set coded_ℕ _ _) (λ e. e)

  at_line : (i : ℕ) → i < p.draft.lines → get_or (lines_of p.draft) i blank ≡ line p.draft i
  at_line i lt = get_or-take p.draft.lines p.draft.records i blank lt

  among : (i : ℕ) → i < p.draft.lines → i < length (lines_of p.draft)
  among i lt = omega (arith, length_lines p.draft)

  pub from_below : (i : ℕ) → i < p.draft.lines → (line p.draft i).from < p.draft.houses
  from_below i lt = (p.draft.form i lt).0

  pub to_below : (i : ℕ) → i < p.draft.lines → (line p.draft i).to < p.draft.houses
  to_below i lt = (p.draft.form i lt).1

  pub apart : (i : ℕ) → i < p.draft.lines → (line p.draft i).to ≢ (line p.draft i).from
  apart i lt = (p.draft.form i lt).2

  pub some_house : 1 ≤ p.draft.houses
  some_house = p.draft.size.0

  pub few_houses : p.draft.houses ≤ 48
  few_houses = p.draft.size.1

  near_below : (w : Way) (i : ℕ) → i < p.draft.lines → near_end w p.draft i < p.draft.houses
  near_below Way.Direct = to_below
  near_below Way.Back = from_below

  -- the lines of a tree that have the house at an end, as a sum over the lines
  meeting : (w : Way) (e : End) (h : ℕ) → count_by (meets w e h) (lines_of p.draft) ≡ sum p.draft.lines (λ i. pick (eqb (house_at e (line p.draft i)) h) (bit (in_tree w p.draft i)))
  meeting w e h =
      counted_by (meets w e h) blank (lines_of p.draft)
      ∙ ap (λ n. sum n (λ i. bit (meets w e h (get_or (lines_of p.draft) i blank)))) (length_lines p.draft)
      ∙ total_same ◌+◌ 0 adding p.draft.lines _ _
      (λ i lt.
      ap (λ l. bit (meets w e h l)) (at_line i lt)
      ∙ bit_and (in_tree w p.draft i) (eqb (house_at e (line p.draft i)) h))

  pub serving_sum : (w : Way) (h : ℕ) → h < p.draft.houses → sum p.draft.lines (λ i. pick (eqb (near_end w p.draft i) h) (bit (in_tree w p.draft i))) ≡ due h
  serving_sum w h lt = sym (meeting w (near w) h) ∙ single w h lt

  pub counter_sum : (h : ℕ) → h < p.draft.houses → get_or p.draft.counters h 0 ≡ sum p.draft.lines (λ i. pick (eqb (line p.draft i).to h) (bit (in_tree Way.Back p.draft i)))
  counter_sum h lt = ∥∥₁_elim (p.right Rule.Counters h lt) (Coded-set coded_ℕ _ _) (λ e. e) ∙ meeting Way.Back End.To h

  pub due_total : sum p.draft.houses due + 1 ≡ p.draft.houses
  due_total =
      let g : p.draft.houses ≡ suc (p.draft.houses - 1) = omega (arith, some_house) in
      omega (arith, subst (λ x. sum x due ≡ p.draft.houses - 1) (sym g) (due_sum (p.draft.houses - 1)), some_house)

  -- a tree has n - 1 lines
  pub tree_sum : (w : Way) → sum p.draft.lines (λ i. bit (in_tree w p.draft i)) + 1 ≡ p.draft.houses
  tree_sum w =
      let n = p.draft.houses in
      let e : sum n (λ h. sum p.draft.lines (λ i. pick (eqb (near_end w p.draft i) h) (bit (in_tree w p.draft i)))) ≡ sum p.draft.lines (λ i. bit (in_tree w p.draft i)) = regroup n p.draft.lines (near_end w p.draft) (λ i. bit (in_tree w p.draft i)) (near_below w) in
      let f : sum n (λ h. sum p.draft.lines (λ i. pick (eqb (near_end w p.draft i) h) (bit (in_tree w p.draft i)))) ≡ sum n due = total_same ◌+◌ 0 adding n _ _ (λ h lt. serving_sum w h lt) in
      omega (arith, e, f, due_total)

  serves_near : (w : Way) (i : ℕ) → i < p.draft.lines → in_tree w p.draft i ≡ true → (h : ℕ) → near_end w p.draft i ≡ h → serves w h (get_or (lines_of p.draft) i blank) ≡ true
  serves_near w i lt t h e =
      ap (serves w h) (at_line i lt)
      ∙ and_from (in_tree w p.draft i) (eqb (near_end w p.draft i) h) t (eq-eqb (near_end w p.draft i) h e)

  pub only_server : (w : Way) (i j : ℕ) → i < p.draft.lines → j < p.draft.lines → in_tree w p.draft i ≡ true → in_tree w p.draft j ≡ true → near_end w p.draft i ≡ near_end w p.draft j → i ≡ j
  only_server w i j li lj ti tj e =
      let h = near_end w p.draft j in
      let few : count_by (serves w h) (lines_of p.draft) ≤ 1 = omega (arith, single w h (near_below w j lj), due_few h) in
      sole (serves w h) blank (lines_of p.draft) i j few (among i li) (among j lj) (serves_near w i li ti h e) (serves_near w j lj tj h refl)

  pub head_unserved : (w : Way) (i : ℕ) → i < p.draft.lines → in_tree w p.draft i ≡ true → near_end w p.draft i ≢ 0
  head_unserved w i lt t e =
      omega (arith, counted (serves w 0) blank (lines_of p.draft) i (among i lt) (serves_near w i lt t 0 e), single w 0 (omega (arith, some_house)))

  pub server : (w : Way) (h : ℕ) → h < p.draft.houses → h ≢ 0 → (i : ℕ) × (i < p.draft.lines) × (in_tree w p.draft i ≡ true) × (near_end w p.draft i ≡ h)
  server w h lt far =
      let found = positive p.draft.lines (λ i. pick (eqb (near_end w p.draft i) h) (bit (in_tree w p.draft i))) (omega (arith, due_house h far, serving_sum w h lt)) in
      let i = found.0 in
      let is = picked (eqb (near_end w p.draft i) h) (in_tree w p.draft i) found.2 in
      (i, found.1, is.1, eqb-true (near_end w p.draft i) h is.0)
    where
      picked : (x y : Bool) → 1 ≤ pick x (bit y) → (x ≡ true) × (y ≡ true)
      picked true true some = (refl, refl)
      picked true false some = absurd (omega arith)
      picked false y some = absurd (omega arith)

  -- what holds of the head, and passes along each line of the tree from its far end to the house that it serves, holds of
  -- every house
  leading : (w : Way) (g : ℕ → Bool) → g 0 ≡ true → ((i : ℕ) → i < p.draft.lines → in_tree w p.draft i ≡ true → g (far_end w p.draft i) ≡ true → g (near_end w p.draft i) ≡ true) → (s h : ℕ) → Leads w (lines_of p.draft) s h → g h ≡ true
  leading w g head pass zero h e = ap g e ∙ head
  leading w g head pass (suc s) h (inl e) = ap g e ∙ head
  leading w g head pass (suc s) h (inr (i, lt, s-is, on)) =
      let l : i < p.draft.lines = omega (arith, length_lines p.draft) in
      let at = at_line i l in
      let parts = and_parts (in_tree w p.draft i) (eqb (near_end w p.draft i) h) (sym (ap (serves w h) at) ∙ s-is) in
      let before = leading w g head pass s (far_end w p.draft i) (subst (λ x. Leads w (lines_of p.draft) s (house_at (beyond w) x)) at on) in
      sym (ap g (eqb-true (near_end w p.draft i) h parts.1)) ∙ pass i l parts.0 before

  pub along : (w : Way) (g : ℕ → Bool) → g 0 ≡ true → ((i : ℕ) → i < p.draft.lines → in_tree w p.draft i ≡ true → g (far_end w p.draft i) ≡ true → g (near_end w p.draft i) ≡ true) → (h : ℕ) → h < p.draft.houses → g h ≡ true
  along w g head pass h lt =
      ∥∥₁_elim (p.right (Rule.Leading w) h lt) (Coded-set coded_bool _ _) (λ way. leading w g head pass (p.draft.houses - 1) h way)
