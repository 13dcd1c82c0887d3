-- Ways to the head, one step at a time: k of n steps are done, and n - k are left.
use Rattle.std.proofs.Common.{◌≡◌, ℕ, zero, suc, ◌+◌, ◌-◌, ◌<◌, ◌≤◌, true, eqb, List, length, get_or, count_by, Some, None, refl, sym, ap, subst, inl, inr, ⊎_elim, arith}
use Rattle.std.proofs.lemmas.Bool.{cases_eq, cond-false, ne_eqb}
use Rattle.std.proofs.lemmas.List.Quantifiers.{position-Some}
use Rattle.lines.specs.declared.lines.Line.{Line}
use Rattle.lines.specs.declared.lines.Way.{Way}
use Rattle.lines.specs.Lines.{blank, house_at, beyond, serves, InForm}
use Rattle.plan.specs.declared.drafts.Draft.{Draft}
use Rattle.plan.specs.declared.rules.Rule.{Rule}
use Rattle.plan.specs.Judged.{Kept}
use Rattle.plan.specs.Rules.{lines_of, lowest, due, Leads}
use Rattle.plan.proofs.Counts.{counted, none_found, sole}

pub end_below : (w : Way) (n : ℕ) (l : Line) → InForm n l → house_at (beyond w) l < n
end_below Way.Direct n l form = form.0
end_below Way.Back n l form = form.1

pub due_house : (h : ℕ) → (h ≡ 0 → ⊥) → due h ≡ 1
due_house h far = cond-false (eqb h 0) 0 1 (ne_eqb h 0 far)

pub due_few : (h : ℕ) → due h ≤ 1
due_few h = ⊎_elim (λ e. subst (λ k. due k ≤ 1) (sym e) (omega arith)) (λ far. omega (arith, due_house h far)) (cases_eq h 0)

pub head_leads : (w : Way) (xs : List Line) (s : ℕ) → Leads w xs s 0
head_leads w xs zero = refl
head_leads w xs (suc s) = inl refl

module _ (d : Draft) (w : Way) (single : Kept (Rule.Single w) d) (h : ℕ) (lt : h < d.houses) where
  -- where no line serves the house, it is the head
  pub unserved : lowest (serves w h) (lines_of d) ≡ None → h ≡ 0
  unserved none = ⊎_elim (λ e. e) (λ far. absurd (omega (arith, none_found (serves w h) blank (lines_of d) none, single h lt, due_house h far))) (cases_eq h 0)

  module _ (i : ℕ) (first : lowest (serves w h) (lines_of d) ≡ Some i) where
    pub served : (i < length (lines_of d)) × (serves w h (get_or (lines_of d) i blank) ≡ true) × (h ≡ 0 → ⊥)
    served =
        let here = position-Some (serves w h) (lines_of d) i blank first in
        (here.0, here.1, λ head. omega (arith, counted (serves w h) blank (lines_of d) i here.0 here.1, single h lt, ap due head))

    -- the way of the line's other end is a way of the house that it serves
    pub leads_by : (k : ℕ) → k < d.houses → Leads w (lines_of d) (d.houses - (k + 1)) (house_at (beyond w) (get_or (lines_of d) i blank)) → Leads w (lines_of d) (d.houses - k) h
    leads_by k less on =
        let e : suc (d.houses - (k + 1)) ≡ d.houses - k = omega arith in
        subst (λ s. Leads w (lines_of d) s h) e (inr (i, served.0, served.1, on))

    on_from : (s : ℕ) → Leads w (lines_of d) (suc s) h → Leads w (lines_of d) s (house_at (beyond w) (get_or (lines_of d) i blank))
    on_from s (inl head) = absurd (served.2 head)
    on_from s (inr (j, within, serving, on)) =
        let few : count_by (serves w h) (lines_of d) ≤ 1 = omega (arith, single h lt, due_few h) in
        let same : j ≡ i = sole (serves w h) blank (lines_of d) j i few within served.0 serving served.1 in
        subst (λ k. Leads w (lines_of d) s (house_at (beyond w) (get_or (lines_of d) k blank))) same on

    -- and the house has no other
    pub leads_on : (k : ℕ) → k < d.houses → Leads w (lines_of d) (d.houses - k) h → Leads w (lines_of d) (d.houses - (k + 1)) (house_at (beyond w) (get_or (lines_of d) i blank))
    leads_on k less way =
        let e : d.houses - k ≡ suc (d.houses - (k + 1)) = omega arith in
        on_from (d.houses - (k + 1)) (subst (λ s. Leads w (lines_of d) s h) e way)
