-- A draft that is marked by its chosen lines keeps the five rules.
use Rattle.std.proofs.Common.{◌≡◌, ℕ, zero, suc, ◌-◌, ◌<◌, ◌≤◌, true, eqb, length, get_or, sym, refl, ◌∙◌, subst, inl, inr, arith}
use Rattle.std.proofs.Math.Dec.{eqb-suc-zero}
use Rattle.std.proofs.lemmas.Bool.{and_from, and_parts, cond-false, eq-eqb, eqb-true}
use Rattle.lines.specs.declared.lines.Way.{Way}
use Rattle.lines.specs.Lines.{blank, house_at, near, beyond, marked, serves}
use Rattle.plan.proofs.Counts.{counted, none_counted, one_counted}
use Rattle.plan.proofs.Ways.{end_below}
use Rattle.plan.proofs.Forms.{form_of, length_lines}
use Rattle.plan.specs.declared.drafts.Draft.{Draft}
use Rattle.plan.specs.declared.rules.Rule.{Rule}
use Rattle.plan.specs.Judged.{Kept}
use Rattle.plan.specs.Rules.{lines_of, due, Leads}
use Rattle.marker.specs.Distances.{Distance, Chosen}
use Rattle.marker.specs.Marked.{Remarked}
use Rattle.marker.proofs.Ends.{end_same, one_chosen, head_unchosen}
use Rattle.marker.proofs.Entries.{away_distance, away_zero, distance_away, head_away, near_by, one_distance}

module _ (d e : Draft) (rem : Remarked d e) (w : Way) (chosen : (h : ℕ) → 1 ≤ h → h < d.houses → (i : ℕ) × Chosen w (lines_of d) h i) where
  lines_same : length (lines_of e) ≡ d.lines
  lines_same = length_lines e ∙ rem.1

  near_same : (i : ℕ) → house_at (near w) (get_or (lines_of d) i blank) ≡ house_at (near w) (get_or (lines_of e) i blank)
  near_same i = end_same (lines_of d) (lines_of e) rem.3 (near w) i

  serves_chosen : (h i : ℕ) → i < length (lines_of e) → serves w h (get_or (lines_of e) i blank) ≡ true → Chosen w (lines_of d) h i
  serves_chosen h i lt serving =
      let l = get_or (lines_of e) i blank in
      let parts = and_parts (marked w l.marks) (eqb (house_at (near w) l) h) serving in
      let at : house_at (near w) (get_or (lines_of d) i blank) ≡ h = near_same i ∙ eqb-true (house_at (near w) l) h parts.1 in
      subst (λ k. Chosen w (lines_of d) k i) at ((rem.4 w i (omega (arith, lines_same))).0 parts.0)

  chosen_serves : (h i : ℕ) → Chosen w (lines_of d) h i → serves w h (get_or (lines_of e) i blank) ≡ true
  chosen_serves h i c =
      let l = get_or (lines_of e) i blank in
      let at = c.0.1 in
      let marks = (rem.4 w i (omega (arith, c.0.0, length_lines d))).1 (subst (λ k. Chosen w (lines_of d) k i) (sym at) c) in
      and_from (marked w l.marks) (eqb (house_at (near w) l) h) marks (eq-eqb (house_at (near w) l) h (sym (near_same i) ∙ at))

  within : (h i : ℕ) → Chosen w (lines_of d) h i → i < length (lines_of e)
  within h i c = omega (arith, c.0.0, lines_same, length_lines d)

  single : Kept (Rule.Single w) e
  single zero lt = none_counted (serves w 0) blank (lines_of e) (λ i l s. head_unchosen w (lines_of d) i (serves_chosen 0 i l s))
  single (suc h) lt =
      let c = chosen (suc h) (omega arith) (omega (arith, rem.0)) in
      let some = counted (serves w (suc h)) blank (lines_of e) c.0 (within (suc h) c.0 c.1) (chosen_serves (suc h) c.0 c.1) in
      let few = one_counted (serves w (suc h)) blank (lines_of e) (λ i j li lj si sj. one_chosen w (lines_of d) (suc h) i j (serves_chosen (suc h) i li si) (serves_chosen (suc h) j lj sj)) in
      let one : due (suc h) ≡ 1 = cond-false (eqb (suc h) 0) 0 1 (eqb-suc-zero h) in
      omega (arith, some, few, one)

  lead : (s k h : ℕ) → k ≤ s → h < d.houses → Distance w (lines_of d) h k → Leads w (lines_of e) s h
  lead zero k h le lt dist =
      let none : k ≡ 0 = omega arith in
      away_zero w (lines_of d) h (distance_away w (lines_of d) h 0 (subst (Distance w (lines_of d) h) none dist))
  lead (suc s) k zero le lt dist = inl refl
  lead (suc s) k (suc h) le lt dist =
      let c = chosen (suc h) (omega arith) lt in
      let away = c.1.0.2 in
      let same = one_distance w (lines_of d) (suc h) (suc away.0) k (distance_away w (lines_of d) (suc h) (suc away.0) away.2) (distance_away w (lines_of d) (suc h) k dist) in
      let on = lead s away.0 _ (omega (arith, same)) (end_below w d.houses _ (form_of d c.0 c.1.0.0)) away.1 in
      inr (c.0, within (suc h) c.0 c.1, chosen_serves (suc h) c.0 c.1, subst (Leads w (lines_of e) s) (end_same (lines_of d) (lines_of e) rem.3 (beyond w) c.0) on)

  leading : Kept (Rule.Leading w) e
  leading zero lt = lead (e.houses - 1) 0 0 (omega arith) (omega (arith, rem.0)) (away_distance w (lines_of d) 0 0 (head_away w (lines_of d)))
  leading (suc h) lt =
      let here : suc h < d.houses = omega (arith, rem.0) in
      let dist = (chosen (suc h) (omega arith) here).1.0.2 in
      let away = distance_away w (lines_of d) (suc h) (suc dist.0) dist.2 in
      let close = near_by w (lines_of d) d.houses (form_of d) (suc h) here away.0.0 away.0.2 in
      let same = one_distance w (lines_of d) (suc h) close.0 (suc dist.0) close.2 away in
      lead (e.houses - 1) (suc dist.0) (suc h) (omega (arith, close.1, same, rem.0)) here dist.2

pub keeps : (d e : Draft) → Remarked d e → ((w : Way) (h : ℕ) → 1 ≤ h → h < d.houses → (i : ℕ) × Chosen w (lines_of d) h i) → (q : Rule) → Kept q e
keeps d e rem chosen (Rule.Single w) = single d e rem w (chosen w)
keeps d e rem chosen (Rule.Leading w) = leading d e rem w (chosen w)
keeps d e rem chosen Rule.Counters = rem.5
