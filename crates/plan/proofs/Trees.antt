-- The rules of a tree, and the tree: each says the other.
use Rattle.std.proofs.Common.{◌≡◌, ℕ, zero, suc, ◌-◌, ◌<◌, ◌≤◌, Bool, true, eqb, List, [], ◌∷◌, length, get_or, count_by, sym, refl, ap, ◌∙◌, subst, inl, inr, ⊎_elim, arith}
use Rattle.std.proofs.lemmas.Bool.{and_from, and_parts, cases_eq, cases_lt, eq-eqb, eqb-true}
use Rattle.lines.proofs.Depths.{shallow}
use Rattle.lines.proofs.Trails.{Trail}
use Rattle.lines.specs.declared.lines.Line.{Line}
use Rattle.lines.specs.declared.lines.Way.{Way}
use Rattle.lines.specs.Lines.{blank, house_at, near, beyond, marked, serves}
use Rattle.lines.specs.Walks.{OnlyOne}
use Rattle.plan.specs.declared.drafts.Draft.{Draft}
use Rattle.plan.specs.declared.rules.Rule.{Rule}
use Rattle.plan.specs.Judged.{Kept}
use Rattle.plan.specs.Rules.{lines_of, due, Leads}
use Rattle.plan.proofs.Counts.{counted, sole, none_counted, one_counted}
use Rattle.plan.proofs.Forms.{form_of}
use Rattle.plan.proofs.Ways.{end_below, due_few, due_house}

abbrev pub in_tree : Way → Line → Bool
in_tree w l = marked w l.marks

-- a line of the tree with the house at its near end serves it, and the other way round
serving : (w : Way) (h : ℕ) (l : Line) → in_tree w l ≡ true → house_at (near w) l ≡ h → serves w h l ≡ true
serving w h l marks at = and_from (in_tree w l) (eqb (house_at (near w) l) h) marks (eq-eqb (house_at (near w) l) h at)

served : (w : Way) (h : ℕ) (l : Line) → serves w h l ≡ true → (in_tree w l ≡ true) × (house_at (near w) l ≡ h)
served w h l s =
    let parts = and_parts (in_tree w l) (eqb (house_at (near w) l) h) s in
    (parts.0, eqb-true (house_at (near w) l) h parts.1)

due_head : due 0 ≡ 0
due_head = refl

module _ (d : Draft) (w : Way) where
  ends : (i : ℕ) → i < length (lines_of d) → house_at (beyond w) (get_or (lines_of d) i blank) < d.houses
  ends i h = end_below w d.houses (get_or (lines_of d) i blank) (form_of d i h)

  -- FROM THE RULES TO THE TREE

  trail_of : (s h : ℕ) → Leads w (lines_of d) s h → (is : List ℕ) × Trail w (in_tree w) (lines_of d) h is
  trail_of zero h e = ([], e)
  trail_of (suc s) h (inl e) = ([], e)
  trail_of (suc s) h (inr (i, lt, s-is, on)) =
      let rest = trail_of s (house_at (beyond w) (get_or (lines_of d) i blank)) on in
      let parts = served w h (get_or (lines_of d) i blank) s-is in
      (i ∷ rest.0, (lt, parts.0, parts.1, rest.1))

  one_trail : Kept (Rule.Single w) d → (h : ℕ) → h < d.houses → (is js : List ℕ) → Trail w (in_tree w) (lines_of d) h is → Trail w (in_tree w) (lines_of d) h js → js ≡ is
  one_trail single h lt [] [] e t = refl
  one_trail single h lt [] (j ∷ js) e (l, m, at, t) =
      absurd (omega (arith, counted (serves w h) blank (lines_of d) j l (serving w h _ m at), single h lt, ap due e))
  one_trail single h lt (i ∷ is) [] (l, m, at, t) e =
      absurd (omega (arith, counted (serves w h) blank (lines_of d) i l (serving w h _ m at), single h lt, ap due e))
  one_trail single h lt (i ∷ is) (j ∷ js) (l, m, at, t) (l', m', at', t') =
      let few : count_by (serves w h) (lines_of d) ≤ 1 = omega (arith, single h lt, due_few h) in
      let same : j ≡ i = sole (serves w h) blank (lines_of d) j i few l' l (serving w h _ m' at') (serving w h _ m at) in
      let on = subst (λ k. Trail w (in_tree w) (lines_of d) (house_at (beyond w) (get_or (lines_of d) k blank)) js) same t' in
      ap (λ k. k ∷ js) same ∙ ap (λ ks. i ∷ ks) (one_trail single (house_at (beyond w) (get_or (lines_of d) i blank)) (ends i l) is js t on)

  pub tree_of : Kept (Rule.Single w) d → (h : ℕ) → h < d.houses → Leads w (lines_of d) (d.houses - 1) h → OnlyOne (Trail w (in_tree w) (lines_of d) h)
  tree_of single h lt way =
      let t = trail_of (d.houses - 1) h way in
      (t.0, t.1, λ js u. one_trail single h lt t.0 js t.1 u)

  -- FROM THE TREE TO THE RULES

  trail_leads : (is : List ℕ) (s h : ℕ) → length is ≤ s → Trail w (in_tree w) (lines_of d) h is → Leads w (lines_of d) s h
  trail_leads [] zero h le e = e
  trail_leads [] (suc s) h le e = inl e
  trail_leads (i ∷ is) zero h le t = absurd (omega arith)
  trail_leads (i ∷ is) (suc s) h le (l, m, at, t) = inr (i, l, serving w h _ m at, trail_leads is s _ (omega arith) t)

  module _ (tree : (h : ℕ) → h < d.houses → OnlyOne (Trail w (in_tree w) (lines_of d) h)) where
    past : (h i : ℕ) → i < length (lines_of d) → serves w h (get_or (lines_of d) i blank) ≡ true → (is : List ℕ) × Trail w (in_tree w) (lines_of d) h (i ∷ is)
    past h i l s =
        let on = tree (house_at (beyond w) (get_or (lines_of d) i blank)) (ends i l) in
        let parts = served w h (get_or (lines_of d) i blank) s in
        (on.0, (l, parts.0, parts.1, on.1))

    none_at_head : (i : ℕ) → i < length (lines_of d) → serves w 0 (get_or (lines_of d) i blank) ≡ true → ⊥
    none_at_head i l s =
        let only = tree 0 (omega arith) in
        let long = past 0 i l s in
        omega (arith, ap length (only.2 [] refl), ap length (only.2 (i ∷ long.0) long.1))

    one_at_most : (h : ℕ) → h < d.houses → (i j : ℕ) → i < length (lines_of d) → j < length (lines_of d) → serves w h (get_or (lines_of d) i blank) ≡ true → serves w h (get_or (lines_of d) j blank) ≡ true → i ≡ j
    one_at_most h lt i j li lj si sj =
        let only = tree h lt in
        let a = past h i li si in
        let b = past h j lj sj in
        ap (λ ks. get_or ks 0 0) (only.2 (i ∷ a.0) a.1 ∙ sym (only.2 (j ∷ b.0) b.1))

    some_server : (h : ℕ) → (h ≡ 0 → ⊥) → (is : List ℕ) → Trail w (in_tree w) (lines_of d) h is → 1 ≤ count_by (serves w h) (lines_of d)
    some_server h far [] e = absurd (far e)
    some_server h far (i ∷ is) (l, m, at, t) = counted (serves w h) blank (lines_of d) i l (serving w h _ m at)

    pub tree_single : Kept (Rule.Single w) d
    tree_single h lt =
        ⊎_elim
        (λ e. subst (λ k. count_by (serves w k) (lines_of d) ≡ due k) (sym e) (none_counted (serves w 0) blank (lines_of d) none_at_head))
        (λ far.
        let few : count_by (serves w h) (lines_of d) ≤ 1 = one_counted (serves w h) blank (lines_of d) (one_at_most h lt) in
        omega (arith, due_house h far, some_server h far (tree h lt).0 (tree h lt).1))
        (cases_eq h 0)

    depth : ℕ → ℕ
    depth h = elim (cases_lt h d.houses) [ inl lt ↦ length (tree h lt).0 | inr _ ↦ 0 ]

    depth_is : (h : ℕ) (lt : h < d.houses) → depth h ≡ length (tree h lt).0
    unfolding depth
    depth_is h lt =
        elim (cases_lt h d.houses) as (λ c. elim c [ inl l ↦ length (tree h l).0 | inr _ ↦ 0 ] ≡ length (tree h lt).0)
        [ inl l ↦ ap length ((tree h lt).2 (tree h l).0 (tree h l).1) | inr ge ↦ absurd (omega arith) ]

    down : (h : ℕ) → h < d.houses → (k : ℕ) → depth h ≡ suc k → (g : ℕ) × (g < d.houses) × (depth g ≡ k)
    down h lt k e = next (tree h lt).0 (tree h lt).1 (sym (depth_is h lt) ∙ e)
      where
        next : (is : List ℕ) → Trail w (in_tree w) (lines_of d) h is → length is ≡ suc k → (g : ℕ) × (g < d.houses) × (depth g ≡ k)
        next [] t long = absurd (omega arith)
        next (i ∷ is) (l, m, at, t) long =
            let g = house_at (beyond w) (get_or (lines_of d) i blank) in
            let within : g < d.houses = ends i l in
            let shorter : length is ≡ k = omega arith in
            (g, within, depth_is g within ∙ sym (ap length ((tree g within).2 is t)) ∙ shorter)

    pub tree_leading : Kept (Rule.Leading w) d
    tree_leading h lt =
        let bound = shallow d.houses depth down h lt in
        trail_leads (tree h lt).0 (d.houses - 1) h (omega (arith, depth_is h lt)) (tree h lt).1
