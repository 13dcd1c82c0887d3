-- What the rounds of the search find: after s rounds a house has its chosen line if its distance is at most s, and
-- otherwise all its trails are longer than s.
use Rattle.std.proofs.Common.{◌≡◌, ℕ, zero, suc, ◌+◌, ◌-◌, ◌<◌, ◌≤◌, true, eqb, List, [], ◌∷◌, length, get_or, Some, None, Option, sym, refl, ◌∙◌, subst, ⊎_elim, arith}
use Rattle.std.specs.List.{position_or_len}
use Rattle.std.proofs.Math.Dec.{eqb-suc-zero}
use Rattle.std.proofs.lemmas.List.Sums.{fails_before_first, passes_at_first}
use Rattle.std.proofs.lemmas.Bool.{and_from, and_parts, both_ways, cases_lt, eq-eqb, eqb-true, false≢true}
use Rattle.lines.proofs.Depths.{shallow}
use Rattle.lines.proofs.Trails.{Trail, turned, turned_length, trail_route, route_trail}
use Rattle.lines.specs.declared.lines.Line.{Line}
use Rattle.lines.specs.declared.lines.Way.{Way}
use Rattle.lines.specs.Lines.{blank, house_at, near, beyond, InForm}
use Rattle.plan.proofs.Ways.{end_below}
use Rattle.marker.specs.declared.tables.Step.{Step}
use Rattle.marker.specs.Distances.{any_line, Distance, Chosen}
use Rattle.marker.specs.Rounds.{distance_is, stands, steps_from, Next, Found}

-- DISTANCES BY TRAILS

abbrev pub Away : Way → List Line → ℕ → ℕ → Type 0
Away w xs h d =
    ((is : List ℕ) × (length is ≡ d) × Trail w any_line xs h is) × ((js : List ℕ) → Trail w any_line xs h js → d ≤ length js)

pub away_zero : (w : Way) (xs : List Line) (h : ℕ) → Away w xs h 0 → h ≡ 0
away_zero w xs h (([], long, t), least) = t
away_zero w xs h ((i ∷ is, long, t), least) = absurd (omega arith)

-- the distance of an entry, or 0 where there is none
abbrev depth_of : Option Step → ℕ
depth_of (Some step) = step.distance
depth_of None = 0

module _ (w : Way) (xs : List Line) where
  pub away_distance : (h d : ℕ) → Away w xs h d → Distance w xs h d
  away_distance h d ((is, long, t), least) = (
    (turned w is, turned_length w is ∙ long, trail_route any_line xs w h is t),
    λ js walk. subst (λ k. d ≤ k) (turned_length w js) (least (turned w js) (route_trail any_line xs w h js walk)),
  )

  pub distance_away : (h d : ℕ) → Distance w xs h d → Away w xs h d
  distance_away h d ((is, long, walk), least) = (
    (turned w is, turned_length w is ∙ long, route_trail any_line xs w h is walk),
    λ js t. subst (λ k. d ≤ k) (turned_length w js) (least (turned w js) (trail_route any_line xs w h js t)),
  )

  pub one_distance : (h a b : ℕ) → Away w xs h a → Away w xs h b → a ≡ b
  one_distance h a b ((is, ia, ti), leasta) ((js, jb, tj), leastb) = omega (arith, leasta js tj, leastb is ti)

  pub head_away : Away w xs 0 0
  head_away = (([], refl, refl), λ js t. omega arith)

  -- ENTRIES

  -- after s rounds
  abbrev pub Entry : ℕ → ℕ → Option Step → Type 0
  Entry s h (Some step) = (step.distance ≤ s) × Away w xs h step.distance × Chosen w xs h step.line
  Entry s h None = (is : List ℕ) → Trail w any_line xs h is → s < length is

  entry_at : (s g : ℕ) (o : Option Step) → Entry s g o → distance_is o s ≡ true → Away w xs g s
  entry_at s g (Some step) (le, away, _) e = subst (Away w xs g) (eqb-true step.distance s e) away
  entry_at s g None none e = absurd (false≢true e)

  entry_is : (s g : ℕ) (o : Option Step) → Entry s g o → Away w xs g s → distance_is o s ≡ true
  entry_is s g (Some step) (le, away, _) at = eq-eqb step.distance s (one_distance g step.distance s away at)
  entry_is s g None none at = absurd (omega (arith, none at.0.0 at.0.2, at.0.1))

  entry_within : (s g : ℕ) (o : Option Step) → Entry s g o → (is : List ℕ) → Trail w any_line xs g is → length is ≤ s → (e : ℕ) × (e ≤ s) × Away w xs g e
  entry_within s g (Some step) (le, away, _) is t short = (step.distance, le, away)
  entry_within s g None none is t short = absurd (omega (arith, none is t))

  depth_away : (s g e : ℕ) (o : Option Step) → Entry s g o → e ≤ s → Away w xs g e → depth_of o ≡ e
  depth_away s g e (Some step) (le, away, _) below at = one_distance g step.distance e away at
  depth_away s g e None none below at = absurd (omega (arith, none at.0.0 at.0.2, at.0.1))

  away_depth : (s g k : ℕ) (o : Option Step) → Entry s g o → depth_of o ≡ suc k → (suc k ≤ s) × Away w xs g (suc k)
  away_depth s g k (Some step) (le, away, _) e = (omega arith, subst (Away w xs g) e away)
  away_depth s g k None none e = absurd (omega arith)

  pub entry_start : (h : ℕ) → 1 ≤ h → Entry 0 h None
  entry_start h far [] e = absurd (omega arith)
  entry_start h far (i ∷ is) t = omega arith

  module _ (n : ℕ) (form : (i : ℕ) → i < length xs → InForm n (get_or xs i blank)) where
    ends : (i : ℕ) → i < length xs → house_at (beyond w) (get_or xs i blank) < n
    ends i h = end_below w n (get_or xs i blank) (form i h)

    module _ (s : ℕ) (found : ℕ → Option Step) (ok : (g : ℕ) → 1 ≤ g → g < n → Entry s g (found g)) where
      stands_away : (g : ℕ) → g < n → stands found s g ≡ true → Away w xs g s
      stands_away zero lt there = subst (Away w xs 0) (sym (eqb-true s 0 there)) head_away
      stands_away (suc g) lt there = entry_at s (suc g) (found (suc g)) (ok (suc g) (omega arith) lt) (rw eqb-suc-zero at there)

      away_stands : (g : ℕ) → g < n → Away w xs g s → stands found s g ≡ true
      away_stands zero lt at = eq-eqb s 0 (one_distance 0 s 0 at head_away)
      away_stands (suc g) lt at = rw eqb-suc-zero (entry_is s (suc g) (found (suc g)) (ok (suc g) (omega arith) lt) at)

      within : (g : ℕ) → g < n → (is : List ℕ) → Trail w any_line xs g is → length is ≤ s → (e : ℕ) × (e ≤ s) × Away w xs g e
      within zero lt is t short = (0, omega arith, head_away)
      within (suc g) lt is t short = entry_within s (suc g) (found (suc g)) (ok (suc g) (omega arith) lt) is t short

      stepping : (h i : ℕ) → i < length xs → house_at (near w) (get_or xs i blank) ≡ h → Away w xs (house_at (beyond w) (get_or xs i blank)) s → steps_from w found s h (get_or xs i blank) ≡ true
      stepping h i lt at away =
          and_from (eqb (house_at (near w) (get_or xs i blank)) h) (stands found s (house_at (beyond w) (get_or xs i blank))) (eq-eqb _ h at) (away_stands _ (ends i lt) away)

      longer : (h : ℕ) → 1 ≤ h → Entry s h None → ((j : ℕ) → j < length xs → steps_from w found s h (get_or xs j blank) ≡ true → ⊥) → (is : List ℕ) → Trail w any_line xs h is → suc s < length is
      longer h far none no_step [] e = absurd (omega arith)
      longer h far none no_step (i ∷ is) (lt, ok-i, at, t) =
          ⊎_elim
          (λ short.
          let g = house_at (beyond w) (get_or xs i blank) in
          let near_g = within g (ends i lt) is t (omega arith) in
          let js = near_g.2.0.0 in
          let last : near_g.0 ≡ s = omega (arith, near_g.1, near_g.2.0.1, none (i ∷ js) (lt, refl, at, near_g.2.0.2)) in
          absurd (no_step i lt (stepping h i lt at (subst (Away w xs g) last near_g.2))))
          (λ long. omega arith)
          (cases_lt (length is) (suc s))

      pub next_entry : (h : ℕ) → 1 ≤ h → (f o : Option Step) → Entry s h f → Next w xs found s h f o → Entry (suc s) h o
      next_entry h far (Some step) o (le, away, chosen) e = subst (Entry (suc s) h) (sym e) (omega arith, away, chosen)
      next_entry h far None None none no_step = longer h far none no_step
      next_entry h far None (Some step) none (dist, lt, stepped, low) =
          let i = step.line in
          let g = house_at (beyond w) (get_or xs i blank) in
          let parts = and_parts (eqb (house_at (near w) (get_or xs i blank)) h) (stands found s g) stepped in
          let at : house_at (near w) (get_or xs i blank) ≡ h = eqb-true (house_at (near w) (get_or xs i blank)) h parts.0 in
          let g-at = stands_away g (ends i lt) parts.1 in
          let is = g-at.0.0 in
          let h_at : Away w xs h (suc s) = ((i ∷ is, omega (arith, g-at.0.1), (lt, refl, at, g-at.0.2)), λ js u. none js u) in
          let dist_is : suc s ≡ step.distance = omega (arith, dist) in (
            omega (arith, dist),
            subst (Away w xs h) dist_is h_at,
            (
              (lt, at, (s, away_distance g s g-at, away_distance h (suc s) h_at)),
              λ j below nearer.
                  let d-is = one_distance h (suc nearer.2.0) (suc s) (distance_away h (suc nearer.2.0) nearer.2.2) h_at in
                  let same : nearer.2.0 ≡ s = omega (arith, d-is) in
                  low j below (stepping h j nearer.0 nearer.1 (subst (Away w xs _) same (distance_away _ nearer.2.0 nearer.2.1))),
            ),
          )

      -- some entry follows each
      follow : (h : ℕ) (f : Option Step) → (o : Option Step) × Next w xs found s h f o
      follow h (Some step) = (Some step, refl)
      follow h None =
          let p = steps_from w found s h in
          ⊎_elim
          (λ lt. (Some (record { distance = s + 1; line = position_or_len p xs }), (refl, lt, passes_at_first p xs blank lt, λ j below. both_ways _ (fails_before_first p xs j blank below))))
          (λ ge. (None, λ j lt. both_ways _ (fails_before_first p xs j blank (omega arith))))
          (cases_lt (position_or_len p xs) (length xs))

    entries : (s : ℕ) → (found : ℕ → Option Step) × ((g : ℕ) → 1 ≤ g → g < n → Entry s g (found g))
    entries zero = ((λ _. None), λ g far lt. entry_start g far)
    entries (suc s) =
        let old = entries s in (
          (λ g. (follow s old.0 old.1 g (old.0 g)).0),
          λ g far lt. next_entry s old.0 old.1 g far (old.0 g) (follow s old.0 old.1 g (old.0 g)).0 (old.1 g far lt) (follow s old.0 old.1 g (old.0 g)).1,
        )

    -- EVERY DISTANCE IS BELOW n

    away_down : (h k : ℕ) → Away w xs h (suc k) → (g : ℕ) × (g < n) × Away w xs g k
    away_down h k (([], long, t), least) = absurd (omega arith)
    away_down h k ((i ∷ is, long, (lt, ok, at, t)), least) = (
      house_at (beyond w) (get_or xs i blank),
      ends i lt,
      ((is, omega arith, t), λ js u. omega (arith, least (i ∷ js) (lt, refl, at, u))),
    )

    module _ (s : ℕ) where
      -- a house's distance, or 0 where it is not reached
      abbrev depth : ℕ → ℕ
      depth zero = 0
      depth (suc g) = depth_of ((entries s).0 (suc g))

      depth_is : (g e : ℕ) → g < n → e ≤ s → Away w xs g e → depth g ≡ e
      depth_is zero e lt le away = one_distance 0 0 e head_away away
      depth_is (suc g) e lt le away = depth_away s (suc g) e ((entries s).0 (suc g)) ((entries s).1 (suc g) (omega arith) lt) le away

      deep : (h k : ℕ) → h < n → depth h ≡ suc k → (suc k ≤ s) × Away w xs h (suc k)
      deep zero k lt e = absurd (omega arith)
      deep (suc h) k lt e = away_depth s (suc h) k ((entries s).0 (suc h)) ((entries s).1 (suc h) (omega arith) lt) e

      down : (h : ℕ) → h < n → (k : ℕ) → depth h ≡ suc k → (g : ℕ) × (g < n) × (depth g ≡ k)
      down h lt k e =
          let d = deep h k lt e in
          let next = away_down h k d.1 in
          (next.0, next.1, depth_is next.0 k next.1 (omega (arith, d.0)) next.2)

    pub near_by : (h : ℕ) → h < n → (is : List ℕ) → Trail w any_line xs h is → (e : ℕ) × (e < n) × Away w xs h e
    near_by h lt is t =
        let s = length is in
        let k = within s (entries s).0 (entries s).1 h lt is t (omega arith) in
        (k.0, subst (λ m. m < n) (depth_is s h k.0 lt k.1 k.2) (shallow n (depth s) (down s) h lt), k.2)

    -- after n - 1 rounds the search is over
    pub entry_found : (h : ℕ) → h < n → (o : Option Step) → Entry (n - 1) h o → Found w xs h o
    entry_found h lt (Some step) (le, away, chosen) = chosen
    entry_found h lt None none = λ is walk.
        let near-e = near_by h lt (turned w is) (route_trail any_line xs w h is walk) in
        omega (arith, near-e.1, near-e.2.0.1, none near-e.2.0.0 near-e.2.0.2)
