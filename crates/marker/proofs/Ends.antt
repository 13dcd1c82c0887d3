-- Distances and chosen lines rest on the ends of the lines alone.
use Rattle.std.proofs.Common.{◌≡◌, ℕ, suc, ◌<◌, List, [], ◌∷◌, get_or, sym, refl, ◌∙◌, subst, ⊎_elim, arith}
use Rattle.std.proofs.lemmas.Bool.{cases_order}
use Rattle.lines.specs.declared.lines.End.{End}
use Rattle.lines.specs.declared.lines.Line.{Line}
use Rattle.lines.specs.declared.lines.Way.{Way}
use Rattle.lines.specs.Lines.{blank, house_at, near, beyond}
use Rattle.lines.specs.Walks.{Walk, Route}
use Rattle.marker.specs.Distances.{any_line, Distance, CutOff, Nearer, Chosen}
use Rattle.marker.specs.Marked.{SameEnds}
use Rattle.marker.proofs.Entries.{distance_away}

pub ends_back : (xs ys : List Line) → SameEnds xs ys → SameEnds ys xs
ends_back xs ys (long, ends) = (sym long, λ i. (sym (ends i).0, sym (ends i).1))

pub end_same : (xs ys : List Line) → SameEnds xs ys → (e : End) (i : ℕ) → house_at e (get_or xs i blank) ≡ house_at e (get_or ys i blank)
end_same xs ys same End.From i = (same.1 i).0
end_same xs ys same End.To i = (same.1 i).1

module _ (xs ys : List Line) (same : SameEnds xs ys) where
  walk_same : (a : ℕ) (is : List ℕ) (b : ℕ) → Walk any_line xs a is b → Walk any_line ys a is b
  walk_same a [] b e = e
  walk_same a (i ∷ is) b (lt, ok, from, rest) = (
    subst (λ k. i < k) same.0 lt,
    refl,
    sym (same.1 i).0 ∙ from,
    subst (λ g. Walk any_line ys g is b) (same.1 i).1 (walk_same (get_or xs i blank).to is b rest),
  )

  pub route_same : (w : Way) (h : ℕ) (is : List ℕ) → Route w any_line xs h is → Route w any_line ys h is
  route_same Way.Direct h is walk = walk_same 0 is h walk
  route_same Way.Back h is walk = walk_same h is 0 walk

module _ (xs ys : List Line) (same : SameEnds xs ys) (w : Way) where
  distance_same : (h d : ℕ) → Distance w xs h d → Distance w ys h d
  distance_same h d ((is, long, walk), least) =
      ((is, long, route_same xs ys same w h is walk), λ js back. least js (route_same ys xs (ends_back xs ys same) w h js back))

  nearer_same : (h i : ℕ) → Nearer w xs h i → Nearer w ys h i
  nearer_same h i (lt, at, (d, g, far)) = (
    subst (λ k. i < k) same.0 lt,
    sym (end_same xs ys same (near w) i) ∙ at,
    (d, subst (λ k. Distance w ys k d) (end_same xs ys same (beyond w) i) (distance_same _ d g), distance_same h (suc d) far),
  )

pub chosen_same : (xs ys : List Line) → SameEnds xs ys → (w : Way) (h i : ℕ) → Chosen w xs h i → Chosen w ys h i
chosen_same xs ys same w h i (here, low) =
    (nearer_same xs ys same w h i here, λ j lt there. low j lt (nearer_same ys xs (ends_back xs ys same) w h j there))

module _ (w : Way) (xs : List Line) where
  -- a house has one chosen line at the most
  pub one_chosen : (h i j : ℕ) → Chosen w xs h i → Chosen w xs h j → i ≡ j
  one_chosen h i j a b =
      ⊎_elim (λ e. e) (⊎_elim (λ lt. absurd (b.1 i lt a.0)) (λ gt. absurd (a.1 j gt b.0))) (cases_order i j)

  -- and the head has none
  pub head_unchosen : (i : ℕ) → Chosen w xs 0 i → ⊥
  head_unchosen i chosen = omega (arith, (distance_away w xs 0 (suc chosen.0.2.0) chosen.0.2.2).1 [] refl)

  -- a house with a chosen line is not cut off, nor is the head
  pub chosen_joined : (h i : ℕ) → Chosen w xs h i → CutOff w xs h → ⊥
  chosen_joined h i chosen cut = cut chosen.0.2.2.0.0 chosen.0.2.2.0.2

pub head_joined : (w : Way) (xs : List Line) → CutOff w xs 0 → ⊥
head_joined Way.Direct xs cut = cut [] refl
head_joined Way.Back xs cut = cut [] refl
