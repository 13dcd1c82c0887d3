-- Walks between the head and a house, read from the house towards the head: alike on both ways.
use Rattle.std.proofs.Common.{◌≡◌, ℕ, ◌<◌, Bool, true, List, [], ◌∷◌, ◌++◌, reverse, length, get_or, sym, refl, ap, ◌∙◌, subst}
use mathlib.Core.List.{reverse-cons}
use Rattle.std.proofs.lemmas.List.{length-reverse, reverse-reverse}
use Rattle.lines.specs.declared.lines.Line.{Line}
use Rattle.lines.specs.declared.lines.Way.{Way}
use Rattle.lines.specs.Lines.{blank, house_at, near, beyond}
use Rattle.lines.specs.Walks.{Walk, Route, OnlyOne}

-- the lines of these numbers lead from house h towards the head, each from its near end to the end beyond
abbrev pub Trail : Way → (Line → Bool) → List Line → ℕ → List ℕ → Type 0
Trail w p xs h [] = h ≡ 0
Trail w p xs h (i ∷ is) =
    (i < length xs)
    × (p (get_or xs i blank) ≡ true)
    × (house_at (near w) (get_or xs i blank) ≡ h)
    × Trail w p xs (house_at (beyond w) (get_or xs i blank)) is

-- the walk of a trail, and the trail of a walk
abbrev pub turned : Way → List ℕ → List ℕ
turned Way.Direct is = reverse is
turned Way.Back is = is

pub turned_turned : (w : Way) (is : List ℕ) → turned w (turned w is) ≡ is
turned_turned Way.Direct is = reverse-reverse is
turned_turned Way.Back is = refl

pub turned_length : (w : Way) (is : List ℕ) → length (turned w is) ≡ length is
turned_length Way.Direct is = length-reverse is
turned_length Way.Back is = refl

module _ (p : Line → Bool) (xs : List Line) where
  walk_push : (a : ℕ) (is : List ℕ) (i b : ℕ) → Walk p xs a is b → i < length xs → p (get_or xs i blank) ≡ true → (get_or xs i blank).from ≡ b → Walk p xs a (is ++ i ∷ []) (get_or xs i blank).to
  walk_push a [] i b e lt ok from = (lt, ok, from ∙ sym e, refl)
  walk_push a (j ∷ js) i b (l, o, f, rest) lt ok from = (l, o, f, walk_push (get_or xs j blank).to js i b rest lt ok from)

  walk_pop : (a : ℕ) (is : List ℕ) (i c : ℕ) → Walk p xs a (is ++ i ∷ []) c → Walk p xs a is (get_or xs i blank).from × (i < length xs) × (p (get_or xs i blank) ≡ true) × ((get_or xs i blank).to ≡ c)
  walk_pop a [] i c (l, o, f, e) = (sym f, l, o, e)
  walk_pop a (j ∷ js) i c (l, o, f, rest) = let q = walk_pop (get_or xs j blank).to js i c rest in ((l, o, f, q.0), q.1, q.2, q.3)

  trail_out : (h : ℕ) (is : List ℕ) → Trail Way.Direct p xs h is → Walk p xs 0 (reverse is) h
  trail_out h [] e = sym e
  trail_out h (i ∷ is) (l, o, n, t) =
      let before = (get_or xs i blank).from in
      subst (λ js. Walk p xs 0 js h) (sym (reverse-cons i is))
      (subst (λ b. Walk p xs 0 (reverse is ++ i ∷ []) b) n (walk_push 0 (reverse is) i before (trail_out before is t) l o refl))

  out_trail : (h : ℕ) (is : List ℕ) → Walk p xs 0 (reverse is) h → Trail Way.Direct p xs h is
  out_trail h [] e = sym e
  out_trail h (i ∷ is) walk =
      let q = walk_pop 0 (reverse is) i h (subst (λ js. Walk p xs 0 js h) (reverse-cons i is) walk) in
      (q.1, q.2, q.3, out_trail (get_or xs i blank).from is q.0)

  trail_home : (h : ℕ) (is : List ℕ) → Trail Way.Back p xs h is → Walk p xs h is 0
  trail_home h [] e = e
  trail_home h (i ∷ is) (l, o, n, t) = (l, o, n, trail_home (get_or xs i blank).to is t)

  home_trail : (h : ℕ) (is : List ℕ) → Walk p xs h is 0 → Trail Way.Back p xs h is
  home_trail h [] e = e
  home_trail h (i ∷ is) (l, o, n, t) = (l, o, n, home_trail (get_or xs i blank).to is t)

  pub trail_route : (w : Way) (h : ℕ) (is : List ℕ) → Trail w p xs h is → Route w p xs h (turned w is)
  trail_route Way.Direct h is t = trail_out h is t
  trail_route Way.Back h is t = trail_home h is t

  pub route_trail : (w : Way) (h : ℕ) (is : List ℕ) → Route w p xs h is → Trail w p xs h (turned w is)
  route_trail Way.Direct h is walk = out_trail h (reverse is) (subst (λ js. Walk p xs 0 js h) (sym (reverse-reverse is)) walk)
  route_trail Way.Back h is walk = home_trail h is walk

  pub only_route : (w : Way) (h : ℕ) → OnlyOne (Trail w p xs h) → OnlyOne (Route w p xs h)
  only_route w h (is, t, one) = (
    turned w is,
    trail_route w h is t,
    λ js walk. sym (turned_turned w js) ∙ ap (turned w) (one (turned w js) (route_trail w h js walk)),
  )

  pub only_trail : (w : Way) (h : ℕ) → OnlyOne (Route w p xs h) → OnlyOne (Trail w p xs h)
  only_trail w h (is, walk, one) = (
    turned w is,
    route_trail w h is walk,
    λ js t. sym (turned_turned w js) ∙ ap (turned w) (one (turned w js) (trail_route w h js t)),
  )
