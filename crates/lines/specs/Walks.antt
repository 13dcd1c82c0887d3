-- Walks along lines.
use Rattle.std.specs.Prelude.{◌≡◌, ℕ, ◌<◌, Bool, true, List, [], ◌∷◌, length, slice_index_or}
use Rattle.lines.specs.declared.lines.Line.{Line}
use Rattle.lines.specs.declared.lines.Way.{Way}
use Rattle.lines.specs.Lines.{blank}

-- the lines of these numbers lead one after the other from house a to house b, and each of them passes the test
abbrev pub Walk : (Line → Bool) → List Line → ℕ → List ℕ → ℕ → Type 0
Walk p xs a [] b = a ≡ b
Walk p xs a (i ∷ is) b =
    (i < length xs) × (p (slice_index_or xs i blank) ≡ true) × ((slice_index_or xs i blank).from ≡ a) × Walk p xs (slice_index_or xs i blank).to is b

-- a walk between the head and a house: out from the head on the way of direct lines, home to it on that of back lines
abbrev pub Route : Way → (Line → Bool) → List Line → ℕ → List ℕ → Type 0
Route Way.Direct p xs h is = Walk p xs 0 is h
Route Way.Back p xs h is = Walk p xs h is 0

-- there is exactly one
abbrev pub OnlyOne : (List ℕ → Type 0) → Type 0
OnlyOne P = (is : List ℕ) × P is × ((js : List ℕ) → P js → js ≡ is)
