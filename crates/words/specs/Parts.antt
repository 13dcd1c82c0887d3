-- A text cut at its stops: its words at single spaces, its lines at line ends.
use Rattle.std.specs.Prelude.{ℕ, ◌==◌, List, [], ◌∷◌}
use Rattle.std.specs.List.{position_or_len, slice_split}

-- the length of the text before its first stop
abbrev pub front : ℕ → List ℕ → ℕ
front stop xs = position_or_len (λ x. x == stop) xs

-- the parts between the stops: one more than there are stops, and each may be empty
abbrev pub parts : ℕ → List ℕ → List (List ℕ)
parts stop xs = slice_split (λ x. x == stop) xs

-- the parts but for a last one that is empty
abbrev pub ended : List (List ℕ) → List (List ℕ)
ended [] = []
ended ([] ∷ []) = []
ended ((x ∷ w) ∷ []) = (x ∷ w) ∷ []
ended (w ∷ v ∷ ws) = w ∷ ended (v ∷ ws)

-- the words of a line are parted by one space
abbrev pub words : List ℕ → List (List ℕ)
words = parts 32

-- the lines of a text end with byte 0A, which the last may lack
abbrev pub lines : List ℕ → List (List ℕ)
lines xs = ended (parts 10 xs)
