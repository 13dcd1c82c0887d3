-- Distances between the head and a house, and the line that leads one step nearer.
use Rattle.std.specs.Prelude.{◌≡◌, ℕ, suc, ◌<◌, ◌≤◌, Bool, true, List, length, slice_index_or}
use Rattle.lines.specs.declared.lines.Line.{Line}
use Rattle.lines.specs.declared.lines.Way.{Way}
use Rattle.lines.specs.Lines.{blank, house_at, near, beyond}
use Rattle.lines.specs.Walks.{Route}

-- every line counts, however it is marked
abbrev pub any_line : Line → Bool
any_line l = true

-- d is the fewest lines from the head to the house (direct), or from the house to the head (back)
abbrev pub Distance : Way → List Line → ℕ → ℕ → Type 0
Distance w xs h d =
    ((is : List ℕ) × (length is ≡ d) × Route w any_line xs h is)
    × ((js : List ℕ) → Route w any_line xs h js → d ≤ length js)

-- there is no walk at all
abbrev pub CutOff : Way → List Line → ℕ → Type 0
CutOff w xs h = (is : List ℕ) → Route w any_line xs h is → ⊥

-- the line i joins the house, at its near end, to a house one step nearer
abbrev pub Nearer : Way → List Line → ℕ → ℕ → Type 0
Nearer w xs h i =
    (i < length xs)
    × (house_at (near w) (slice_index_or xs i blank) ≡ h)
    × ((d : ℕ) × Distance w xs (house_at (beyond w) (slice_index_or xs i blank)) d × Distance w xs h (suc d))

-- and it is the lowest-numbered line that does
abbrev pub Chosen : Way → List Line → ℕ → ℕ → Type 0
Chosen w xs h i = Nearer w xs h i × ((j : ℕ) → j < i → Nearer w xs h j → ⊥)
