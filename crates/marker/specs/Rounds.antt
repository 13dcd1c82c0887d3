-- The rounds of the search.
use Rattle.std.specs.Prelude.{◌≡◌, ℕ, ◌+◌, ◌<◌, ◌≤◌, Bool, true, false, cond, ◌&&◌, List, length, Some, None, Option, ◌==◌, ◌≢◌, slice_index_or}
use Rattle.lines.specs.declared.lines.Line.{Line}
use Rattle.lines.specs.declared.lines.Way.{Way}
use Rattle.lines.specs.Lines.{blank, house_at, near, beyond}
use Rattle.marker.specs.declared.tables.Step.{Step}
use Rattle.marker.specs.declared.tables.Table.{Table}
use Rattle.marker.specs.Distances.{Chosen, CutOff}

-- what a table has for a house
abbrev pub entry_in : Table → ℕ → Option Step
entry_in table h = slice_index_or table.steps h None

-- an entry of that distance
abbrev pub distance_is : Option Step → ℕ → Bool
distance_is (Some step) s = step.distance == s
distance_is None s = false

-- the house was reached at that distance: the head at 0
abbrev pub stands : (ℕ → Option Step) → ℕ → ℕ → Bool
stands found s g = cond (g == 0) (s == 0) (distance_is (found g) s)

-- the line joins the house, at its near end, to a house at that distance
abbrev pub steps_from : Way → (ℕ → Option Step) → ℕ → ℕ → Line → Bool
steps_from w found s h l = house_at (near w) l == h && stands found s (house_at (beyond w) l)

-- what a house has after a round, by what it had: its entry stays, or it takes the lowest-numbered line, if there is one
abbrev pub Next : Way → List Line → (ℕ → Option Step) → ℕ → ℕ → Option Step → Option Step → Type 0
Next w xs found s h (Some step) o = o ≡ Some step
Next w xs found s h None (Some step) =
    (step.distance ≡ s + 1)
    × (step.line < length xs)
    × (steps_from w found s h (slice_index_or xs step.line blank) ≡ true)
    × ((j : ℕ) → j < step.line → steps_from w found s h (slice_index_or xs j blank) ≢ true)
Next w xs found s h None None = (j : ℕ) → j < length xs → steps_from w found s h (slice_index_or xs j blank) ≢ true

-- one round over the houses but the head
abbrev pub Round : Way → List Line → ℕ → ℕ → Table → Table → Type 0
Round w xs n s old new =
    (h : ℕ) → 1 ≤ h → h < n → Next w xs (entry_in old) s h (entry_in old h) (entry_in new h)

-- what the search finds: for each house but the head its chosen line, or none where it is cut off
abbrev pub Found : Way → List Line → ℕ → Option Step → Type 0
Found w xs h (Some step) = Chosen w xs h step.line
Found w xs h None = CutOff w xs h

abbrev pub Searched : Way → List Line → ℕ → (ℕ → Option Step) → Type 0
Searched w xs n found = (h : ℕ) → 1 ≤ h → h < n → Found w xs h (found h)
