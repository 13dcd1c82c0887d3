-- Rows that are made line by line.
use Rattle.std.specs.Prelude.{◌≡◌, ℕ, zero, suc, ◌-◌, not, ◌&&◌, ◌==◌, nat_lt, if◌then◌else◌, List, [], ◌∷◌, ◌++◌, length, replicate}
use Rattle.lines.specs.declared.lines.Line.{Line}
use Rattle.lines.specs.declared.lines.Marks.TheVariants.{Neither}
use Rattle.samples.specs.declared.sketches.Sketch.{Sketch}

-- a row of so many houses with those lines, of capacity 1, and with counters of 0
pub record HasLines (n : ℕ) (xs : List Line) (s : Sketch) : Type 0 where
  pub houses : s.houses ≡ n
  pub capacity : s.capacity ≡ 1
  pub lines : s.lines.items ≡ xs
  pub counters : s.counters.items ≡ replicate n 0

-- the lines with one more between two houses, unless there are 128; none from a house to itself
abbrev pub joined : List Line → ℕ → ℕ → List Line
joined lines from to =
    if not (from == to) && nat_lt (length lines) 128
    then lines ++ record { from = from; to = to; marks = Neither } ∷ []
    else lines

-- lines from each of the houses up to k to the next
abbrev pub onward : ℕ → List Line
onward zero = []
onward (suc k) = joined (onward k) k (suc k)

-- lines each way between neighbours, of the houses up to k
abbrev pub both_ways : ℕ → List Line
both_ways zero = []
both_ways (suc k) = joined (joined (both_ways k) k (suc k)) (suc k) k

-- lines from each house to the next and from the last to the head
abbrev pub ring : ℕ → List Line
ring n = joined (onward (n - 1)) (n - 1) 0

-- lines each way between neighbours
abbrev pub chain : ℕ → List Line
chain n = both_ways (n - 1)
