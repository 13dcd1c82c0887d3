-- The five rules of right marks, each at one house.
use Rattle.std.specs.Prelude.{◌≡◌, ℕ, zero, suc, ◌-◌, ◌<◌, Bool, true, cond, ◌⊎◌, List, length, take, count_by, position, Option, ◌==◌, slice_index, slice_index_or}
use Rattle.plan.specs.declared.drafts.Draft.{Draft}
use Rattle.lines.specs.declared.lines.End.{End}
use Rattle.lines.specs.declared.lines.Line.{Line}
use Rattle.lines.specs.declared.lines.Way.{Way}
use Rattle.plan.specs.declared.rules.Rule.{Rule}
use Rattle.lines.specs.Lines.{blank, house_at, beyond, meets, serves}

-- the lines of a draft, in the order of their numbers
abbrev pub lines_of : Draft → List Line
lines_of d = take d.lines d.records

-- how many lines of a tree serve a house: one each house but the head, and none the head
abbrev pub due : ℕ → ℕ
due h = cond (h == 0) 0 1

-- from the house h, lines of the tree lead to the head within so many steps: direct lines backwards, from the house
-- that one enters to the house that it leaves, and back lines forwards
abbrev pub Leads : Way → List Line → ℕ → ℕ → Type 0
Leads w xs zero h = h ≡ 0
Leads w xs (suc s) h =
    (h ≡ 0) ⊎ ((i : ℕ) × (i < length xs) × (serves w h (slice_index_or xs i blank) ≡ true) × Leads w xs s (house_at (beyond w) (slice_index_or xs i blank)))

-- the number of the lowest-numbered line that passes the test
abbrev pub lowest : (Line → Bool) → List Line → Option ℕ
lowest p xs = position p xs

-- Single: exactly one direct line enters each house but the head, and none enters the head; exactly one back line
-- leaves each house but the head, and none leaves the head.
-- Leading: from every house the tree's lines lead to the head within n - 1 steps.
-- Counters: a house's counter is the number of back lines that enter it.
abbrev pub Keeps : Rule → Draft → ℕ → Type 0
Keeps (Rule.Single w) d h = count_by (serves w h) (lines_of d) ≡ due h
Keeps (Rule.Leading w) d h = Leads w (lines_of d) (d.houses - 1) h
Keeps Rule.Counters d h = slice_index d.counters h ≡ count_by (meets Way.Back End.To h) (lines_of d)
