-- The report on a plan.
use Rattle.std.specs.Prelude.{ℕ, zero, suc, ◌+◌, List, [], ◌∷◌, ◌++◌, Some, None, codes, decimal, Option, slice_index}
use Rattle.lines.specs.declared.lines.Way.{Way}
use Rattle.plan.specs.declared.plans.Plan.{Plan}
use Rattle.lines.specs.Lines.{serves}
use Rattle.plan.specs.Files.{file_of}
use Rattle.plan.specs.Rules.{lines_of, lowest}
use Rattle.words.specs.Hex.{hex_of}

-- a line's number, or a dash where there is none
abbrev pub or_dash : Option ℕ → List ℕ
or_dash (Some i) = decimal i
or_dash None = codes "-"

-- the number of the house's direct or back line
abbrev pub server_of : Plan → Way → ℕ → Option ℕ
server_of p w h = lowest (serves w h) (lines_of p.draft)

-- a line of text for a house: the house, its direct line, its back line, its counter
abbrev pub house_text : Plan → ℕ → List ℕ
house_text p h =
    decimal h
    ++ (codes " " ++ (or_dash (server_of p Way.Direct h)
    ++ (codes " " ++ (or_dash (server_of p Way.Back h)
    ++ (codes " " ++ (decimal (slice_index p.draft.counters h) ++ (10 ∷ [])))))))

-- so many houses, from this one on
abbrev pub houses_text : Plan → ℕ → ℕ → List ℕ
houses_text p zero h = []
houses_text p (suc left) h = house_text p h ++ houses_text p left (h + 1)

-- a line of text for the plan: ok, the numbers of houses and lines, the capacity
abbrev pub numbers_text : Plan → List ℕ
numbers_text p =
    codes "ok "
    ++ (decimal p.draft.houses
    ++ (codes " " ++ (decimal p.draft.lines
    ++ (codes " " ++ (decimal p.draft.capacity ++ (10 ∷ []))))))

-- the line for the plan, then a line for each house
abbrev pub report_of : Plan → List ℕ
report_of p = numbers_text p ++ houses_text p p.draft.houses 0

-- the plan's file in hexadecimal capitals, on a line of its own
abbrev pub file_text : Plan → List ℕ
file_text p = hex_of (file_of p.draft) ++ (10 ∷ [])
