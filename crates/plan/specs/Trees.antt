-- Two spanning trees: the marks of a plan in the words of graphs.
use Rattle.std.specs.Prelude.{ℕ, ◌<◌}
use Rattle.lines.specs.declared.lines.Way.{Way}
use Rattle.lines.specs.Lines.{marked}
use Rattle.lines.specs.Walks.{Route, OnlyOne}
use Rattle.plan.specs.declared.drafts.Draft.{Draft}
use Rattle.plan.specs.declared.rules.Rule.{Rule}
use Rattle.plan.specs.Judged.{Kept}
use Rattle.plan.specs.Rules.{lines_of}

-- the direct lines are a spanning tree from the head: each house is reached from it by exactly one walk along them; or
-- the back lines are one towards the head: from each house exactly one walk along them leads to it
abbrev pub Tree : Way → Draft → Type 0
Tree w d = (h : ℕ) → h < d.houses → OnlyOne (Route w (λ l. marked w l.marks) (lines_of d) h)

-- and each counter is the number of back lines that enter its house
abbrev pub TwoTrees : Draft → Type 0
TwoTrees d = Tree Way.Direct d × Tree Way.Back d × Kept Rule.Counters d
