use Rattle.std.proofs.Common.{ℕ, ◌<◌, ◌≤◌}
use Rattle.plan.specs.Rules.{lines_of}
use Rattle.marker.specs.Rounds.{entry_in}
use Rattle.marker.proofs.Entries.{Entry}
use Rattle.marker.proofs.tables.Table.search.Given as goal

abbrev pub invariant-loop-distance : goal.invariant-loop-distance
invariant-loop-distance l =
    (h : ℕ) → 1 ≤ h → h < l.draft.houses → Entry l.way (lines_of l.draft) l.distance h (entry_in l.table h)
