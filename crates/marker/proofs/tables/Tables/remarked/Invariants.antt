use Rattle.std.proofs.Common.{◌≡◌, ℕ, ◌<◌, ◌≤◌, length, get_or}
use Rattle.lines.specs.Lines.{blank}
use Rattle.marker.specs.Marked.{entry_on, remark_of}
use Rattle.marker.proofs.tables.Tables.remarked.Given as goal

abbrev pub invariant-loop-number : goal.invariant-loop-number
invariant-loop-number l =
    (length l.records ≡ 128)
    × ((k : ℕ) → k < l.number → get_or l.records k blank ≡ remark_of (entry_on l.self) k (get_or l.draft.records k blank))
    × ((k : ℕ) → l.number ≤ k → get_or l.records k blank ≡ get_or l.draft.records k blank)
