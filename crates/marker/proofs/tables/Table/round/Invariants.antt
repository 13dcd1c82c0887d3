use Rattle.std.proofs.Common.{◌≡◌, ℕ, ◌<◌, ◌≤◌, true, get_or}
use Rattle.lines.specs.Lines.{blank}
use Rattle.plan.specs.Rules.{lines_of}
use Rattle.marker.specs.Rounds.{entry_in, steps_from, Round}
use Rattle.marker.proofs.tables.Table.round.Given as goal

abbrev pub invariant-houses : goal.invariant-houses
invariant-houses l =
    Round l.way (lines_of l.draft) l.house l.distance l.old l.self × ((h : ℕ) → l.house ≤ h → entry_in l.self h ≡ entry_in l.old h)

abbrev pub invariant-loop-number : goal.invariant-loop-number
invariant-loop-number l =
    Round l.way (lines_of l.draft) l.house l.distance l.old l.self
    × ((h : ℕ) → l.house ≤ h → entry_in l.self h ≡ entry_in l.old h)
    × ((j : ℕ) → j < l.number → steps_from l.way (entry_in l.old) l.distance l.house (get_or (lines_of l.draft) j blank) ≡ true → ⊥)
