use Rattle.std.proofs.Common.{◌≡◌, ℕ, ◌≤◌, length, get_or}
use Rattle.lines.specs.Lines.{blank}
use Rattle.plan.specs.Readers.{Records}
use Rattle.plan.proofs.form.read_records.Given as goal

abbrev pub invariant-loop-i : goal.invariant-loop-i
invariant-loop-i l =
    (length l.records ≡ 128)
    × Records l.part l.houses l.i l.records
    × ((j : ℕ) → l.i ≤ j → get_or l.records j blank ≡ blank)
