use Rattle.std.proofs.Common.{◌≡◌, take}
use Rattle.lines.specs.declared.lines.End.{End}
use Rattle.lines.specs.Lines.{meets}
use Rattle.pulse.specs.Rounds.{with_message, way_of, at_lines}
use Rattle.row.proofs.waiting.send.Given as goal

abbrev pub invariant-loop-i : goal.invariant-loop-i
invariant-loop-i l = l.waiting ≡ at_lines (meets (way_of l.message) End.From l.house) (with_message l.message) (take l.i l.lines) l.initial.waiting
