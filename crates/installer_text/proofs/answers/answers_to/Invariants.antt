use Rattle.std.proofs.Common.{ℕ, List, ◌++◌, string_bytes}
use Rattle.words.specs.Parts.{lines}
use Rattle.words.specs.Placed.{left}
use Rattle.installer_text.specs.Answers.{Printed}
use Rattle.installer_text.proofs.Forms.{PrintedLines}
use Rattle.installer_text.proofs.answers.answers_to.Given as goal

abbrev pub invariant-loop-line : goal.invariant-loop-line
invariant-loop-line l =
    (t : List ℕ) → PrintedLines (left l.line-iterator) t → Printed 0 (lines l.input) (string_bytes l.text ++ t)
