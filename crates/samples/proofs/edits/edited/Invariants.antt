use Rattle.std.proofs.Common.{◌≡◌, take}
use Rattle.samples.specs.Edits.{with_bytes}
use Rattle.samples.proofs.edits.edited.Given as goal

abbrev pub invariant-loop-place : goal.invariant-loop-place
invariant-loop-place l = l.bytes.items ≡ with_bytes (take l.place-index l.edits) l.file
