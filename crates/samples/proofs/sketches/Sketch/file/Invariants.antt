use Rattle.std.proofs.Common.{◌≡◌, ◌++◌, take, length}
use Rattle.std.specs.List.{flat_map}
use Rattle.plan.specs.Files.{header, record_of}
use Rattle.samples.proofs.sketches.Sketch.file.Given as goal

abbrev pub invariant-loop-line : goal.invariant-loop-line
invariant-loop-line l =
    l.file.items ≡ header l.self.houses (length l.self.lines.items) l.self.capacity ++ flat_map record_of (take l.line-index l.line-items)
