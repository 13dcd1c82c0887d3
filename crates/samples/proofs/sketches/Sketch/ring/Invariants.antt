use Rattle.samples.specs.Sketches.{HasLines, onward}
use Rattle.samples.proofs.sketches.Sketch.ring.Given as goal

abbrev pub invariant-loop-house : goal.invariant-loop-house
invariant-loop-house l = HasLines l.houses (onward l.house) l.sketch
