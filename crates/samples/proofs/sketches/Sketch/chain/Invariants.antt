use Rattle.samples.specs.Sketches.{HasLines, both_ways}
use Rattle.samples.proofs.sketches.Sketch.chain.Given as goal

abbrev pub invariant-loop-house : goal.invariant-loop-house
invariant-loop-house l = HasLines l.houses (both_ways l.house) l.sketch
