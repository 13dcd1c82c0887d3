use Rattle.std.proofs.Common.{arith}
use Rattle.std.proofs.lemmas.Int.{to_z-of_z}
use Rattle.samples.proofs.sources.Source.temperature.Goals as goal

pub returns-then-spread-clause-value : goal.returns-then-spread-clause-value
returns-then-spread-clause-value c = grind (arith, to_z-of_z)

pub returns-else-spread-clause-value : goal.returns-else-spread-clause-value
returns-else-spread-clause-value c = grind (arith, to_z-of_z)
