use Rattle.std.proofs.Common.{arith}
use Rattle.std.proofs.lemmas.Int.{to_z-of_z}
use Rattle.samples.proofs.sources.Source.clamp.Goals as goal

pub returns-else-below-eq0-clause-value : goal.returns-else-below-eq0-clause-value
returns-else-below-eq0-clause-value c = grind (arith, to_z-of_z)

pub returns-else-below-eq0-clause-state : goal.returns-else-below-eq0-clause-state
returns-else-below-eq0-clause-state c = grind arith
