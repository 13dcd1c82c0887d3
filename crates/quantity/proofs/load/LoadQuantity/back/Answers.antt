use Rattle.std.proofs.Common.{Some, ap, arith}
use Rattle.quantity.specs.Same.{same_total}
use Rattle.quantity.proofs.load.LoadQuantity.back.Goals as goal

pub returns : goal.returns
returns c = ap Some (same_total _ _ (omega arith) (omega arith))
