use Rattle.quantity.proofs.Orders.{any_order}
use Rattle.quantity.proofs.counts.straight_count.Goals as goal

pub returns-in_err-check-clause-order : goal.returns-in_err-check-clause-order
returns-in_err-check-clause-order g c = any_order g.Q.Quantity.sense g.met.Q.Quantity.laws

pub returns-clause-order : goal.returns-clause-order
returns-clause-order g c = any_order g.Q.Quantity.sense g.met.Q.Quantity.laws
