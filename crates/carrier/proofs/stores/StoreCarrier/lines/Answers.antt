use Rattle.std.proofs.Common.{sym}
use Rattle.carrier.proofs.Lists.{length_lists}
use Rattle.carrier.proofs.stores.StoreCarrier.lines.Goals as goal

pub returns : goal.returns
returns g c = sym (length_lists c.args.self.now.lines c.args.self.now.table.places)
