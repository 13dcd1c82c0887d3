use Rattle.std.proofs.Common.{rules}
use Rattle.quantity.specs.Unions.{sets_is}
use Rattle.quantity.proofs.flags.Sets.new.Goals as goal

pub returns : goal.returns
returns c = sets_is _ c.args.any c.args.all (search rules) (search rules)
