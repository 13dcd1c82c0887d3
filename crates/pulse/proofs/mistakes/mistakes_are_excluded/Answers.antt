use Rattle.pulse.proofs.Rings.{mistakes_excluded}
use Rattle.pulse.proofs.mistakes.mistakes_are_excluded.Goals as goal

pub returns : goal.returns
returns g c = mistakes_excluded g.row.V.Denot g.row.W.Denot g.row.F.Denot
