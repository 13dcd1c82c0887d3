use Rattle.pulse.proofs.Lawfulness.{runs_lawful}
use Rattle.pulse.proofs.law.runs_are_lawful.Goals as goal

pub returns : goal.returns
returns g c = runs_lawful g.row.V.Denot g.row.W.Denot g.row.F.Denot
