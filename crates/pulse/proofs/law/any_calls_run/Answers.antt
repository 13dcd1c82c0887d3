use Rattle.pulse.proofs.Answered.{any_calls_run}
use Rattle.pulse.proofs.law.any_calls_run.Goals as goal

pub returns : goal.returns
returns g c = any_calls_run g.row.V.Denot g.row.W.Denot g.row.F.Denot
