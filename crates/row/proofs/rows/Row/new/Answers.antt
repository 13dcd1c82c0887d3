use Rattle.std.proofs.Common.{◌∙◌, rules}
use Rattle.row.proofs.Fitness.{started}
use Rattle.row.proofs.rows.Row.new.Goals as goal

pub returns-clause-start : goal.returns-clause-start
returns-clause-start g c =
    λ e. let s = started g.Q.Quantity.sense c.args.plan (g.C.Carrier.meaning c.args.carrier) c.is_fit-fit.result c.is_fit-fit.ensures e in
    (s.0, s.1 ∙ search rules)
