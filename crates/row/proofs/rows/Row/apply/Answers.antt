use Rattle.std.proofs.Common.{[], ◌∷◌}
use Rattle.pulse.specs.declared.calls.Exchange.{Exchange}
use Rattle.row.specs.Rows.{state_of}
use Rattle.row.specs.Runs.{capacity_of}
use Rattle.row.proofs.KeepsLaw.{keeps_law, one_step}
use Rattle.row.proofs.rows.Row.apply.Goals as goal

pub returns-clause-law : goal.returns-clause-law
returns-clause-law g c =
    let q = g.Q.Quantity.sense in
    let meaning = g.C.Carrier.meaning in
    let before = c.args.self.now in
    let after = c.dispatch.new.self in
    let e : Exchange g.row.Q-Figures.Denot = record { call = c.args.call; answer = c.dispatch.result } in
    keeps_law q g.met.Q.Quantity.laws meaning before (e ∷ []) after (one_step q (capacity_of meaning before) e (state_of meaning before) (state_of meaning after) c.dispatch.ensures.steps) c.dispatch.ensures.capacity
