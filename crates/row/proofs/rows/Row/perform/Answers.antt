use Rattle.std.proofs.Common.{◌<◌, ◌≤◌, length, get_or, refl, ◌∙◌, subst, arith}
use Rattle.std.proofs.lemmas.List.{take_all}
use Rattle.pulse.specs.declared.calls.Exchange.{Exchange}
use Rattle.pulse.specs.Steps.{Run, Step}
use Rattle.row.specs.Rows.{state_of}
use Rattle.row.specs.Runs.{capacity_of}
use Rattle.row.proofs.KeepsLaw.{keeps_law, run_more, same_calls}
use Rattle.row.proofs.rows.Row.perform.Goals as goal

pub loop-exchange-preserved : goal.loop-exchange-preserved
loop-exchange-preserved g c =
    let q = g.Q.Quantity.sense in
    let meaning = g.C.Carrier.meaning in
    let first = c.args.self.now in
    let before = c.loop-exchange.self in
    let after = c.dispatch-exchange.new.self in
    let es = c.loop-exchange.exchanges in
    let i = c.loop-exchange.exchange-index in
    let d = c.exchange-item.result in
    let e : Exchange g.row.Q-Figures.Denot = record { call = (get_or es i d).call; answer = c.dispatch-exchange.result } in
    let inv = c.loop-exchange.invariant in
    let lt : i < length es = omega arith in
    let step = subst (λ k. Step q k (state_of meaning before) e.call e.answer (state_of meaning after)) inv.2 c.dispatch-exchange.ensures.steps in (
      same_calls es i e d lt refl ∙ inv.0,
      run_more q (capacity_of meaning first) es i e (state_of meaning first) (state_of meaning before) (state_of meaning after) lt inv.1 step,
      c.dispatch-exchange.ensures.capacity ∙ inv.2,
    )

pub returns : goal.returns
returns g c =
    let q = g.Q.Quantity.sense in
    let meaning = g.C.Carrier.meaning in
    let first = c.args.self.now in
    let last = c.loop-exchange.self in
    let es = c.loop-exchange.exchanges in
    let inv = c.loop-exchange.invariant in
    let all : length es ≤ c.loop-exchange.exchange-index = omega arith in
    let run = subst (λ xs. Run q (capacity_of meaning first) (state_of meaning first) xs (state_of meaning last)) (take_all c.loop-exchange.exchange-index es all) inv.1 in
    record {
      performs = (inv.0, run, inv.2);
      law = keeps_law q g.met.Q.Quantity.laws meaning first es last run inv.2;
    }
