use Rattle.std.proofs.Common.{◌≡◌, take}
use Rattle.pulse.specs.Steps.{Run}
use Rattle.row.specs.Rows.{state_of}
use Rattle.row.specs.Runs.{calls_of, capacity_of}
use Rattle.row.proofs.rows.Row.perform.Given as goal

abbrev pub invariant-loop-exchange : goal.invariant-loop-exchange
invariant-loop-exchange g l =
    (calls_of l.exchanges ≡ calls_of l.initial.exchanges)
    × Run g.Q.Quantity.sense (capacity_of g.C.Carrier.meaning l.initial.self) (state_of g.C.Carrier.meaning l.initial.self) (take l.exchange-index l.exchanges) (state_of g.C.Carrier.meaning l.self)
    × (capacity_of g.C.Carrier.meaning l.self ≡ capacity_of g.C.Carrier.meaning l.initial.self)
