use Rattle.std.proofs.Common.{◌+◌, ◌-◌, length, sym, ap, ◌∙◌, arith}
use Rattle.carrier.proofs.Lists.{list_on, list_past, held_part}
use Rattle.carrier.proofs.stores.StoreCarrier.count.Goals as goal

pub returns-in-Ok : goal.returns-in-Ok
returns-in-Ok g c =
    let s = c.args.self.now in
    c.count.ensures
    ∙ ap length (held_part s.table.places c.args.line c.in-Ok.first (c.in-Ok.first + 4 - c.in-Ok.first) c.in-Ok.ensures.1 (omega arith) ∙ sym (list_on s.lines s.table.places c.args.line c.in-Ok.ensures.0))

pub returns-in-Err : goal.returns-in-Err
returns-in-Err g c =
    sym (ap length (list_past c.args.self.now.lines c.args.self.now.table.places c.args.line c.in-Err.ensures.0))
