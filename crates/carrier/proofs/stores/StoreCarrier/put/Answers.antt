use Rattle.std.proofs.Common.{◌+◌, ◌-◌, arith}
use Rattle.std.proofs.lemmas.Result.{err_from_is_err_and}
use Rattle.carrier.proofs.Stored.{put_unknown, put_full, put_accepted}
use Rattle.carrier.proofs.stores.StoreCarrier.put.Goals as goal

pub returns-in_err-first-clause-puts : goal.returns-in_err-first-clause-puts
returns-in_err-first-clause-puts g c =
    let s = c.args.self.now in
    let p = err_from_is_err_and c.from_residual.result c.from_residual.ensures.1 in
    rw (p.1, p.2) (put_unknown s.capacity s.lines s.table.places c.args.line c.args.message _ c.in_err-first.ensures)

pub returns-then-count-self-clause-puts : goal.returns-then-count-self-clause-puts
returns-then-count-self-clause-puts g c =
    let s = c.args.self.now in
    let first = c.in_ok-first.first in
    put_full s.capacity s.lines s.table.places c.args.line first (first + 4 - first) c.in_ok-first.ensures.1 (omega arith) c.in_ok-first.ensures.0
    c.args.message c.refusal.result (omega (arith, c.count.ensures)) c.refusal.ensures

pub returns-clause-puts : goal.returns-clause-puts
returns-clause-puts g c =
    let s = c.args.self.now in
    let first = c.in_ok-first.first in
    put_accepted s.capacity s.lines s.table.places c.args.line first (first + 4 - first) c.in_ok-first.ensures.1 (omega arith) c.in_ok-first.ensures.0
    c.add.new.places (omega arith) (omega arith) c.args.message (omega (arith, c.count.ensures)) c.add.ensures
