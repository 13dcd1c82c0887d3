use Rattle.std.proofs.Common.{◌+◌, ◌-◌, arith}
use borrow.Rule.Slice.PartMut.{put_mid}
use Rattle.std.proofs.lemmas.Result.{err_from_is_err_and}
use Rattle.carrier.specs.Makes.{Picks}
use Rattle.carrier.proofs.Stored.{meant, take_unknown, take_answered, take_picked, take_told}
use Rattle.carrier.proofs.stores.StoreCarrier.take.Goals as goal

pub returns-in_err-first-clause-takes : goal.returns-in_err-first-clause-takes
returns-in_err-first-clause-takes g c =
    let s = c.args.self.now in
    let p = err_from_is_err_and c.from_residual.result c.from_residual.ensures.1 in
    rw (p.1, p.2) (take_unknown s.capacity s.lines s.table.places c.args.line _ c.in_err-first.ensures)

pub returns-clause-takes : goal.returns-clause-takes
returns-clause-takes g c =
    let s = c.args.self.now in
    let first = c.in_ok-first.first in
    rw c.ok_or.ensures.value
    (take_answered s.capacity s.lines s.table.places c.args.line first (first + 4 - first) c.in_ok-first.ensures.1 (omega arith) c.in_ok-first.ensures.0
    c.take_out-taken.new.places (omega arith) (omega arith) g.M.Make.order c.take_out-taken.result c.refusal.result c.refusal.ensures c.take_out-taken.ensures)

pub returns-clause-picks : goal.returns-clause-picks
returns-clause-picks g c =
    let s = c.args.self.now in
    let first = c.in_ok-first.first in
    rw c.ok_or.ensures.value
    (take_picked s.capacity s.lines s.table.places c.args.line first (first + 4 - first) c.in_ok-first.ensures.1 (omega arith) c.in_ok-first.ensures.0
    c.take_out-taken.new.places (omega arith) (omega arith) g.M.Make.order c.take_out-taken.result c.refusal.result c.take_out-taken.ensures)

pub returns-clause-told : goal.returns-clause-told
returns-clause-told g c =
    let s = c.args.self.now in
    let first = c.in_ok-first.first in
    take_told (Picks g.M.Make.order) g.M.Make.takes g.met.M.Make.told
    (meant s.capacity s.lines s.table.places) (meant s.capacity s.lines (put_mid first (first + 4 - first) s.table.places c.take_out-taken.new.places))
    c.args.line c.ok_or.result (returns-clause-picks g c)
