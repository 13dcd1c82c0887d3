use Rattle.std.proofs.lemmas.Result.{err_from_is_err_and}
use Rattle.plan.specs.Readers.{ReadPlan}
use Rattle.plan.proofs.Accepted.{read_own}
use Rattle.plan.proofs.Refusals.{read_judged}
use Rattle.plan.proofs.Spanning.{accepts_trees}
use Rattle.plan.proofs.plans.reader.plan_in.Goals as goal

pub returns-in_err-read : goal.returns-in_err-read
returns-in_err-read c =
    let p = err_from_is_err_and c.from_residual.result c.from_residual.ensures.1 in
    let reads : ReadPlan c.args.file.now c.from_residual.result = rw (p.1, p.2) c.in_err-read.ensures.1 in
    record { reads = reads; own = read_own c.args.file.now c.from_residual.result reads; trees = accepts_trees c.args.file.now c.from_residual.result reads }

pub returns : goal.returns
returns c =
    let reads = read_judged c.args.file.now c.in_ok-read.field-0 c.judge.result c.in_ok-read.ensures c.judge.ensures in
    record { reads = reads; own = read_own c.args.file.now c.judge.result reads; trees = accepts_trees c.args.file.now c.judge.result reads }
