use Rattle.std.proofs.lemmas.Result.{err_from_is_err_and}
use Rattle.marker.proofs.Tabled.{marked_draft, unreached}
use Rattle.marker.proofs.marking.plan_of.Goals as goal

pub returns-in_err-check : goal.returns-in_err-check
returns-in_err-check c =
    let p = err_from_is_err_and c.from_residual.result c.from_residual.ensures.1 in
    rw (p.1, p.2) (unreached c.args.draft.now c.search-tables.result c.search-tables.ensures _ c.in_err-check.ensures)

pub returns : goal.returns
returns c =
    marked_draft c.args.draft.now c.search-tables.result c.search-tables.ensures c.remarked.result c.remarked.ensures c.in_ok-check.ensures c.judge.result c.judge.ensures
