use Rattle.std.proofs.Common.{inl}
use Rattle.std.proofs.lemmas.Result.{err_from_is_err_and}
use Rattle.marker.specs.Marked.{MarkPlan}
use Rattle.marker.proofs.Again.{mark_plan, marks_again, refuses_cut_off}
use Rattle.marker.proofs.marking.marked_plan.Goals as goal

pub returns-in_err-draft : goal.returns-in_err-draft
returns-in_err-draft c =
    let p = err_from_is_err_and c.from_residual.result c.from_residual.ensures.1 in
    let f = c.args.file.now in
    let r = c.from_residual.result in
    let marks : MarkPlan f r = rw (p.1, p.2) (inl c.in_err-draft.ensures) in
    record { marks = marks; cut = refuses_cut_off f r marks; again = marks_again f r marks }

pub returns : goal.returns
returns c =
    let f = c.args.file.now in
    let r = c.plan_of.result in
    let marks = mark_plan f c.in_ok-draft.draft r c.in_ok-draft.ensures c.plan_of.ensures in
    record { marks = marks; cut = refuses_cut_off f r marks; again = marks_again f r marks }
