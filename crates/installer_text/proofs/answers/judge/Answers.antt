use Rattle.std.proofs.Common.{refl, inl}
use Rattle.std.proofs.lemmas.Result.{on_ok_weaker}
use Rattle.installer_text.specs.Reports.{report_of}
use Rattle.installer_text.proofs.answers.judge.Goals as goal

pub returns-in-Ok : goal.returns-in-Ok
returns-in-Ok c =
    let p = c.read.new.place in
    on_ok_weaker c.report.result (λ e. (report_of p, inl (p, c.in-Ok.ensures.reads, refl), e)) c.report.ensures
