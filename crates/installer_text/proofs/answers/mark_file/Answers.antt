use Rattle.std.proofs.Common.{◌++◌, string_bytes, refl, ap, ◌∙◌, inl}
use Rattle.std.proofs.lemmas.List.{append_assoc}
use Rattle.std.proofs.lemmas.Result.{on_ok_weaker}
use Rattle.installer_text.specs.Reports.{file_text, report_of}
use Rattle.installer_text.proofs.answers.mark_file.Goals as goal

pub returns-in_ok-report-in-Ok : goal.returns-in_ok-report-in-Ok
returns-in_ok-report-in-Ok c =
    let p = c.mark.new.place in
    let before = string_bytes c.args.text.now in
    on_ok_weaker c.file_line.result
    (λ e. (report_of p ++ file_text p, inl (p, c.in-Ok.ensures.marks, refl), e ∙ ap (λ t. t ++ file_text p) c.in_ok-report-in-Ok.ensures ∙ append_assoc before (report_of p) (file_text p)))
    c.file_line.ensures
