use Rattle.std.proofs.Common.{◌≡◌, ◌-◌, ◌++◌, string_bytes}
use Rattle.installer_text.specs.Reports.{houses_text}
use Rattle.installer_text.proofs.reports.report.Given as goal

abbrev pub invariant-loop-house : goal.invariant-loop-house
invariant-loop-house l =
    string_bytes l.text ++ houses_text l.plan (l.houses - l.house) l.house
    ≡ string_bytes l.initial.text ++ houses_text l.plan l.houses 0
