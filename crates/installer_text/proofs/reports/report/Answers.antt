use Rattle.std.proofs.Common.{◌≡◌, suc, ◌+◌, ◌-◌, ◌++◌, string_bytes, ap, ◌∙◌, arith}
use Rattle.std.proofs.lemmas.List.{append_assoc}
use Rattle.installer_text.specs.Reports.{house_text, houses_text}
use Rattle.installer_text.proofs.reports.report.Goals as goal

pub loop-house-preserved : goal.loop-house-preserved
loop-house-preserved c =
    let p = c.args.plan.now in
    let n = c.houses-houses.result in
    let h = c.loop-house.house in
    let left : suc (n - (h + 1)) ≡ n - h = omega arith in
    ap (λ t. t ++ houses_text p (n - (h + 1)) (h + 1)) c.in_ok-report_house.ensures
    ∙ append_assoc (string_bytes c.loop-house.text) (house_text p h) (houses_text p (n - (h + 1)) (h + 1))
    ∙ ap (λ k. string_bytes c.loop-house.text ++ houses_text p k h) left
    ∙ c.loop-house.invariant
