use Rattle.std.proofs.Common.{◌≡◌, ℕ, ◌≤◌, List, Ok, Err, Result, length, replicate, refl, arith}
use Rattle.fault.specs.declared.faults.Fault.{Fault}
use Rattle.plan.proofs.Files.{file_length}
use Rattle.plan.specs.Files.{file_of}
use Rattle.plan.specs.Writers.{Written}
use Rattle.plan.specs.declared.plans.Plan.{Plan}
use Rattle.std.specs.Result.{IsOk}
use Rattle.installer_text.proofs.reports.file_line.Goals as goal

fits : (p : Plan) (b c : List ℕ) (r : Result ℕ Fault) → Written p b r c → length b ≡ 441 → length (file_of p.draft) ≤ 441 → IsOk r
fits p b c (Ok n) wrote long room = refl
fits p b c (Err v) wrote long room = absurd (omega (arith, wrote.1))

pub unwrap-length-requires : goal.unwrap-length-requires
unwrap-length-requires c =
    let d = c.args.plan.now.draft in
    let room : length (file_of d) ≤ 441 = omega (arith, file_length d, d.size) in
    fits c.args.plan.now (replicate 441 0) c.write.new.buffer c.write.result c.write.ensures.wrote refl room
