use Rattle.std.proofs.Common.{◌≡◌, ◌*◌, take}
use Rattle.std.specs.List.{flat_map}
use Rattle.plan.specs.Files.{record_of}
use Rattle.plan.proofs.plans.writer.write_records.Given as goal

abbrev pub invariant-loop-i : goal.invariant-loop-i
invariant-loop-i l = take (3 * l.i) l.part ≡ flat_map record_of (take l.i l.lines)
