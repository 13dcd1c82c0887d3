-- What the writer of a plan file answers.
use Rattle.std.specs.Prelude.{◌≡◌, ℕ, ◌<◌, ◌≤◌, List, ◌++◌, length, drop, Ok, Err, Result}
use Rattle.fault.specs.declared.causes.Cause.TheVariants.{BufferShort}
use Rattle.fault.specs.declared.faults.Fault.{Fault}
use Rattle.fault.specs.Layers.{fault_at}
use Rattle.plan.specs.declared.plans.Plan.{Plan}
use Rattle.plan.specs.Files.{file_of}

-- the front of the buffer is the plan's file and the rest is as it was; or the buffer is too short for the file, whose
-- length is named, and is as it was
abbrev pub Written : Plan → List ℕ → Result ℕ Fault → List ℕ → Type 0
Written p b (Ok n) c =
    (n ≡ length (file_of p.draft)) × (n ≤ length b) × (c ≡ file_of p.draft ++ drop n b)
Written p b (Err v) c =
    (v ≡ fault_at BufferShort (length (file_of p.draft))) × (length b < length (file_of p.draft)) × (c ≡ b)
