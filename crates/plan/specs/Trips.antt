-- A plan through its file and a file through its plan.
use Rattle.std.specs.Prelude.{◌≡◌, ℕ, ◌<◌, ◌≤◌, ◌⊎◌, List, ◌++◌, length, drop, Ok, Err, Result}
use Rattle.fault.specs.declared.causes.Cause.TheVariants.{BufferShort}
use Rattle.fault.specs.declared.faults.Fault.{Fault}
use Rattle.fault.specs.Layers.{fault_at}
use Rattle.plan.specs.declared.plans.Plan.{Plan}
use Rattle.plan.specs.Files.{file_of, Refused}
use Rattle.plan.specs.Writers.{Written}

-- a plan that is written and read comes back equal; only a buffer too short for it is refused
abbrev pub Reread : Plan → List ℕ → Result Plan Fault → List ℕ → Type 0
Reread p b (Ok q) c = (q ≡ p) × Written p b (Ok (length (file_of p.draft))) c
Reread p b (Err v) c = Written p b (Err v) c

-- a file that is read and written comes back byte for byte; a refusal is the reader's, or the buffer is too short for
-- a file that the reader accepts
abbrev pub Rewritten : List ℕ → Plan → List ℕ → Result ℕ Fault → Plan → List ℕ → Type 0
Rewritten f p b (Ok n) q c =
    (file_of q.draft ≡ f) × (n ≡ length f) × (n ≤ length b) × (c ≡ f ++ drop n b)
Rewritten f p b (Err v) q c =
    (q ≡ p)
    × (c ≡ b)
    × (Refused f v ⊎ (((x : Plan) × (file_of x.draft ≡ f)) × (v ≡ fault_at BufferShort (length f)) × (length b < length f)))
