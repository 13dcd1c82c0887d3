-- What the installer's program prints for each line of its input.
use Rattle.std.specs.Prelude.{◌≡◌, ℕ, ◌+◌, ◌≢◌, ◌⊎◌, List, [], ◌∷◌, ◌++◌, length, Ok}
use Rattle.fault.specs.declared.causes.Cause.TheVariants.{NoForm}
use Rattle.fault.specs.declared.faults.Fault.{Fault}
use Rattle.fault.specs.Layers.{fault_at}
use Rattle.fault.specs.Shown.{refusal}
use Rattle.plan.specs.declared.plans.Plan.{Plan}
use Rattle.plan.specs.Files.{file_of, Refused}
use Rattle.words.specs.Hex.{Bytes, NoBytes}
use Rattle.words.specs.Parts.{words}
use Rattle.marker.specs.Marked.{MarkPlan, Unmarked}
use Rattle.installer_text.specs.declared.commands.Command.{Command}
use Rattle.installer_text.specs.Commands.{name_of}
use Rattle.installer_text.specs.Reports.{file_text, report_of}

-- a refusal on a line of its own
abbrev pub refusal_line : Fault → List ℕ
refusal_line v = refusal v ++ (10 ∷ [])

-- the verdict on a plan file: the report on its plan, or why it is refused
abbrev pub Verdict : List ℕ → List ℕ → Type 0
Verdict f t =
    ((p : Plan) × (file_of p.draft ≡ f) × (t ≡ report_of p))
    ⊎ ((v : Fault) × Refused f v × (t ≡ refusal_line v))

-- the verdict on a file that is to be marked: the report on the marked plan and then its file, in hexadecimal capitals on
-- a line of its own, or why it is refused
abbrev pub Marking : List ℕ → List ℕ → Type 0
Marking f t =
    ((p : Plan) × MarkPlan f (Ok p) × (t ≡ report_of p ++ file_text p))
    ⊎ ((v : Fault) × Unmarked f v × (t ≡ refusal_line v))

-- what a command asks of a file
abbrev pub Asked : Command → List ℕ → List ℕ → Type 0
Asked Command.Check = Verdict
Asked Command.Mark = Marking

-- some text of that kind stands behind what was there
abbrev pub Adds : (List ℕ → Type 0) → List ℕ → List ℕ → Type 0
Adds P before after = (t : List ℕ) × P t × (after ≡ before ++ t)

-- a line of no form prints the place of its first wrong word, or of its end
abbrev pub HasNoForm : ℕ → List ℕ → Type 0
HasNoForm place t = t ≡ refusal_line (fault_at NoForm place)

-- the words behind the command, the first of which starts at byte `at`, in a line that ends at byte `end`
abbrev pub AnsweredFile : Command → ℕ → ℕ → List (List ℕ) → List ℕ → Type 0
AnsweredFile k at end [] t = HasNoForm end t
AnsweredFile k at end (w ∷ []) t = ((f : List ℕ) × Bytes w f × Asked k f t) ⊎ (NoBytes w × HasNoForm at t)
AnsweredFile k at end (w ∷ x ∷ ws) t =
    (((f : List ℕ) × Bytes w f) × HasNoForm (at + length w + 1) t) ⊎ (NoBytes w × HasNoForm at t)

-- the words of a line that starts at byte `at` and ends at byte `end`: a command and a plan file
abbrev pub AnsweredWords : ℕ → ℕ → List (List ℕ) → List ℕ → Type 0
AnsweredWords at end [] t = HasNoForm end t
AnsweredWords at end (w ∷ ws) t =
    ((k : Command) × (w ≡ name_of k) × AnsweredFile k (at + length w + 1) end ws t)
    ⊎ (((k : Command) → w ≢ name_of k) × HasNoForm at t)

-- a line that starts at byte `at`
abbrev pub Answered : ℕ → List ℕ → List ℕ → Type 0
Answered at line t = AnsweredWords at (at + length line) (words line) t

-- the lines from byte `at` on
abbrev pub Printed : ℕ → List (List ℕ) → List ℕ → Type 0
Printed at [] t = t ≡ []
Printed at (l ∷ ls) t = (u : List ℕ) × (v : List ℕ) × Answered at l u × Printed (at + length l + 1) ls v × (t ≡ u ++ v)
