-- What the readers of a plan file answer.
use Rattle.std.specs.Prelude.{◌≡◌, ℕ, ◌+◌, ◌*◌, ◌<◌, ◌≤◌, Bool, List, length, Ok, Err, Decides, Result, slice_index_or}
use Rattle.fault.specs.declared.causes.Cause.TheVariants.{BeyondLimits, WrongRecord}
use Rattle.fault.specs.declared.faults.Fault.{Fault}
use Rattle.fault.specs.Layers.{fault_at}
use Rattle.fault.specs.Numbers.{number}
use Rattle.plan.specs.declared.drafts.Draft.{Draft}
use Rattle.plan.specs.declared.form.Size.{Size}
use Rattle.lines.specs.declared.lines.Line.{Line}
use Rattle.plan.specs.declared.plans.Plan.{Plan}
use Rattle.plan.specs.Trees.{TwoTrees}
use Rattle.plan.specs.Files.{byte, houses_in, lines_in, capacity_in, file_of, InLimits, Versioned, Limited, Sized, Beyond, FirstWrong, Refused, IsWrongRecord}
use Rattle.lines.specs.Lines.{blank, marks_number, InForm}

-- n, m and k checked: the first that is beyond its limits is named by the place of its byte
abbrev pub LimitsChecked : ℕ → ℕ → ℕ → Result (Unit {0}) Fault → Type 0
LimitsChecked n m k (Ok _) = InLimits n m k
LimitsChecked n m k (Err v) = (v ≡ fault_at BeyondLimits v.place) × Beyond n m k v.place

-- the reader of the header: n, m and k of a file that is as long as they say, or a refusal by 1 to 5
abbrev pub ReadHeader : List ℕ → Result Size Fault → Type 0
ReadHeader f (Ok s) =
    Versioned f × Limited f × Sized f × (s.houses ≡ houses_in f) × (s.lines ≡ lines_in f) × (s.capacity ≡ capacity_in f)
ReadHeader f (Err v) = (number v.cause ≤ 5) × Refused f v

-- the line that the three bytes from place p on are the record of
abbrev pub RecordAt : List ℕ → ℕ → Line → Type 0
RecordAt xs p l = (l.from ≡ byte xs p) × (l.to ≡ byte xs (p + 1)) × (marks_number l.marks ≡ byte xs (p + 2))

-- the first m lines are those of the first m records, and in form
abbrev pub Records : List ℕ → ℕ → ℕ → List Line → Type 0
Records xs n m ls = (i : ℕ) → i < m → RecordAt xs (3 * i) (slice_index_or ls i blank) × InForm n (slice_index_or ls i blank)

-- the reader of a record whose first byte is the file's byte p: the line, or its first wrong byte
abbrev pub ReadRecord : List ℕ → ℕ → ℕ → Result Line Fault → Type 0
ReadRecord xs n p (Ok l) = RecordAt xs 0 l × InForm n l
ReadRecord xs n p (Err v) = (j : ℕ) × (v ≡ fault_at WrongRecord (p + j)) × IsWrongRecord n (byte xs 0) (byte xs 1) (byte xs 2) j

-- the reader of m records that start at byte 9: a table of the lines, blank beyond them, or the first wrong byte
abbrev pub ReadRecords : List ℕ → ℕ → ℕ → Result (List Line) Fault → Type 0
ReadRecords xs n m (Ok ls) = (length ls ≡ 128) × Records xs n m ls × ((i : ℕ) → m ≤ i → slice_index_or ls i blank ≡ blank)
ReadRecords xs n m (Err v) = (i : ℕ) × (j : ℕ) × (v ≡ fault_at WrongRecord (9 + (3 * i + j))) × FirstWrong n m xs i j

-- the reader of form: the draft whose file it is, or a refusal by 1 to 6
abbrev pub Formed : List ℕ → Result Draft Fault → Type 0
Formed f (Ok d) = file_of d ≡ f
Formed f (Err v) = (number v.cause ≤ 6) × Refused f v

-- the plan whose file it is, or the refusal of the file
abbrev pub ReadPlan : List ℕ → Result Plan Fault → Type 0
ReadPlan f (Ok p) = file_of p.draft ≡ f
ReadPlan f (Err v) = Refused f v

-- the reader: the place holds the plan whose file it is, or the file is refused and the place is as it was
abbrev pub Read : List ℕ → Plan → Result (Unit {0}) Fault → Plan → Type 0
Read f p (Ok _) q = file_of q.draft ≡ f
Read f p (Err v) q = Refused f v × (q ≡ p)

-- the file of a plan is never refused, and gives that plan
abbrev pub OwnPlan : List ℕ → Result Plan Fault → Type 0
OwnPlan f r = (p : Plan) → f ≡ file_of p.draft → r ≡ Ok p

abbrev pub Own : List ℕ → Result (Unit {0}) Fault → Plan → Type 0
Own f r q = (p : Plan) → f ≡ file_of p.draft → (r ≡ Ok tt) × (q ≡ p)

-- a file in form is accepted exactly when its marks are two spanning trees with counters
abbrev pub AcceptsTrees : List ℕ → Bool → Type 0
AcceptsTrees f accepted = (d : Draft) → file_of d ≡ f → Decides accepted (TwoTrees d)
