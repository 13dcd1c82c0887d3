-- What the marker makes of a draft, and when it refuses.
use Rattle.std.specs.Prelude.{◌≡◌, ℕ, ◌<◌, ◌≤◌, Bool, true, false, ◌⊎◌, List, length, is_some, Some, None, Ok, Err, Decides, Option, Result, ◌==◌, slice_index_or}
use Rattle.fault.specs.declared.causes.Cause.{Cause}
use Rattle.fault.specs.declared.causes.Cause.TheVariants.{NoWayFromHead, NoWayToHead}
use Rattle.fault.specs.declared.faults.Fault.{Fault}
use Rattle.fault.specs.Layers.{fault_at}
use Rattle.fault.specs.Numbers.{number}
use Rattle.lines.specs.declared.lines.Line.{Line}
use Rattle.lines.specs.declared.lines.Way.{Way}
use Rattle.lines.specs.Lines.{blank, house_at, marked, marks_of, near}
use Rattle.plan.specs.declared.drafts.Draft.{Draft}
use Rattle.plan.specs.declared.plans.Plan.{Plan}
use Rattle.plan.specs.declared.rules.Rule.{Rule}
use Rattle.plan.specs.Files.{file_of, Refused}
use Rattle.plan.specs.Judged.{Kept}
use Rattle.plan.specs.Rules.{lines_of}
use Rattle.marker.specs.declared.tables.Step.{Step}
use Rattle.marker.specs.declared.tables.Tables.{Tables}
use Rattle.marker.specs.Distances.{Chosen, CutOff}
use Rattle.marker.specs.Rounds.{entry_in}

-- THE MARKS

-- the same houses at the ends of each line
abbrev pub SameEnds : List Line → List Line → Type 0
SameEnds xs ys =
    (length xs ≡ length ys)
    × ((i : ℕ) → ((slice_index_or xs i blank).from ≡ (slice_index_or ys i blank).from) × ((slice_index_or xs i blank).to ≡ (slice_index_or ys i blank).to))

-- e is the draft d marked anew: the same houses, lines and capacity; a line is direct exactly when it is the chosen line
-- of the house that it enters, and back exactly when it is the chosen line of the house that it leaves; and each counter
-- is the number of back lines that enter
abbrev pub Remarked : Draft → Draft → Type 0
Remarked d e =
    (e.houses ≡ d.houses)
    × (e.lines ≡ d.lines)
    × (e.capacity ≡ d.capacity)
    × SameEnds (lines_of d) (lines_of e)
    × ((w : Way) (i : ℕ) → i < d.lines → Decides (marked w (slice_index_or (lines_of e) i blank).marks) (Chosen w (lines_of d) (house_at (near w) (slice_index_or (lines_of d) i blank)) i))
    × Kept Rule.Counters e

-- THE REFUSALS

-- h is the lowest house that is cut off
abbrev pub FirstCut : Way → Draft → ℕ → Type 0
FirstCut w d h =
    (h < d.houses) × CutOff w (lines_of d) h × ((g : ℕ) → g < h → CutOff w (lines_of d) g → ⊥)

-- no house is cut off
abbrev pub JoinedUp : Way → Draft → Type 0
JoinedUp w d = (h : ℕ) → h < d.houses → CutOff w (lines_of d) h → ⊥

-- there is no way from the head to some house; or there is to each, and none from some house to the head
abbrev pub Unreached : Draft → Fault → Type 0
Unreached d v =
    ((v ≡ fault_at NoWayFromHead v.place) × FirstCut Way.Direct d v.place)
    ⊎ ((v ≡ fault_at NoWayToHead v.place) × JoinedUp Way.Direct d × FirstCut Way.Back d v.place)

-- the file is not in form, or a house is cut off
abbrev pub Unmarked : List ℕ → Fault → Type 0
Unmarked f v = ((number v.cause ≤ 6) × Refused f v) ⊎ ((d : Draft) × (file_of d ≡ f) × Unreached d v)

-- WHAT THE MARKER ANSWERS

-- the draft marked anew becomes a plan, or a house is cut off
abbrev pub MarkDraft : Draft → Result Plan Fault → Type 0
MarkDraft d (Ok p) = JoinedUp Way.Direct d × JoinedUp Way.Back d × Remarked d p.draft
MarkDraft d (Err v) = Unreached d v

-- the plan of the file marked anew, or why it is refused
abbrev pub MarkPlan : List ℕ → Result Plan Fault → Type 0
MarkPlan f (Ok p) =
    (d : Draft) × (file_of d ≡ f) × JoinedUp Way.Direct d × JoinedUp Way.Back d × Remarked d p.draft
MarkPlan f (Err v) = Unmarked f v

-- the place holds the plan of the file marked anew; or the file is refused and the place is as it was
abbrev pub MarkAnswer : List ℕ → Plan → Result (Unit {0}) Fault → Plan → Type 0
MarkAnswer f p (Ok _) q =
    (d : Draft) × (file_of d ≡ f) × JoinedUp Way.Direct d × JoinedUp Way.Back d × Remarked d q.draft
MarkAnswer f p (Err v) q = Unmarked f v × (q ≡ p)

-- some house is cut off: there is no walk from the head to it, or none from it to the head
abbrev pub SomeCutOff : Draft → Type 0
SomeCutOff d = (h : ℕ) × (h < d.houses) × (CutOff Way.Direct (lines_of d) h ⊎ CutOff Way.Back (lines_of d) h)

-- a file in form is refused exactly when some house is cut off
abbrev pub RefusesCutOff : List ℕ → Bool → Type 0
RefusesCutOff f refused = (d : Draft) → file_of d ≡ f → Decides refused (SomeCutOff d)

-- marking the file of a marked plan gives that plan again
abbrev pub MarksPlanAgain : List ℕ → Result Plan Fault → Type 0
MarksPlanAgain f r = (p : Plan) (d : Draft) → Remarked d p.draft → f ≡ file_of p.draft → r ≡ Ok p

abbrev pub MarksAgain : List ℕ → Result (Unit {0}) Fault → Plan → Type 0
MarksAgain f r q = (p : Plan) (d : Draft) → Remarked d p.draft → f ≡ file_of p.draft → (r ≡ Ok tt) × (q ≡ p)

-- BY TABLES OF LINES

-- what the tables have for a house on each way
abbrev pub entry_on : Tables → Way → ℕ → Option Step
entry_on tables Way.Direct = entry_in tables.direct
entry_on tables Way.Back = entry_in tables.back

-- the table's line for the house is that line
abbrev pub takes : Option Step → ℕ → Bool
takes (Some step) i = step.line == i
takes None i = false

-- the line i marked by what its ends take
abbrev pub remark_of : (Way → ℕ → Option Step) → ℕ → Line → Line
remark_of found i l =
    record { from = l.from; to = l.to; marks = marks_of (takes (found Way.Direct l.to) i) (takes (found Way.Back l.from) i) }

abbrev pub Retabled : Draft → (Way → ℕ → Option Step) → List Line → Type 0
Retabled d found ls =
    (length ls ≡ 128)
    × ((i : ℕ) → i < d.lines → slice_index_or ls i blank ≡ remark_of found i (slice_index_or d.records i blank))
    × ((i : ℕ) → d.lines ≤ i → slice_index_or ls i blank ≡ slice_index_or d.records i blank)

abbrev pub RemarkedBy : Draft → (Way → ℕ → Option Step) → Draft → Type 0
RemarkedBy d found e =
    (e.houses ≡ d.houses) × (e.lines ≡ d.lines) × (e.capacity ≡ d.capacity) × Retabled d found e.records × Kept Rule.Counters e

-- each house but the head has its line, or the lowest that has none is named
abbrev pub Complete : (ℕ → Option Step) → ℕ → Cause → Result (Unit {0}) Fault → Type 0
Complete found n cause (Ok _) = (h : ℕ) → 1 ≤ h → h < n → is_some (found h) ≡ true
Complete found n cause (Err v) =
    (v ≡ fault_at cause v.place)
    × (1 ≤ v.place)
    × (v.place < n)
    × (is_some (found v.place) ≡ false)
    × ((g : ℕ) → 1 ≤ g → g < v.place → is_some (found g) ≡ true)

-- both ways have their lines; or a house lacks its line from the head, or, where none does, its line to the head
abbrev pub BothComplete : (Way → ℕ → Option Step) → ℕ → Result (Unit {0}) Fault → Type 0
BothComplete found n (Ok _) =
    Complete (found Way.Direct) n NoWayFromHead (Ok tt) × Complete (found Way.Back) n NoWayToHead (Ok tt)
BothComplete found n (Err v) =
    Complete (found Way.Direct) n NoWayFromHead (Err v)
    ⊎ (Complete (found Way.Direct) n NoWayFromHead (Ok tt) × Complete (found Way.Back) n NoWayToHead (Err v))
