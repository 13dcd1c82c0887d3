-- The five calls, and runs of them. Each call has one result in every state, but for the message that the carrier picks in
-- hand over. How many messages a line can hold, k, is a parameter.
use Rattle.std.specs.Prelude.{◌≡◌, ℕ, Bool, false, cond, not, ◌&&◌, ◌||◌, List, [], ◌∷◌, ◌++◌, map, length, is_some, Some, None, Ok, Err, Option, Result, nat_lt, slice_index_or, slice_set}
use Rattle.fault.specs.declared.causes.Cause.TheVariants.{Unfit, NoLine, NothingWaits, LineFull, LineEmpty, NoHouse, WrongReading, RoundOpen, NoRound, NoAnswer}
use Rattle.fault.specs.declared.faults.Fault.{Fault}
use Rattle.fault.specs.Layers.{fault_at}
use Rattle.lines.specs.Lines.{blank}
use Rattle.quantity.specs.declared.readings.Reading.{Reading}
use Rattle.quantity.specs.Readings.{in_limits}
use Rattle.quantity.specs.Senses.{Sense}
use Rattle.carrier.specs.declared.messages.Kind.{Kind}
use Rattle.carrier.specs.declared.messages.Message.{Message}
use Rattle.carrier.specs.Messages.{kind_of}
use Rattle.pulse.specs.declared.calls.Answer.{Answer}
use Rattle.pulse.specs.declared.calls.Call.{Call}
use Rattle.pulse.specs.declared.calls.Delivery.{Delivery}
use Rattle.pulse.specs.declared.calls.Exchange.{Exchange}
use Rattle.pulse.specs.declared.calls.Report.{Report}
use Rattle.pulse.specs.declared.rounds.Round.{Round}
use Rattle.pulse.specs.declared.rounds.Waiting.{Waiting}
use Rattle.pulse.specs.Rounds.{answer, answered, begin, begun, counted, deliver, none_waits, waiting_for}
use Rattle.pulse.specs.States.{State, on, reading_of}

-- WHEN A CALL REFUSES: the fault of the first test that fails, or none

-- a test, the fault where it fails, and the tests after it
abbrev pub check : Bool → Fault → Option Fault → Option Fault
check ok fault rest = cond ok rest (Some fault)

-- both the plan and the carrier have the line
abbrev pub has_line : {V W : Type 0} → State V W → ℕ → Bool
has_line s i = nat_lt i s.plan.draft.lines && nat_lt i (length s.lists)

-- something waits for the line
abbrev pub waits : {W : Type 0} → Waiting W → Bool
waits x = x.request || is_some x.response

-- begin: the row is unfit (20), the round has no answer yet (27)
abbrev pub begin_refusal : {V W F : Type 0} → Sense V W F → State V W → Option Fault
begin_refusal q s =
    check s.fit (fault_at Unfit 0)
    (check (not (begun q s.round) || answered q s.round) (fault_at RoundOpen 0) None)

-- load: unfit (20), no such line (21), nothing waits for it (22), it holds k messages (23)
abbrev pub load_refusal : {V W : Type 0} → ℕ → State V W → ℕ → Option Fault
load_refusal k s i =
    check s.fit (fault_at Unfit 0)
    (check (has_line s i) (fault_at NoLine i)
    (check (waits (waiting_for s.round i)) (fault_at NothingWaits i)
    (check (nat_lt (length (on s i)) k) (fault_at LineFull i) None)))

-- hand over: unfit (20), no such line (21), the line is empty (24)
abbrev pub hand_over_refusal : {V W : Type 0} → State V W → ℕ → Option Fault
hand_over_refusal s i =
    check s.fit (fault_at Unfit 0)
    (check (has_line s i) (fault_at NoLine i)
    (check (nat_lt 0 (length (on s i))) (fault_at LineEmpty i) None))

-- set: unfit (20), no such house (25), the reading is beyond limits (26)
abbrev pub set_refusal : {V W : Type 0} → State V W → ℕ → Reading → Option Fault
set_refusal s h r =
    check s.fit (fault_at Unfit 0)
    (check (nat_lt h s.plan.draft.houses) (fault_at NoHouse h)
    (check (in_limits r) (fault_at WrongReading h) None))

-- read: unfit (20), no round was begun (28), the round has no answer yet (29)
abbrev pub read_refusal : {V W F : Type 0} → Sense V W F → State V W → Option Fault
read_refusal q s =
    check s.fit (fault_at Unfit 0)
    (check (begun q s.round) (fault_at NoRound 0)
    (check (answered q s.round) (fault_at NoAnswer 0) None))

-- WHAT AN ACCEPTED CALL DOES

-- the response that waits for a line; where none waits, load refuses, and the request that stands here is never loaded
abbrev pub response_next : {W : Type 0} → Option W → Message W
response_next None = Message.Request
response_next (Some w) = Message.Response w

-- of what waits for a line, the message that is loaded next: a request before a response
abbrev pub next : {W : Type 0} → Waiting W → Message W
next x = cond x.request Message.Request (response_next x.response)

-- what waits for the line after that
abbrev pub rest : {W : Type 0} → Waiting W → Waiting W
rest x = cond x.request (record x { request = false }) none_waits

-- the row with another round
abbrev pub with_round : {V W : Type 0} → State V W → Round V W → State V W
with_round s r = record s { round = r }

-- the row with other messages on line i
abbrev pub with_list : {V W : Type 0} → State V W → ℕ → List (Message W) → State V W
with_list s i xs = record s { lists = slice_set s.lists i xs }

-- the round with something else waiting for line i
abbrev pub with_waiting : {V W : Type 0} → Round V W → ℕ → Waiting W → Round V W
with_waiting r i x = record r { waiting = slice_set r.waiting i x }

-- the row after a load of line i: the message that waited next is on the line, behind the others
abbrev pub loaded : {V W : Type 0} → State V W → ℕ → State V W
loaded s i =
    with_list (with_round s (with_waiting s.round i (rest (waiting_for s.round i)))) i
    (on s i ++ (next (waiting_for s.round i) ∷ []))

-- the house at the end of line i
abbrev pub end_of : {V W : Type 0} → State V W → ℕ → ℕ
end_of s i = (slice_index_or s.plan.draft.records i blank).to

-- the row after a hand over of line i: the message x was taken off it, which leaves the messages xs there, and came to the
-- house at the end; the round counts one more hand over
abbrev pub handed : {V W F : Type 0} → Sense V W F → State V W → ℕ → Message W → List (Message W) → State V W
handed q s i x xs =
    with_list (with_round s (counted (deliver q s.plan.draft (end_of s i) (reading_of s (end_of s i)) x s.round))) i xs

-- the row with another reading of house h
abbrev pub with_reading : {V W : Type 0} → State V W → ℕ → Reading → State V W
with_reading s h r = record s { readings = slice_set s.readings h r }

-- what read answers: the final figures of the answer, and the number of accepted hand-overs since begin
abbrev pub report : {V W F : Type 0} → Sense V W F → State V W → Report F
report q s = record { figures = q.figures (answer q s.round); hand_overs = s.round.hand_overs }

-- THE CALLS: the row before, what is asked, what is answered, the row after. A refusal leaves the row as it was

-- begin starts a round with the reading of the head
abbrev pub Begins : {V W F : Type 0} → Sense V W F → State V W → Result (Unit {0}) Fault → State V W → Type 0
Begins q s (Ok _) t =
    (begin_refusal q s ≡ None) × (t ≡ with_round s (begin q s.plan.draft (reading_of s 0) s.round))
Begins q s (Err v) t = (begin_refusal q s ≡ Some v) × (t ≡ s)

-- load moves the message that waits next for line i onto it and answers its kind
abbrev pub Loads : {V W : Type 0} → ℕ → State V W → ℕ → Result Kind Fault → State V W → Type 0
Loads k s i (Ok kind) t =
    (load_refusal k s i ≡ None) × (kind ≡ kind_of (next (waiting_for s.round i))) × (t ≡ loaded s i)
Loads k s i (Err v) t = (load_refusal k s i ≡ Some v) × (t ≡ s)

-- hand over gives a message x of line i, the carrier's pick, to the house at the end, and answers its kind and that house; the
-- other messages keep their order
abbrev pub HandsOver : {V W F : Type 0} → Sense V W F → State V W → ℕ → Result Delivery Fault → State V W → Type 0
HandsOver {W = W} q s i (Ok d) t =
    (hand_over_refusal s i ≡ None)
    × ((before : List (Message W))
    × (x : Message W)
    × (after : List (Message W))
    × (on s i ≡ before ++ (x ∷ after))
    × (d ≡ record { kind = kind_of x; house = end_of s i })
    × (t ≡ handed q s i x (before ++ after)))
HandsOver q s i (Err v) t = (hand_over_refusal s i ≡ Some v) × (t ≡ s)

-- set replaces the reading of house h
abbrev pub Sets : {V W : Type 0} → State V W → ℕ → Reading → Result (Unit {0}) Fault → State V W → Type 0
Sets s h r (Ok _) t = (set_refusal s h r ≡ None) × (t ≡ with_reading s h r)
Sets s h r (Err v) t = (set_refusal s h r ≡ Some v) × (t ≡ s)

-- read answers the report and changes nothing
abbrev pub Reads : {V W F : Type 0} → Sense V W F → State V W → Result (Report F) Fault → State V W → Type 0
Reads q s (Ok x) t = (read_refusal q s ≡ None) × (x ≡ report q s) × (t ≡ s)
Reads q s (Err v) t = (read_refusal q s ≡ Some v) × (t ≡ s)

-- RUNS

-- a call leads with that answer from the row s to the row t
abbrev pub Step : {V W F : Type 0} → Sense V W F → ℕ → State V W → Call → Answer F → State V W → Type 0
Step q k s Call.Begin a t = (r : Result (Unit {0}) Fault) × (a ≡ Answer.Begin r) × Begins q s r t
Step q k s (Call.Load i) a t = (r : Result Kind Fault) × (a ≡ Answer.Load r) × Loads k s i r t
Step q k s (Call.HandOver i) a t = (r : Result Delivery Fault) × (a ≡ Answer.HandOver r) × HandsOver q s i r t
Step q k s (Call.Set h x) a t = (r : Result (Unit {0}) Fault) × (a ≡ Answer.Set r) × Sets s h x r t
Step {F = F} q k s Call.Read a t = (r : Result (Report F) Fault) × (a ≡ Answer.Read r) × Reads q s r t

-- the exchanges, each a call with its answer, lead one after the other from the row s to the row t
abbrev pub Run : {V W F : Type 0} → Sense V W F → ℕ → State V W → List (Exchange F) → State V W → Type 0
Run q k s [] t = s ≡ t
Run {V} {W} q k s (e ∷ es) t = (u : State V W) × Step q k s e.call e.answer u × Run q k u es t

-- any calls with any inputs, from any row: they are those of some run, so every call has an answer in every state
abbrev pub AnyCallsRun : (V W F : Type 0) → Type 0
AnyCallsRun V W F =
    (q : Sense V W F) (k : ℕ) (s : State V W) (calls : List Call)
    → (es : List (Exchange F)) × (t : State V W) × (map (λ e. e.call) es ≡ calls) × Run q k s es t
