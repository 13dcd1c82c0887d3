-- The law of runs: what holds wherever calls lead a row, said by its trace and its state.
use Rattle.std.specs.Prelude.{◌≡◌, ℕ, zero, suc, ◌-◌, ◌*◌, ◌<◌, ◌≤◌, true, ◌⊎◌, List, map, Some, None, Option}
use Rattle.plan.specs.declared.plans.Plan.{Plan}
use Rattle.quantity.specs.Senses.{Sense, Laws}
use Rattle.quantity.specs.Joins.{joined, join_of}
use Rattle.carrier.specs.declared.messages.Message.{Message}
use Rattle.pulse.specs.declared.calls.Exchange.{Exchange}
use Rattle.pulse.specs.Rounds.{answer, standing, value_of, waiting_for}
use Rattle.pulse.specs.States.{State, just_made, on}
use Rattle.pulse.specs.Steps.{Run, hand_over_refusal, load_refusal, read_refusal, report}
use Rattle.pulse.specs.Traces.{account, reading_in, times}

-- a state is reached with a trace: a just made row on the plan, whose carrier fits and whose lines hold k messages, is led to
-- it by these calls with these answers, whatever the carrier picked
abbrev pub Reached : {V W F : Type 0} → Sense V W F → ℕ → Plan → List (Exchange F) → State V W → Type 0
Reached q k p es s = Run q k (just_made q p) es s

-- f 0 to f (n - 1), joined; of none it is nothing
abbrev pub total : {A : Type 0} → (A → A → A) → A → ℕ → (ℕ → A) → A
total join nothing zero f = nothing
total join nothing (suc n) f = join (f n) (total join nothing n f)

-- the same by the join of a quantity
abbrev pub over : {V W F : Type 0} → Sense V W F → ℕ → (ℕ → V) → V
over q n f = total q.join q.nothing n f

-- the value of the response that waits for a line: that which its word gives back, and nothing where none waits
abbrev pub waiting_value : {V W F : Type 0} → Sense V W F → Option W → V
waiting_value q None = q.nothing
waiting_value q (Some w) = value_of q w

-- the value of a message: of a response that which its word gives back, of a request nothing
abbrev pub message_value : {V W F : Type 0} → Sense V W F → Message W → V
message_value q Message.Request = q.nothing
message_value q (Message.Response w) = value_of q w

-- what the houses hold, the responses that wait and those on the lines, joined
abbrev pub held_in_all : {V W F : Type 0} → Sense V W F → Plan → State V W → V
held_in_all q p s =
    q.join (over q p.draft.houses (λ h. (standing q s.round h).holding))
    (q.join (over q p.draft.lines (λ i. waiting_value q (waiting_for s.round i).response))
    (over q p.draft.lines (λ i. joined q (map (message_value q) (on s i)))))

-- a round is finished, and has its answer, once read would be accepted
abbrev pub Finished : {V W F : Type 0} → Sense V W F → State V W → Type 0
Finished q s = read_refusal q s ≡ None

-- every house took the same reading in the latest round of both traces
abbrev pub SameReadings : {F : Type 0} → Plan → List (Exchange F) → List (Exchange F) → Type 0
SameReadings p es fs =
    (h : ℕ) → h < p.draft.houses → reading_in h (account es).taken ≡ reading_in h (account fs).taken

-- the law of a run that has led with the trace es to the state s. It speaks of the latest round; since each beginning of a run
-- is a run, it holds of every round
pub record Lawful (V W F : Type 0) (q : Sense V W F) (k : ℕ) (p : Plan) (es : List (Exchange F)) (s : State V W) : Type 0 where
  -- what houses, waiting responses and lines hold is the join of the readings taken
  pub conservation : held_in_all q p s ≡ join_of q (account es).taken
  -- and no house took two
  pub once : (h : ℕ) → times h (account es).taken ≤ 1
  -- a round without its answer has a load or a hand over that would be accepted next
  pub progress :
      (account es).begun ≡ true
      → (Finished q s → ⊥)
      → (i : ℕ) × ((load_refusal k s i ≡ None) ⊎ (hand_over_refusal s i ≡ None))
  -- the answer is there exactly when the hand-overs number 2n - 2
  pub completion :
      (account es).begun ≡ true
      → (Finished q s → (account es).hand_overs ≡ 2 * p.draft.houses - 2)
      × ((account es).hand_overs ≡ 2 * p.draft.houses - 2 → Finished q s)
  -- then every house took one reading
  pub whole : Finished q s → (h : ℕ) → h < p.draft.houses → times h (account es).taken ≡ 1
  -- and the answer is the join of these; read answers its final figures, and 2n - 2
  pub answers :
      Finished q s
      → (answer q s.round ≡ join_of q (account es).taken)
      × (report q s ≡ record { figures = q.figures (join_of q (account es).taken); hand_overs = 2 * p.draft.houses - 2 })
  -- a second run on the plan, with calls and picks of its own: where a finished round of each took the same reading in every
  -- house, they share the answer, what read answers, and the number of accepted loads of each line
  pub agreement :
      (fs : List (Exchange F)) (t : State V W)
      → Reached q k p fs t
      → Finished q s
      → Finished q t
      → SameReadings p es fs
      → (answer q s.round ≡ answer q t.round)
      × (report q s ≡ report q t)
      × ((i : ℕ) → i < p.draft.lines → (account es).loads i ≡ (account fs).loads i)

-- whatever the quantity that keeps its laws, the capacity, the plan, the calls with their inputs and the carrier's picks: every
-- run is lawful
abbrev pub LawOfRuns : (V W F : Type 0) → Type 0
LawOfRuns V W F =
    (q : Sense V W F) → Laws V W F q → (k : ℕ) → 1 ≤ k
    → (p : Plan) (es : List (Exchange F)) (s : State V W)
    → Reached q k p es s
    → Lawful V W F q k p es s
