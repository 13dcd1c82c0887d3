-- What calls of a row are: steps of the rules, and so under the law of runs.
use Rattle.std.specs.Prelude.{◌≡◌, ℕ, false, List, ◌++◌, map}
use Rattle.plan.specs.declared.plans.Plan.{Plan}
use Rattle.quantity.specs.declared.words.Word.{Word}
use Rattle.quantity.specs.Senses.{Sense}
use Rattle.carrier.specs.Meanings.{Meaning}
use Rattle.pulse.specs.declared.calls.Answer.{Answer}
use Rattle.pulse.specs.declared.calls.Call.{Call}
use Rattle.pulse.specs.declared.calls.Exchange.{Exchange}
use Rattle.pulse.specs.Law.{Lawful, Reached}
use Rattle.pulse.specs.States.{State}
use Rattle.pulse.specs.Steps.{Run}
use Rattle.pulse.specs.Traces.{accepted}
use Rattle.row.specs.declared.rows.Row.{Row}
use Rattle.row.specs.Rows.{state_of}

-- the capacity of the row's lines
abbrev pub capacity_of : {Q C V F : Type 0} → (C → Meaning Word) → Row Q C V F → ℕ
capacity_of meaning r = (meaning r.carrier).capacity

-- a run of a just made row whose carrier fitted has led to this row, with this trace
abbrev pub LedTo : {Q C V F : Type 0} → Sense V Word F → (C → Meaning Word) → List (Exchange F) → Row Q C V F → Type 0
LedTo q meaning es r =
    (capacity_of meaning r ≡ r.plan.draft.capacity) × Reached q r.plan.draft.capacity r.plan es (state_of meaning r)

-- the law holds after each beginning of the trace, whatever was picked
abbrev pub LawfulThroughout : {V F : Type 0} → Sense V Word F → Plan → List (Exchange F) → Type 0
LawfulThroughout {V} {F} q p es =
    (xs ys : List (Exchange F)) (u : State V Word) → xs ++ ys ≡ es → Reached q p.draft.capacity p xs u → Lawful V Word F q p.draft.capacity p xs u

-- where a run has led to the row as it was, that run followed by these exchanges has led to the row as it is, and the law
-- of runs holds of it and of each of its beginnings
abbrev pub KeepsLaw : {Q C V F : Type 0} → Sense V Word F → (C → Meaning Word) → Row Q C V F → List (Exchange F) → Row Q C V F → Type 0
KeepsLaw {V = V} {F = F} q meaning r es t =
    (before : List (Exchange F))
    → LedTo q meaning before r
    → LedTo q meaning (before ++ es) t
    × Lawful V Word F q r.plan.draft.capacity r.plan (before ++ es) (state_of meaning t)
    × LawfulThroughout q r.plan (before ++ es)

-- a refused call leaves the very same row
abbrev pub SameUnlessAccepted : {Q C V F : Type 0} → Row Q C V F → Answer F → Row Q C V F → Type 0
SameUnlessAccepted r a t = accepted a ≡ false → t ≡ r

-- the calls of a list of exchanges
abbrev pub calls_of : {F : Type 0} → List (Exchange F) → List Call
calls_of es = map (λ e. e.call) es

-- the exchanges have their calls as before, and with the answers that they have now they lead from the row as it was to
-- the row as it is
abbrev pub Performs : {Q C V F : Type 0} → Sense V Word F → (C → Meaning Word) → Row Q C V F → List (Exchange F) → List (Exchange F) → Row Q C V F → Type 0
Performs q meaning r before after t =
    (calls_of after ≡ calls_of before)
    × Run q (capacity_of meaning r) (state_of meaning r) after (state_of meaning t)
    × (capacity_of meaning t ≡ capacity_of meaning r)
