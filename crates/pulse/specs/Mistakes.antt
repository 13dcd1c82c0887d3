-- Three mistakes that the rules exclude, shown on a ring of three houses: the head calls house 1, and house 1 calls house 2;
-- house 1 answers to house 2, and house 2 to the head. So line 1, from house 1 to house 2, has a request and a response to
-- carry, and the response may come first.
use Rattle.std.specs.Prelude.{◌≡◌, ℕ, false, List, [], ◌∷◌, ◌++◌, Some, Ok, Err}
use Rattle.fault.specs.declared.causes.Cause.TheVariants.{LineFull, NothingWaits}
use Rattle.fault.specs.declared.faults.Fault.{Fault}
use Rattle.fault.specs.Layers.{fault_at}
use Rattle.lines.specs.declared.lines.Marks.{Marks}
use Rattle.plan.specs.declared.plans.Plan.{Plan}
use Rattle.plan.specs.Rules.{lines_of}
use Rattle.quantity.specs.Readings.{blank_reading}
use Rattle.quantity.specs.Senses.{Sense, Laws}
use Rattle.carrier.specs.declared.messages.Kind.{Kind}
use Rattle.carrier.specs.declared.messages.Message.{Message}
use Rattle.pulse.specs.declared.calls.Answer.{Answer}
use Rattle.pulse.specs.declared.calls.Call.{Call}
use Rattle.pulse.specs.declared.calls.Exchange.{Exchange}
use Rattle.pulse.specs.Rounds.{none_waits, standing, waiting_for}
use Rattle.pulse.specs.States.{State, on}
use Rattle.pulse.specs.Law.{Reached}

-- three houses; line 0 from the head to house 1 is direct, line 1 from house 1 to house 2 is both, line 2 from house 2 to the
-- head is back
abbrev pub Ring : Plan → Type 0
Ring p =
    (p.draft.houses ≡ 3)
    × (lines_of p.draft
    ≡ record { from = 0; to = 1; marks = Marks.Direct }
    ∷ record { from = 1; to = 2; marks = Marks.Both }
    ∷ record { from = 2; to = 0; marks = Marks.Back }
    ∷ [])

-- EXCHANGES

-- begin is accepted
abbrev pub begins : {F : Type 0} → Exchange F
begins = record { call = Call.Begin; answer = Answer.Begin (Ok tt) }

-- load puts a message of that kind on the line
abbrev pub loads : {F : Type 0} → ℕ → Kind → Exchange F
loads i kind = record { call = Call.Load i; answer = Answer.Load (Ok kind) }

-- load refuses the line
abbrev pub refuses : {F : Type 0} → ℕ → Fault → Exchange F
refuses i fault = record { call = Call.Load i; answer = Answer.Load (Err fault) }

-- hand over gives a message of that kind from the line to the house
abbrev pub hands : {F : Type 0} → ℕ → Kind → ℕ → Exchange F
hands i kind h = record { call = Call.HandOver i; answer = Answer.HandOver (Ok (record { kind = kind; house = h })) }

-- a round begins and house 1 is called; since it awaits none, both its request and its response wait for line 1
abbrev pub opening : {F : Type 0} → List (Exchange F)
opening = begins ∷ loads 0 Kind.Request ∷ hands 0 Kind.Request 1 ∷ []

-- both are loaded, and the response is handed over first: it comes to house 2, which was not called
abbrev pub overtaking : {F : Type 0} → List (Exchange F)
overtaking = opening ++ (loads 1 Kind.Request ∷ loads 1 Kind.Response ∷ hands 1 Kind.Response 2 ∷ [])

-- some run has that trace, and wherever such a run leads, the property holds
abbrev pub After : {V W F : Type 0} → Sense V W F → ℕ → Plan → List (Exchange F) → (State V W → Type 0) → Type 0
After {V} {W} q k p es P = ((s : State V W) × Reached q k p es s) × ((s : State V W) → Reached q k p es s → P s)

-- THE MISTAKES

-- a response that comes before the house's request is not thrown away: house 2 holds its value and awaits one less
abbrev pub EarlyResponseKept : {V W F : Type 0} → Sense V W F → Plan → Type 0
EarlyResponseKept q p =
    After q 2 p overtaking
    (λ s. standing q s.round 2 ≡ record { called = false; awaited = 0; holding = q.given 1 blank_reading })

-- a house that awaits none but was not called does not answer: nothing waits for the back line of house 2, and load says so
abbrev pub UncalledHouseSilent : {V W F : Type 0} → Sense V W F → Plan → Type 0
UncalledHouseSilent q p =
    After q 2 p (overtaking ++ (refuses 2 (fault_at NothingWaits 2) ∷ []))
    (λ s. waiting_for s.round 2 ≡ none_waits)

-- at capacity 1 a response does not go ahead of the request that waits for the same line: load puts the request of house 1
-- on line 1, then refuses the line as full, and the response goes on waiting; no run has the response loaded first
abbrev pub RequestFirst : {V W F : Type 0} → Sense V W F → Plan → Type 0
RequestFirst {V} {W} q p =
    After q 1 p (opening ++ (loads 1 Kind.Request ∷ refuses 1 (fault_at LineFull 1) ∷ []))
    (λ s. (on s 1 ≡ Message.Request ∷ []) × (waiting_for s.round 1 ≡ record { request = false; response = Some (q.word (q.given 1 blank_reading)) }))
    × ((s : State V W) → Reached q 1 p (opening ++ (loads 1 Kind.Response ∷ [])) s → ⊥)

-- there is such a ring, and on it, whatever the quantity, none of the three is made
abbrev pub MistakesExcluded : (V W F : Type 0) → Type 0
MistakesExcluded V W F =
    (p : Plan)
    × Ring p
    × ((q : Sense V W F) → Laws V W F q → EarlyResponseKept q p × UncalledHouseSilent q p × RequestFirst q p)
