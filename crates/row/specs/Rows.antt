-- A row as a state of the rules, by the meaning of its carrier.
use Rattle.std.specs.Prelude.{◌≡◌, ℕ, ◌<◌, Bool, [], length, replicate}
use Rattle.plan.specs.declared.plans.Plan.{Plan}
use Rattle.quantity.specs.declared.words.Word.{Word}
use Rattle.quantity.specs.Readings.{blank_reading}
use Rattle.quantity.specs.Senses.{Sense}
use Rattle.carrier.specs.Meanings.{Meaning, on}
use Rattle.pulse.specs.States.{State, first_round}
use Rattle.row.specs.declared.rows.Row.{Row}

-- the state of a row
abbrev pub state_of : {Q C V F : Type 0} → (C → Meaning Word) → Row Q C V F → State V Word
state_of meaning r = record {
  plan = r.plan;
  fit = r.fit;
  readings = r.readings;
  round = r.question.round;
  lists = (meaning r.carrier).lists;
}

-- every line is empty
abbrev pub AllEmpty : Meaning Word → Type 0
AllEmpty b = (i : ℕ) → i < length b.lists → on b i ≡ []

-- the carrier fits the plan: its m and k are the plan's, and every line is empty
abbrev pub Fits : Plan → Meaning Word → Type 0
Fits p b = (length b.lists ≡ p.draft.lines) × (b.capacity ≡ p.draft.capacity) × AllEmpty b

-- a just made row, whose carrier fits or not
abbrev pub new_state : {V F : Type 0} → Sense V Word F → Plan → Bool → Meaning Word → State V Word
new_state q p fit b = record {
  plan = p;
  fit = fit;
  readings = replicate 48 blank_reading;
  round = first_round q;
  lists = b.lists;
}

-- the carrier takes another message on the line
abbrev pub Loadable : Meaning Word → ℕ → Type 0
Loadable b i = (i < 128) × (i < length b.lists) × (length (on b i) < b.capacity)

-- the carrier has a message on the line, which the plan has too
abbrev pub Takeable : Plan → Meaning Word → ℕ → Type 0
Takeable p b i = (i < p.draft.lines) × (i < length b.lists) × (0 < length (on b i))
