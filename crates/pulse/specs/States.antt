-- The state of a row.
use Rattle.std.specs.Prelude.{ℕ, Bool, true, List, [], replicate, slice_index_or}
use Rattle.plan.specs.declared.plans.Plan.{Plan}
use Rattle.quantity.specs.declared.readings.Reading.{Reading}
use Rattle.quantity.specs.Readings.{blank_reading}
use Rattle.quantity.specs.Senses.{Sense}
use Rattle.carrier.specs.declared.messages.Message.{Message}
use Rattle.pulse.specs.declared.rounds.Round.{Round}
use Rattle.pulse.specs.Rounds.{idle, none_waits}

-- a row: its plan, whether the carrier fitted when the row was made, each house's reading, the round, and the carrier's
-- lines, each with the messages on it in the order in which they were put
pub record State (V W : Type 0) : Type 0 where
  pub plan : Plan
  pub fit : Bool
  pub readings : List Reading
  pub round : Round V W
  pub lists : List (List (Message W))

-- the messages on line i
abbrev pub on : {V W : Type 0} → State V W → ℕ → List (Message W)
on s i = slice_index_or s.lists i []

-- the reading of house h
abbrev pub reading_of : {V W : Type 0} → State V W → ℕ → Reading
reading_of s h = slice_index_or s.readings h blank_reading

-- the round of a just made row: no house was called, none awaits or holds anything, and nothing waits
abbrev pub first_round : {V W F : Type 0} → Sense V W F → Round V W
first_round q = record { houses = replicate 48 (idle q 0); waiting = replicate 128 none_waits; hand_overs = 0 }

-- a just made row whose carrier fits: every reading is blank, nothing waits, and each of the plan's lines is empty
abbrev pub just_made : {V W F : Type 0} → Sense V W F → Plan → State V W
just_made q p = record {
  plan = p;
  fit = true;
  readings = replicate 48 blank_reading;
  round = first_round q;
  lists = replicate p.draft.lines [];
}
