-- Ten worked examples of the rules.
use Rattle.std.specs.Prelude.{◌≡◌, ℕ, ◌<◌, ◌≤◌, true, List, [], ◌∷◌, ℤ, pos, neg_ℤ, Some, None, Ok, Err, Option}
use Rattle.fault.specs.declared.causes.Cause.{Cause}
use Rattle.fault.specs.declared.causes.Cause.TheVariants.{DirectWay, BackOut, WrongCounter, WrongReading}
use Rattle.fault.specs.Layers.{fault_at}
use Rattle.plan.specs.declared.plans.Plan.{Plan}
use Rattle.plan.specs.Files.{file_of}
use Rattle.plan.specs.Readers.{ReadPlan}
use Rattle.quantity.specs.declared.extremes.Extreme.{Extreme}
use Rattle.quantity.specs.declared.readings.Reading.{Reading}
use Rattle.quantity.specs.declared.flags.Sets.{Sets}
use Rattle.quantity.specs.declared.words.Word.{Word}
use Rattle.quantity.specs.Counts.{Counted}
use Rattle.quantity.specs.Flags.{flags_sense}
use Rattle.quantity.specs.Loads.{load_sense, total}
use Rattle.quantity.specs.Readings.{blank_reading, coil}
use Rattle.quantity.specs.Senses.{Sense, Laws}
use Rattle.quantity.specs.Sizes.{coldest_sense}
use Rattle.carrier.specs.Meanings.{Meaning}
use Rattle.pulse.specs.States.{State}
use Rattle.pulse.specs.Steps.{begin_refusal, read_refusal, report, set_refusal, Begins}
use Rattle.row.specs.Rows.{Fits, new_state}

-- WORDS OF THE EXAMPLES

-- the contract allows this answer, and no other
abbrev pub Only : {A : Type 0} → (A → Type 0) → A → Type 0
Only {A} P x = P x × ((y : A) → P y → y ≡ x)

-- the reader accepts the file
abbrev pub Accepted : List ℕ → Type 0
Accepted f = (p : Plan) × Only (ReadPlan f) (Ok p)

-- the reader refuses the file for that cause at that place
abbrev pub RefusedFor : List ℕ → Cause → ℕ → Type 0
RefusedFor f c p = Only (ReadPlan f) (Err (fault_at c p))

-- the file of one house and no line, with that counter
abbrev pub one_house : ℕ → List ℕ
one_house counter = 0x52 ∷ 0x4F ∷ 0x57 ∷ 0x00 ∷ 0x01 ∷ 0x01 ∷ 0x00 ∷ 0x00 ∷ 0x01 ∷ counter ∷ []

-- the file of two houses and a line each way, with those marks on line 0, which leaves the head
abbrev pub two_houses : ℕ → List ℕ
two_houses marks = 0x52 ∷ 0x4F ∷ 0x57 ∷ 0x00 ∷ 0x01 ∷ 0x02 ∷ 0x00 ∷ 0x02 ∷ 0x01 ∷ 0x00 ∷ 0x01 ∷ marks ∷ 0x01 ∷ 0x00 ∷ 0x02 ∷ 0x01 ∷ 0x00 ∷ []

-- the file of three houses whose only lines are direct, 1 to 2 and 2 to 1, with that capacity and those counters
abbrev pub three_houses : ℕ → ℕ → ℕ → ℕ → List ℕ
three_houses k a b c = 0x52 ∷ 0x4F ∷ 0x57 ∷ 0x00 ∷ 0x01 ∷ 0x03 ∷ 0x00 ∷ 0x02 ∷ k ∷ 0x01 ∷ 0x02 ∷ 0x01 ∷ 0x02 ∷ 0x01 ∷ 0x01 ∷ a ∷ b ∷ c ∷ []

-- read is accepted, with the figures of what house 0 and its blank reading give, and 0 hand-overs
abbrev pub HasAnswer : {V F : Type 0} → Sense V Word F → State V Word → Type 0
HasAnswer q t =
    (read_refusal q t ≡ None) × (report q t ≡ record { figures = q.figures (q.given 0 blank_reading); hand_overs = 0 })

-- begin is accepted, and the answer is there after it
abbrev pub AnswersAtOnce : {V F : Type 0} → Sense V Word F → State V Word → Type 0
AnswersAtOnce {V} q s = (begin_refusal q s ≡ None) × ((t : State V Word) → Begins q s (Ok tt) t → HasAnswer q t)

-- a reading that is blank but for the probe, and one that is blank but for the flags
abbrev pub with_probe : ℤ → Reading
with_probe t = record { probe = t; clamp = None; watts = 0; flags = 0 }

abbrev pub with_flags : ℕ → Reading
with_flags x = record { probe = pos 0; clamp = None; watts = 0; flags = x }

-- the value of flags 8 in house g and flags 12 in house h together
abbrev pub eight_and_twelve : ℕ → ℕ → Sets
eight_and_twelve g h = flags_sense.join (flags_sense.given g (with_flags 8)) (flags_sense.given h (with_flags 12))

-- the value of a probe of −20 in a house
abbrev pub twenty_below : ℕ → Option Extreme
twenty_below h = coldest_sense.given h (with_probe (neg_ℤ (pos 20)))

-- THE EXAMPLES

-- one house alone with a counter of 0 is accepted, and a row of its plan has its answer as soon as a round is begun, after
-- 0 hand-overs, whatever the quantity and whatever carrier fits
abbrev pub OneHouseAnswers : (V F : Type 0) → Type 0
OneHouseAnswers V F =
    Accepted (one_house 0)
    × ((q : Sense V Word F) → Laws V Word F q → (p : Plan) (b : Meaning Word) → file_of p.draft ≡ one_house 0 → Fits p b → AnswersAtOnce q (new_state q p true b))

-- the same house with a counter of 1 is refused: 11 at house 0
abbrev pub RefusesWrongCounter : Type 0
RefusesWrongCounter = RefusedFor (one_house 1) WrongCounter 0

-- two houses with a direct line out and a back line home are accepted
abbrev pub TwoHousesAccepted : Type 0
TwoHousesAccepted = Accepted (two_houses 1)

-- the same two with line 0 marked both ways are refused: 9 at house 0
abbrev pub BackLineFromHead : Type 0
BackLineFromHead = RefusedFor (two_houses 3) BackOut 0

-- three houses of which two have direct lines from each other only are refused: 8 at house 1, for every capacity and all
-- counters
abbrev pub CircleOfDirectLines : Type 0
CircleOfDirectLines =
    (k a b c : ℕ) → 1 ≤ k → k ≤ 4 → a < 256 → b < 256 → c < 256 → RefusedFor (three_houses k a b c) DirectWay 1

-- the watts of a load begin again at 2^32: 4,294,967,295 of 1 house and 1 of 1 house are 0 of 2 houses
abbrev pub LoadWraps : Type 0
LoadWraps = load_sense.join (total 4294967295 1) (total 1 1) ≡ total 0 2

-- of two equally cold coils the lower house is named: −20 in house 3 and in house 1 is −20 in house 1, whose word is
-- 4,295,115,777
abbrev pub ColdestTie : Type 0
ColdestTie =
    (coldest_sense.join (twenty_below 3) (twenty_below 1) ≡ twenty_below 1)
    × (coldest_sense.figures (twenty_below 1) ≡ record { found = Some (neg_ℤ (pos 20), 1) })
    × ((coldest_sense.word (twenty_below 1)).bits ≡ 4295115777)

-- flags 8 and 12, in whichever two houses: 12 in some house, 8 in every house, 2 ones, and the word is 786,440
abbrev pub FlagsOfTwo : Type 0
FlagsOfTwo =
    (g h : ℕ) → g < 48 → h < 48
    → (flags_sense.figures (eight_and_twelve g h) ≡ record { any = 12; all = 8; ones = 2 })
    × ((flags_sense.word (eight_and_twelve g h)).bits ≡ 786440)

-- a probe of 900 is taken and one of 901 is refused by 26: by set, at the house, on any row whose carrier fits; and by the
-- straight count of that one reading, at place 0, whatever the quantity
abbrev pub ProbeLimit : (V F : Type 0) → Type 0
ProbeLimit V F =
    ((s : State V Word) (h : ℕ) → s.fit ≡ true → h < s.plan.draft.houses
    → (set_refusal s h (with_probe (pos 900)) ≡ None) × (set_refusal s h (with_probe (pos 901)) ≡ Some (fault_at WrongReading h)))
    × ((q : Sense V Word F) → Laws V Word F q
    → Only (Counted q (with_probe (pos 900) ∷ [])) (Ok (q.figures (q.given 0 (with_probe (pos 900)))))
    × Only (Counted q (with_probe (pos 901) ∷ [])) (Err (fault_at WrongReading 0)))

-- without a clamp the coil is the probe, even where the flags have the probe's fault: flags 8 and probe 40 give 40
abbrev pub FaultyProbeAlone : Type 0
FaultyProbeAlone = coil (record { probe = pos 40; clamp = None; watts = 0; flags = 8 }) ≡ pos 40

-- ALL TEN

pub record Examples (V F : Type 0) : Type 0 where
  pub one_house_answers : OneHouseAnswers V F
  pub wrong_counter : RefusesWrongCounter
  pub two_houses_accepted : TwoHousesAccepted
  pub back_line_from_head : BackLineFromHead
  pub circle_of_direct_lines : CircleOfDirectLines
  pub load_wraps : LoadWraps
  pub coldest_tie : ColdestTie
  pub flags_of_two : FlagsOfTwo
  pub probe_limit : ProbeLimit V F
  pub faulty_probe_alone : FaultyProbeAlone
