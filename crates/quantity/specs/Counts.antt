-- The straight count, and that the order of readings does not matter.
use Rattle.std.specs.Prelude.{◌≡◌, ℕ, ◌+◌, ◌<◌, ◌≤◌, true, false, ◌⊎◌, List, [], ◌∷◌, ◌++◌, length, Ok, Err, Result, slice_index_or}
use Rattle.fault.specs.declared.causes.Cause.TheVariants.{ManyReadings, WrongReading}
use Rattle.fault.specs.declared.faults.Fault.{Fault}
use Rattle.fault.specs.Layers.{fault_at}
use Rattle.quantity.specs.declared.readings.Reading.{Reading}
use Rattle.quantity.specs.Joins.{Taking, join_of}
use Rattle.quantity.specs.Readings.{blank_reading, in_limits}
use Rattle.quantity.specs.Senses.{Sense}

-- the readings of house h, of the next house, and so on
abbrev pub takings : ℕ → List Reading → List Taking
takings h [] = []
takings h (r ∷ rs) = record { house = h; reading = r } ∷ takings (h + 1) rs

-- every reading is in limits
abbrev pub Within : List Reading → Type 0
Within rs = (i : ℕ) → i < length rs → in_limits (slice_index_or rs i blank_reading) ≡ true

-- the first reading beyond limits is the one at that place
abbrev pub FirstBeyond : List Reading → ℕ → Type 0
FirstBeyond rs i =
    (i < length rs)
    × (in_limits (slice_index_or rs i blank_reading) ≡ false)
    × ((j : ℕ) → j < i → in_limits (slice_index_or rs j blank_reading) ≡ true)

-- at most 48 readings, and all in limits
abbrev pub Countable : List Reading → Type 0
Countable rs = (length rs ≤ 48) × Within rs

-- the refusal of more than 48 readings, or else of the first that is beyond limits
abbrev pub Refused : List Reading → Fault → Type 0
Refused rs e =
    ((48 < length rs) × (e ≡ fault_at ManyReadings 48))
    ⊎ ((length rs ≤ 48) × FirstBeyond rs e.place × (e ≡ fault_at WrongReading e.place))

-- what the straight count answers: the figures of the join in house order, or the refusal
abbrev pub Counted : {V W F : Type 0} → Sense V W F → List Reading → Result F Fault → Type 0
Counted q rs (Ok f) = Countable rs × (f ≡ q.figures (join_of q (takings 0 rs)))
Counted q rs (Err e) = Refused rs e

-- the second list has the elements of the first in any order: the first of them stands somewhere in it, and the rest
-- of it has the others
abbrev pub Permutation : {A : Type 0} → List A → List A → Type 0
Permutation {A} [] ys = ys ≡ []
Permutation {A} (x ∷ xs) ys =
    (before : List A) × (after : List A) × (ys ≡ before ++ (x ∷ after)) × Permutation xs (before ++ after)

-- readings taken in any order have the same join
abbrev pub AnyOrder : {V W F : Type 0} → Sense V W F → Type 0
AnyOrder q = (ts us : List Taking) → Permutation ts us → join_of q us ≡ join_of q ts
