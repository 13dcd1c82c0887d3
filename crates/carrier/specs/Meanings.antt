-- What a carrier means to the code above it, and what it answers to put and take.
use Rattle.std.specs.Prelude.{◌≡◌, ℕ, ◌<◌, ◌≤◌, ◌⊎◌, List, [], ◌∷◌, ◌++◌, length, Ok, Err, Result, slice_index_or, slice_set}
use Rattle.fault.specs.declared.causes.Cause.{Cause}
use Rattle.fault.specs.declared.causes.Cause.TheVariants.{NoLine, LineFull, LineEmpty}
use Rattle.fault.specs.declared.causes.Layer.TheVariants.{Carrier}
use Rattle.fault.specs.declared.faults.Fault.{Fault}
use Rattle.carrier.specs.declared.messages.Message.{Message}

-- a carrier's meaning: the capacity k of a line and, for each line below m, the list of messages on it, oldest first;
-- m is how many lists there are
pub record Meaning (W : Type 0) : Type 0 where
  pub capacity : ℕ
  pub lists : List (List (Message W))

-- the messages on a line; a line not below m has none
abbrev pub on : {W : Type 0} → Meaning W → ℕ → List (Message W)
on b i = slice_index_or b.lists i []

-- the same but for the list of one line
abbrev pub with_list : {W : Type 0} → Meaning W → ℕ → List (Message W) → Meaning W
with_list b i xs = record { capacity = b.capacity; lists = slice_set b.lists i xs }

-- a carrier's refusal: its place is the line, and its layer is the carrier, whatever the cause
abbrev pub refusal_at : Cause → ℕ → Fault
refusal_at c i = record { cause = c; place = i; layer = Carrier }

-- there are m lines, of which line i is none
abbrev pub HasNoLine : ℕ → ℕ → Fault → Type 0
HasNoLine m i v = (m ≤ i) × (v ≡ refusal_at NoLine i)

-- line i is one of m lines, and it has as many messages as the capacity k allows, or more
abbrev pub Full : {W : Type 0} → ℕ → ℕ → ℕ → List (Message W) → Fault → Type 0
Full m k i xs v = (i < m) × (k ≤ length xs) × (v ≡ refusal_at LineFull i)

-- line i is one of m lines, and nothing is on it
abbrev pub Empty : {W : Type 0} → ℕ → ℕ → List (Message W) → Fault → Type 0
Empty m i xs v = (i < m) × (xs ≡ []) × (v ≡ refusal_at LineEmpty i)

-- put, with the meaning before and after: the message stands at the end of the line's list; or the put is refused, and
-- the meaning is as it was
abbrev pub PutAnswer : {W : Type 0} → Meaning W → ℕ → Message W → Result (Unit {0}) Fault → Meaning W → Type 0
PutAnswer b i x (Ok _) c =
    (i < length b.lists) × (length (on b i) < b.capacity) × (c ≡ with_list b i (on b i ++ (x ∷ [])))
PutAnswer b i x (Err v) c = (HasNoLine (length b.lists) i v ⊎ Full (length b.lists) b.capacity i (on b i) v) × (c ≡ b)

-- a list without one of its messages, the rest in their order
abbrev pub Without : {W : Type 0} → List (Message W) → Message W → List (Message W) → Type 0
Without xs x rest =
    (before : List (Message _)) × (after : List (Message _)) × (xs ≡ before ++ (x ∷ after)) × (rest ≡ before ++ after)

-- take, with the meaning before and after: some message of the line's list is gone from it, and the rest keep their
-- order; or the take is refused, and the meaning is as it was
abbrev pub TakeAnswer : {W : Type 0} → Meaning W → ℕ → Result (Message W) Fault → Meaning W → Type 0
TakeAnswer b i (Ok x) c =
    (i < length b.lists) × ((rest : List (Message _)) × Without (on b i) x rest × (c ≡ with_list b i rest))
TakeAnswer b i (Err v) c = (HasNoLine (length b.lists) i v ⊎ Empty (length b.lists) i (on b i) v) × (c ≡ b)

-- what is taken is the carrier's own pick, which relates the messages on a line to the one that is taken and the rest
abbrev pub Picked : {W : Type 0} → (List (Message W) → Message W → List (Message W) → Type 0) → Meaning W → ℕ → Result (Message W) Fault → Meaning W → Type 0
Picked p b i (Ok x) c = p (on b i) x (on c i)
Picked p b i (Err v) c = Unit {0}

-- a refusal leaves the very same value
abbrev pub SameIfRefused : {S A : Type 0} → S → Result A Fault → S → Type 0
SameIfRefused s (Ok _) t = Unit {0}
SameIfRefused s (Err v) t = t ≡ s
