-- Places: each holds a message or is free.
use Rattle.std.specs.Prelude.{◌≡◌, ℕ, ◌*◌, ◌<◌, List, [], map, length, take, drop, Some, None, Ok, Err, Option, Result, slice_set}
use Rattle.std.specs.List.{filter_map, range_with_len}
use Rattle.fault.specs.declared.faults.Fault.{Fault}
use Rattle.quantity.specs.declared.words.Word.{Word}
use Rattle.carrier.specs.declared.messages.Message.{Message}
use Rattle.carrier.specs.Makes.{Order, pick}
use Rattle.carrier.specs.Meanings.{HasNoLine}

-- the messages that places hold, in the order of the places
abbrev pub held : {W : Type 0} → List (Option (Message W)) → List (Message W)
held ps = filter_map (λ p. p) ps

-- the messages on a line of a table: those that its four places hold
abbrev pub on_line : {W : Type 0} → List (Option (Message W)) → ℕ → List (Message W)
on_line ps i = held (take 4 (drop (4 * i) ps))

-- the lists of the lines below m
abbrev pub lists_of : {W : Type 0} → ℕ → List (Option (Message W)) → List (List (Message W))
lists_of m ps = map (on_line ps) (range_with_len 0 m)

-- the first of the four places of line i, where that is one of m lines
abbrev pub FirstPlace : ℕ → ℕ → Result ℕ Fault → Type 0
FirstPlace m i (Ok first) = (i < m) × (first ≡ 4 * i)
FirstPlace m i (Err v) = HasNoLine m i v

-- what is picked by an order of the messages in places: the number of its place and the message, where the rest are held
-- once that place is free; none where all are free
abbrev pub Chosen : Order Word → List (Option (Message Word)) → Option (ℕ × Message Word) → Type 0
Chosen f ps None = held ps ≡ []
Chosen f ps (Some c) =
    (c.0 < length ps) × (pick f (held ps) ≡ Some record { message = c.1; rest = held (slice_set ps c.0 None) })

-- what is picked by an order out of places, before and after
abbrev pub TakenOut : Order Word → List (Option (Message Word)) → Option (Message Word) → List (Option (Message Word)) → Type 0
TakenOut f ps None qs = (held ps ≡ []) × (qs ≡ ps)
TakenOut f ps (Some x) qs = pick f (held ps) ≡ Some record { message = x; rest = held qs }
