-- Bytes in hexadecimal capitals.
use Rattle.std.specs.Prelude.{◌≡◌, ℕ, ◌+◌, ◌/◌, ◌%◌, ◌<◌, cond, All, List, [], ◌∷◌, length, Some, None, vec_items, Option, Vec, nat_lt}
use Rattle.std.specs.declared.alloc.Global.{Global}
use Rattle.std.specs.List.{flat_map}

-- the digit of a number below 16: 0 to 9, then A to F
abbrev pub hex_digit : ℕ → ℕ
hex_digit d = cond (nat_lt d 10) (48 + d) (55 + d)

-- the two digits of a byte
abbrev pub pair_of : ℕ → List ℕ
pair_of b = hex_digit (b / 16) ∷ hex_digit (b % 16) ∷ []

abbrev pub hex_of : List ℕ → List ℕ
hex_of bs = flat_map pair_of bs

-- the word is the hexadecimal form of these bytes, one at least
abbrev pub Bytes : List ℕ → List ℕ → Type 0
Bytes word bs = (0 < length bs) × All (λ b. b < 256) bs × (hex_of bs ≡ word)

-- the word is the hexadecimal form of no bytes
abbrev pub NoBytes : List ℕ → Type 0
NoBytes word = (bs : List ℕ) → Bytes word bs → ⊥

-- the bytes whose hexadecimal form the word is, or none where there are none
abbrev pub Decoded : List ℕ → Option (Vec ℕ Global) → Type 0
Decoded word (Some v) = Bytes word (vec_items v)
Decoded word None = NoBytes word
