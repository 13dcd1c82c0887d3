-- The join of readings.
use Rattle.std.specs.Prelude.{ℕ, List, [], ◌∷◌, map}
use Rattle.quantity.specs.declared.readings.Reading.{Reading}
use Rattle.quantity.specs.Senses.{Sense}

-- a reading, and the house that took it
pub record Taking : Type 0 where
  pub house : ℕ
  pub reading : Reading

-- the join of values; of none it is nothing
abbrev pub joined : {V W F : Type 0} → Sense V W F → List V → V
joined q [] = q.nothing
joined q (x ∷ xs) = q.join x (joined q xs)

-- the join of the readings taken, each by the value that its house and it give
abbrev pub join_of : {V W F : Type 0} → Sense V W F → List Taking → V
join_of q ts = joined q (map (λ t. q.given t.house t.reading) ts)
