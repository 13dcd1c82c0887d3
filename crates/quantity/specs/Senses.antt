-- What a quantity means, and the laws that it keeps.
use Rattle.std.specs.Prelude.{◌≡◌, ℕ, Some, Option}
use Rattle.quantity.specs.declared.readings.Reading.{Reading}

-- a quantity with values V, words W and final figures F
pub record Sense (V W F : Type 0) : Type 0 where
  -- the value that a house and its reading give
  pub given : ℕ → Reading → V
  -- the value of no house
  pub nothing : V
  -- the value of two values together
  pub join : V → V → V
  -- the word by which a message carries a value
  pub word : V → W
  -- the value of a word; none where the word stands for no value
  pub back : W → Option V
  -- what is answered in the end
  pub figures : V → F

-- the laws of a quantity, for every value of its kind
pub record Laws (V W F : Type 0) (q : Sense V W F) : Type 0 where
  -- the order of two values does not matter
  pub commutative : (x y : V) → q.join x y ≡ q.join y x
  -- nor does it matter which two of three are joined first
  pub associative : (x y z : V) → q.join (q.join x y) z ≡ q.join x (q.join y z)
  -- joining nothing changes no value
  pub unit : (x : V) → q.join q.nothing x ≡ x
  -- a value's word gives that value back
  pub returned : (x : V) → q.back (q.word x) ≡ Some x
  -- and no other word does
  pub only : (w : W) (x : V) → q.back w ≡ Some x → w ≡ q.word x
