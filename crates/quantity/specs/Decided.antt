-- Values that need a test to be passed.
use Rattle.std.specs.Prelude.{◌≡◌, Bool, true, false, Some, refl}
use Rattle.quantity.specs.Tested.{if_so}

module _ {A : Type 0} where
  pub if_so_true : (b : Bool) (f : b ≡ true → A) → b ≡ true → (e : b ≡ true) × (if_so b f ≡ Some (f e))
  if_so_true true f e = (refl, refl)
  if_so_true false f e = absurd cc

  pub from_if_so : (b : Bool) (f : b ≡ true → A) (x : A) → if_so b f ≡ Some x → (e : b ≡ true) × (f e ≡ x)
  from_if_so true f x e = (refl, cc)
  from_if_so false f x e = absurd cc
