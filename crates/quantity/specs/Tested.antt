-- A value that needs a test to be passed.
use Rattle.std.specs.Prelude.{◌≡◌, Bool, true, false, Some, None, Option, refl}

-- the value, if the test is passed
abbrev pub if_so : {A : Type 0} (b : Bool) → (b ≡ true → A) → Option A
if_so true f = Some (f refl)
if_so false f = None
