-- How final figures are printed: parted by one space, - for each that is absent.
use Rattle.std.specs.Prelude.{ℕ, List, ◌++◌, Some, None, ℤ, codes, decimal, Option}
use Rattle.std.specs.Fmt.{signed_decimal}
use Rattle.quantity.specs.declared.extremes.SizeFigures.{SizeFigures}
use Rattle.quantity.specs.declared.flags.FlagFigures.{FlagFigures}
use Rattle.quantity.specs.declared.load.LoadFigures.{LoadFigures}

-- a number, or - where there is none
abbrev pub number_shown : Option ℕ → List ℕ
number_shown None = codes "-"
number_shown (Some n) = decimal n

-- watts, houses, mean
abbrev pub load_shown : LoadFigures → List ℕ
load_shown v = decimal v.watts ++ (codes " " ++ (decimal v.houses ++ (codes " " ++ number_shown v.mean)))

-- a size and its house, or - for each where there are none
abbrev pub found_shown : Option (ℤ × ℕ) → List ℕ
found_shown None = codes "- -"
found_shown (Some (size, house)) = signed_decimal size ++ (codes " " ++ decimal house)

-- size, house
abbrev pub size_shown : SizeFigures → List ℕ
size_shown v = found_shown v.found

-- any, all, ones
abbrev pub flags_shown : FlagFigures → List ℕ
flags_shown v = decimal v.any ++ (codes " " ++ (decimal v.all ++ (codes " " ++ decimal v.ones)))
