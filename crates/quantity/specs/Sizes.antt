-- The coldest coil and the widest gap, as quantities.
use Rattle.std.specs.Prelude.{pos, ◌-ℤ◌, neg_ℤ, Some, Option, unsigned_abs}
use Rattle.quantity.specs.declared.extremes.Extreme.{Extreme}
use Rattle.quantity.specs.declared.extremes.SizeFigures.{SizeFigures}
use Rattle.quantity.specs.declared.words.Word.{Word}
use Rattle.quantity.specs.Extremes.{Lowest, Highest, Measuring, extreme_sense}
use Rattle.quantity.specs.Readings.{coil, gap}
use Rattle.quantity.specs.Senses.{Sense}

-- a coil's size is its temperature above −600, and the lowest wins
abbrev pub coil_measuring : Measuring
coil_measuring =
    record {
      size = λ r. Some (unsigned_abs (coil r -ℤ neg_ℤ (pos 600)));
      choice = Lowest;
      scale = λ size. pos size -ℤ pos 600;
    }

-- a gap's size is the difference of probe and clamp, and the highest wins
abbrev pub gap_measuring : Measuring
gap_measuring = record { size = gap; choice = Highest; scale = λ size. pos size }

-- the coldest coil
abbrev pub coldest_sense : Sense (Option Extreme) Word SizeFigures
coldest_sense = extreme_sense coil_measuring

-- the widest gap
abbrev pub gap_sense : Sense (Option Extreme) Word SizeFigures
gap_sense = extreme_sense gap_measuring
