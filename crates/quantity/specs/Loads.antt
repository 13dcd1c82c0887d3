-- The load of a row: the sum of watts and the number of houses.
use Rattle.std.specs.Prelude.{ℕ, ◌+◌, ◌*◌, ◌/◌, ◌%◌, ◌^◌, ◌<◌, cond, Some, None, ◌==◌}
use Rattle.std.proofs.Common.{mod-lt, arith, lit<}
use Rattle.quantity.specs.declared.load.LoadFigures.{LoadFigures}
use Rattle.quantity.specs.declared.load.Total.{Total}
use Rattle.quantity.specs.declared.words.Word.{Word}
use Rattle.quantity.specs.Readings.{usable}
use Rattle.quantity.specs.Senses.{Sense}

-- that many watts of that many houses, each modulo 2^32
abbrev pub total : ℕ → ℕ → Total
total watts houses =
    record {
      watts = watts % 2 ^ 32;
      houses = houses % 2 ^ 32;
      fits = (mod-lt watts (lit< tt), mod-lt houses (lit< tt));
    }

-- the word: watts × 2^32 + houses
abbrev pub total_bits : Total → ℕ
total_bits x = x.watts * 2 ^ 32 + x.houses

-- it is a word of 64 bits
pub total_fits : (x : Total) → total_bits x < 2 ^ 64
total_fits x = omega (arith, x.fits)

-- sum, number, and the mean rounded down; no mean of no house
abbrev pub load_figures : Total → LoadFigures
load_figures x =
    record { watts = x.watts; houses = x.houses; mean = cond (x.houses == 0) None (Some (x.watts / x.houses)) }

-- the load of a row, as a quantity
abbrev pub load_sense : Sense Total Word LoadFigures
load_sense =
    record {
      given = λ h r. cond (usable h r) (total r.watts 1) (total 0 0);
      nothing = total 0 0;
      join = λ x y. total (x.watts + y.watts) (x.houses + y.houses);
      word = λ x. record { bits = total_bits x; fits = total_fits x };
      back = λ w. Some (total (w.bits / 2 ^ 32) (w.bits % 2 ^ 32));
      figures = load_figures;
    }
