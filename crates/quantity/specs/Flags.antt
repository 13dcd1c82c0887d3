-- The flags of a row: the bits set in some house and in every house.
use Rattle.std.specs.Prelude.{ℕ, ◌+◌, ◌*◌, ◌/◌, ◌%◌, ◌^◌, ◌<◌, Bool, cond, ◌&&◌, Some, None, Option, bit_and, bit_or, nat_lt}
use Rattle.std.proofs.Common.{arith, lit<}
use Rattle.std.specs.Int.Bits.{and_lt}
use Rattle.std.proofs.lemmas.Nat.{or_lt}
use Rattle.std.specs.Int.Count.{ones}
use Rattle.std.proofs.lemmas.Bool.{ltb-true, and_parts}
use Rattle.quantity.specs.declared.flags.FlagFigures.{FlagFigures}
use Rattle.quantity.specs.declared.readings.Reading.{Reading}
use Rattle.quantity.specs.declared.flags.Sets.{Sets}
use Rattle.quantity.specs.declared.words.Word.{Word}
use Rattle.quantity.specs.Readings.{usable}
use Rattle.quantity.specs.Senses.{Sense}
use Rattle.quantity.specs.Tested.{if_so}

-- two sets of 16 bits
abbrev pub two_sets : ℕ → ℕ → Bool
two_sets any all = nat_lt any (2 ^ 16) && nat_lt all (2 ^ 16)

-- those bits in some house and those in every house; none where one of them is no set of 16 bits
abbrev pub sets : ℕ → ℕ → Option Sets
sets any all =
    if_so (two_sets any all)
    (λ e. record {
      any = any;
      all = all;
      fits = (ltb-true any (2 ^ 16) (and_parts _ _ e).0, ltb-true all (2 ^ 16) (and_parts _ _ e).1);
    })

-- no bit in some house, and every bit in every house
abbrev pub no_sets : Sets
no_sets = record { any = 0; all = 65535; fits = (lit< tt, lit< tt) }

-- those sets, or nothing where there are none
abbrev pub or_no_sets : Option Sets → Sets
or_no_sets None = no_sets
or_no_sets (Some x) = x

-- both sets are the flags of the house, where these can be used
abbrev pub sets_given : ℕ → Reading → Sets
sets_given h r = cond (usable h r) (or_no_sets (sets r.flags r.flags)) no_sets

-- set in some house of either, and set in every house of both
abbrev pub sets_join : Sets → Sets → Sets
sets_join x y =
    record {
      any = bit_or x.any y.any;
      all = bit_and x.all y.all;
      fits = (or_lt 16 x.any y.any x.fits.0 y.fits.0, and_lt 16 x.all y.all x.fits.1 y.fits.1);
    }

-- the word: any × 65,536 + all
abbrev pub sets_bits : Sets → ℕ
sets_bits x = x.any * 65536 + x.all

-- it is a word of 64 bits
pub sets_fit : (x : Sets) → sets_bits x < 2 ^ 64
sets_fit x = omega (arith, x.fits)

-- the flags of a row, as a quantity; the figures are any, all, and the number of ones in any
abbrev pub flags_sense : Sense Sets Word FlagFigures
flags_sense =
    record {
      given = sets_given;
      nothing = no_sets;
      join = sets_join;
      word = λ x. record { bits = sets_bits x; fits = sets_fit x };
      back = λ w. sets (w.bits / 65536) (w.bits % 65536);
      figures = λ x. record { any = x.any; all = x.all; ones = ones x.any };
    }
