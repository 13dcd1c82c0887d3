-- The house with the lowest or the highest size: what the coldest coil and the widest gap share.
use Rattle.std.specs.Prelude.{ℕ, ◌+◌, ◌-◌, ◌*◌, ◌/◌, ◌%◌, ◌^◌, ◌<◌, Bool, cond, ◌&&◌, ◌||◌, ℤ, Some, None, Option, ◌==◌, nat_le, nat_lt}
use Rattle.std.specs.Option.{option_map}
use Rattle.std.proofs.Common.{arith, lit<}
use Rattle.std.proofs.lemmas.Bool.{leb-true, ltb-true, and_parts}
use Rattle.quantity.specs.declared.extremes.SizeFigures.{SizeFigures}
use Rattle.quantity.specs.declared.extremes.Extreme.{Extreme}
use Rattle.quantity.specs.declared.readings.Reading.{Reading}
use Rattle.quantity.specs.declared.words.Word.{Word}
use Rattle.quantity.specs.Readings.{usable}
use Rattle.quantity.specs.Senses.{Sense}
use Rattle.quantity.specs.Tested.{if_so}

-- sizes are 0 to 1,500, and houses 0 to 47
abbrev pub size_in_house : ℕ → ℕ → Bool
size_in_house size house = nat_le size 1500 && nat_lt house 48

-- that size in that house; none where there is no such size or house
abbrev pub extreme : ℕ → ℕ → Option Extreme
extreme size house =
    if_so (size_in_house size house)
    (λ e. record {
      size = size;
      house = house;
      within = (leb-true size 1500 (and_parts _ _ e).0, ltb-true house 48 (and_parts _ _ e).1);
    })

-- which of two sizes wins
pub data Choice : Type 0 where
  Lowest : Choice
  Highest : Choice

-- what is measured in a house
pub record Measuring : Type 0 where
  -- the size of a reading; none where it has none
  pub size : Reading → Option ℕ
  -- which of two sizes wins
  pub choice : Choice
  -- the size as it is answered
  pub scale : ℕ → ℤ

-- the value that a house gives whose reading has that size: none where it has none or cannot be used
abbrev pub extreme_given : ℕ → Reading → Option ℕ → Option Extreme
extreme_given h r None = None
extreme_given h r (Some size) = cond (usable h r) (extreme size h) None

-- the first size wins against the second
abbrev pub wins : Choice → ℕ → ℕ → Bool
wins Lowest a b = nat_lt a b
wins Highest a b = nat_lt b a

-- the first goes before the second: its size wins, or it is the lower house of two with equal sizes
abbrev pub goes_before : Choice → Extreme → Extreme → Bool
goes_before o x y = wins o x.size y.size || (x.size == y.size && nat_lt x.house y.house)

-- of two, the one that goes before the other
abbrev pub chosen : Choice → Extreme → Extreme → Extreme
chosen o x y = cond (goes_before o y x) y x

-- the join: what either has, and of two the chosen one
abbrev pub extreme_join : Choice → Option Extreme → Option Extreme → Option Extreme
extreme_join o None y = y
extreme_join o (Some x) None = Some x
extreme_join o (Some x) (Some y) = Some (chosen o x y)

-- the word: 0 for none, else 2^32 + size × 256 + house
abbrev pub extreme_bits : Option Extreme → ℕ
extreme_bits None = 0
extreme_bits (Some x) = 2 ^ 32 + (x.size * 256 + x.house)

-- it is a word of 64 bits
pub extreme_fits : (v : Option Extreme) → extreme_bits v < 2 ^ 64
extreme_fits None = lit< tt
extreme_fits (Some x) = omega (arith, x.within)

-- the word that carries it
abbrev pub extreme_word : Option Extreme → Word
extreme_word v = record { bits = extreme_bits v; fits = extreme_fits v }

-- a size that was found is a value, and one that was not is none
abbrev pub found : Option Extreme → Option (Option Extreme)
found None = None
found (Some x) = Some (Some x)

-- the way back: from 2^32 on the size and the house are read off, and must be in their limits
abbrev pub extreme_back : Word → Option (Option Extreme)
extreme_back w =
    cond (w.bits == 0) (Some None)
    (cond (nat_lt w.bits (2 ^ 32)) None (found (extreme ((w.bits - 2 ^ 32) / 256) ((w.bits - 2 ^ 32) % 256))))

-- size and house, both absent for none; the size is answered on that scale
abbrev pub size_figures : (ℕ → ℤ) → Option Extreme → SizeFigures
size_figures scale v = record { found = option_map (λ x. (scale x.size, x.house)) v }

-- the house whose size wins, as a quantity
abbrev pub extreme_sense : Measuring → Sense (Option Extreme) Word SizeFigures
extreme_sense m =
    record {
      given = λ h r. extreme_given h r (m.size r);
      nothing = None;
      join = extreme_join m.choice;
      word = extreme_word;
      back = extreme_back;
      figures = size_figures m.scale;
    }
