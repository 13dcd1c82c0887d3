-- Two values with the same numbers are the same.
use Rattle.std.specs.Prelude.{◌≡◌, ◌^◌, ◌<◌, ◌≤◌}
use mathlib.Core.HLevel.{is_prop→PathP}
use denote.Struct.Props.{props}
use Rattle.quantity.specs.declared.extremes.Extreme.{Extreme}
use Rattle.quantity.specs.declared.flags.Sets.{Sets}
use Rattle.quantity.specs.declared.load.Total.{Total}
use Rattle.quantity.specs.declared.words.Word.{Word}

pub same_word : (x y : Word) → x.bits ≡ y.bits → x ≡ y
same_word x y e =
    λ i. record {
      bits = e i;
      fits = is_prop→PathP (λ j. e j < 2 ^ 64) (λ j. hlevel props) x.fits y.fits i;
    }

pub same_total : (x y : Total) → x.watts ≡ y.watts → x.houses ≡ y.houses → x ≡ y
same_total x y w h =
    λ i. record {
      watts = w i;
      houses = h i;
      fits = is_prop→PathP (λ j. (w j < 2 ^ 32) × (h j < 2 ^ 32)) (λ j. hlevel props) x.fits y.fits i;
    }

pub same_extreme : (x y : Extreme) → x.size ≡ y.size → x.house ≡ y.house → x ≡ y
same_extreme x y s h =
    λ i. record {
      size = s i;
      house = h i;
      within = is_prop→PathP (λ j. (s j ≤ 1500) × (h j < 48)) (λ j. hlevel props) x.within y.within i;
    }

pub same_sets : (x y : Sets) → x.any ≡ y.any → x.all ≡ y.all → x ≡ y
same_sets x y a b =
    λ i. record {
      any = a i;
      all = b i;
      fits = is_prop→PathP (λ j. (a j < 2 ^ 16) × (b j < 2 ^ 16)) (λ j. hlevel props) x.fits y.fits i;
    }
