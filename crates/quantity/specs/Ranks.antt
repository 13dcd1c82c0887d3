-- The laws of an extreme. Every size and house has a rank, lower for what goes before, so that the join is the least.
use Rattle.std.specs.Prelude.{◌≡◌, ℕ, ◌+◌, ◌-◌, ◌*◌, ◌/◌, ◌%◌, ◌^◌, ◌≤◌, min, Bool, true, false, cond, Some, None, Option, ◌==◌, nat_lt, refl}
use Rattle.std.proofs.Common.{sym, ◌∙◌, ap, arith}
use Rattle.std.proofs.lemmas.Bool.{cond-false, cond_both, ne_eqb, le-ltb, le-leb, lt-ltb, and_from, eqb-true, ltb-true, ltb-false}
use Rattle.std.proofs.lemmas.Bool.Decides.{nat_tests}
use Rattle.quantity.specs.declared.extremes.Extreme.{Extreme}
use Rattle.quantity.specs.declared.readings.Reading.{Reading}
use Rattle.quantity.specs.declared.words.Word.{Word}
use Rattle.quantity.specs.Senses.{Laws}
use Rattle.quantity.specs.Extremes.{Choice, Lowest, Highest, size_in_house, extreme, goes_before, chosen, extreme_join, extreme_bits, extreme_word, found, extreme_back}
use Rattle.quantity.specs.Decided.{if_so_true, from_if_so}
use Rattle.quantity.specs.Same.{same_word, same_extreme}

abbrev rank : Choice → Extreme → ℕ
rank Lowest x = x.size * 48 + x.house
rank Highest x = (1500 - x.size) * 48 + x.house

rank_same : (o : Choice) (x y : Extreme) → rank o x ≡ rank o y → x ≡ y
rank_same Lowest x y e = same_extreme x y (omega (arith, x.within, y.within)) (omega (arith, x.within, y.within))
rank_same Highest x y e = same_extreme x y (omega (arith, x.within, y.within)) (omega (arith, x.within, y.within))

rank_before : (o : Choice) (x y : Extreme) → goes_before o x y ≡ nat_lt (rank o x) (rank o y)
rank_before Lowest x y = let p = x.within in let q = y.within in grind (arith, nat_tests)
rank_before Highest x y = let p = x.within in let q = y.within in grind (arith, nat_tests)

rank_chosen : (o : Choice) (x y : Extreme) → rank o (chosen o x y) ≡ min (rank o x) (rank o y)
rank_chosen o x y =
    cond_both (goes_before o y x) y x (λ z. rank o z ≡ min (rank o x) (rank o y))
    (λ e. omega (arith, ltb-true (rank o y) (rank o x) (sym (rank_before o y x) ∙ e)))
    (λ e. omega (arith, ltb-false (rank o y) (rank o x) (sym (rank_before o y x) ∙ e)))

commutative : (o : Choice) (x y : Option Extreme) → extreme_join o x y ≡ extreme_join o y x
commutative o None None = refl
commutative o None (Some y) = refl
commutative o (Some x) None = refl
commutative o (Some x) (Some y) =
    ap Some (rank_same o _ _ (omega (arith, rank_chosen o x y, rank_chosen o y x)))

associative : (o : Choice) (x y z : Option Extreme) → extreme_join o (extreme_join o x y) z ≡ extreme_join o x (extreme_join o y z)
associative o None y z = refl
associative o (Some x) None z = refl
associative o (Some x) (Some y) None = refl
associative o (Some x) (Some y) (Some z) =
    ap Some
    (rank_same o _ _
    (omega (arith, rank_chosen o x y, rank_chosen o y z, rank_chosen o (chosen o x y) z, rank_chosen o x (chosen o y z))))

pub extreme_is : (x : Extreme) (size house : ℕ) → x.size ≡ size → x.house ≡ house → Some x ≡ extreme size house
extreme_is x size house s h =
    let within : size_in_house size house ≡ true = and_from _ _ (le-leb size 1500 (omega (arith, x.within))) (lt-ltb house 48 (omega (arith, x.within))) in
    let p = if_so_true (size_in_house size house) _ within in
    ap Some (same_extreme _ _ s h) ∙ sym p.1

abbrev size_of : ℕ → ℕ
size_of n = (n - 2 ^ 32) / 256

abbrev house_of : ℕ → ℕ
house_of n = (n - 2 ^ 32) % 256

returned : (v : Option Extreme) → extreme_back (extreme_word v) ≡ Some v
returned None = refl
returned (Some x) =
    cond-false _ _ _ (ne_eqb (extreme_bits (Some x)) 0 (λ e. omega arith))
    ∙ (cond-false _ _ _ (le-ltb (extreme_bits (Some x)) (2 ^ 32) (omega arith))
    ∙ ap found (sym (extreme_is x (size_of (extreme_bits (Some x))) (house_of (extreme_bits (Some x))) (omega (arith, x.within)) (omega (arith, x.within)))))

from_found : (o v : Option Extreme) → found o ≡ Some v → (x : Extreme) × (o ≡ Some x) × (v ≡ Some x)
from_found None v e = absurd cc
from_found (Some x) v e = (x, refl, cc)

from_extreme : (size house : ℕ) (x : Extreme) → extreme size house ≡ Some x → (x.size ≡ size) × (x.house ≡ house)
from_extreme size house x e =
    let p = from_if_so (size_in_house size house) _ x e in
    (sym (ap (λ y. y.size) p.1), sym (ap (λ y. y.house) p.1))

only_high : (w : Word) (v : Option Extreme) → 2 ^ 32 ≤ w.bits → found (extreme (size_of w.bits) (house_of w.bits)) ≡ Some v → w ≡ extreme_word v
only_high w v high e =
    let p = from_found (extreme (size_of w.bits) (house_of w.bits)) v e in
    let q = from_extreme (size_of w.bits) (house_of w.bits) p.0 p.1 in
    same_word _ _ (omega (arith, q.0, q.1, ap extreme_bits p.2))

only_by : (zero low : Bool) (w : Word) (v : Option Extreme) → (w.bits == 0) ≡ zero → nat_lt w.bits (2 ^ 32) ≡ low → cond zero (Some None) (cond low None (found (extreme (size_of w.bits) (house_of w.bits)))) ≡ Some v → w ≡ extreme_word v
only_by true low w v z l e = let none : None ≡ v = cc in same_word _ _ (eqb-true w.bits 0 z ∙ ap extreme_bits none)
only_by false true w v z l e = absurd cc
only_by false false w v z l e = only_high w v (ltb-false w.bits (2 ^ 32) l) e

only : (w : Word) (v : Option Extreme) → extreme_back w ≡ Some v → w ≡ extreme_word v
only w v e = only_by (w.bits == 0) (nat_lt w.bits (2 ^ 32)) w v refl refl e

-- the laws of a quantity whose values are extremes, whatever a house gives and whatever is answered
pub extreme_laws :
    {F : Type 0} (o : Choice) (given : ℕ → Reading → Option Extreme) (figures : Option Extreme → F) →
    Laws (Option Extreme) Word F (record {
      given = given;
      nothing = None;
      join = extreme_join o;
      word = extreme_word;
      back = extreme_back;
      figures = figures;
    })
extreme_laws o given figures =
    record {
      commutative = commutative o;
      associative = associative o;
      unit = λ _. refl;
      returned = returned;
      only = only;
    }
