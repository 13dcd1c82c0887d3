-- The laws of two sets of bits.
use Rattle.std.specs.Prelude.{◌≡◌, ℕ, ◌/◌, ◌%◌, ◌^◌, true, Some, bit_or, refl}
use Rattle.std.proofs.Common.{sym, ◌∙◌, ap, mod-eq_of_lt, arith}
use Rattle.std.proofs.lemmas.Nat.{and_assoc, and_comm, or_comm, and_mask}
use Rattle.std.proofs.lemmas.Nat.Bits.{bit_at_or, same_from_bits}
use Rattle.std.proofs.lemmas.Bool.{lt-ltb, and_from}
use Rattle.quantity.specs.declared.flags.FlagFigures.{FlagFigures}
use Rattle.quantity.specs.declared.flags.Sets.{Sets}
use Rattle.quantity.specs.declared.words.Word.{Word}
use Rattle.quantity.specs.Flags.{two_sets, sets, sets_bits, flags_sense}
use Rattle.quantity.specs.Senses.{Laws}
use Rattle.quantity.specs.Decided.{if_so_true, from_if_so}
use Rattle.quantity.specs.Same.{same_word, same_sets}

pub or_assoc : (a b c : ℕ) → bit_or (bit_or a b) c ≡ bit_or a (bit_or b c)
or_assoc a b c =
    same_from_bits _ _
    (λ i. omega (arith, bit_at_or (bit_or a b) c i, bit_at_or a b i, bit_at_or a (bit_or b c) i, bit_at_or b c i))

pub sets_is : (x : Sets) (any all : ℕ) → x.any ≡ any → x.all ≡ all → Some x ≡ sets any all
sets_is x any all a b =
    let fit : two_sets any all ≡ true = and_from _ _ (lt-ltb any (2 ^ 16) (omega (arith, x.fits))) (lt-ltb all (2 ^ 16) (omega (arith, x.fits))) in
    ap Some (same_sets _ _ a b) ∙ sym (if_so_true (two_sets any all) _ fit).1

from_sets : (any all : ℕ) (x : Sets) → sets any all ≡ Some x → (x.any ≡ any) × (x.all ≡ all)
from_sets any all x e =
    let p = from_if_so (two_sets any all) _ x e in
    (sym (ap (λ y. y.any) p.1), sym (ap (λ y. y.all) p.1))

only : (w : Word) (x : Sets) → sets (w.bits / 65536) (w.bits % 65536) ≡ Some x → w ≡ flags_sense.word x
only w x e =
    let p = from_sets (w.bits / 65536) (w.bits % 65536) x e in
    same_word _ _ (omega (arith, p.0, p.1))

pub sets_laws : Laws Sets Word FlagFigures flags_sense
sets_laws =
    record {
      commutative = λ x y. same_sets _ _ (or_comm x.any y.any) (and_comm x.all y.all);
      associative = λ x y z. same_sets _ _ (or_assoc x.any y.any z.any) (and_assoc z.all x.all y.all);
      unit = λ x. same_sets _ _ refl (and_comm 65535 x.all ∙ (and_mask x.all 16 ∙ mod-eq_of_lt x.fits.1));
      returned = λ x.
          sym (sets_is x (sets_bits x / 65536) (sets_bits x % 65536) (omega (arith, x.fits)) (omega (arith, x.fits)));
      only = only;
    }
