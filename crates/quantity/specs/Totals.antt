-- The laws of the load.
use Rattle.std.specs.Prelude.{◌≡◌, ◌/◌, ◌%◌, ◌^◌, Some}
use Rattle.std.proofs.Common.{ap, arith}
use Rattle.quantity.specs.declared.load.LoadFigures.{LoadFigures}
use Rattle.quantity.specs.declared.load.Total.{Total}
use Rattle.quantity.specs.declared.words.Word.{Word}
use Rattle.quantity.specs.Loads.{load_sense, total}
use Rattle.quantity.specs.Same.{same_word, same_total}
use Rattle.quantity.specs.Senses.{Laws}

pub load_laws : Laws Total Word LoadFigures load_sense
load_laws =
    record {
      commutative = λ x y. same_total _ _ (omega arith) (omega arith);
      associative = λ x y z. same_total _ _ (omega arith) (omega arith);
      unit = λ x. same_total _ _ (omega (arith, x.fits)) (omega (arith, x.fits));
      returned = λ x. ap Some (same_total _ _ (omega (arith, x.fits)) (omega (arith, x.fits)));
      only = λ w x e.
          let same : total (w.bits / 2 ^ 32) (w.bits % 2 ^ 32) ≡ x = cc in
          same_word _ _ (omega (arith, ap (λ t. t.watts) same, ap (λ t. t.houses) same, w.fits));
    }
