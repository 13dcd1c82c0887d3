use Rattle.std.proofs.Common.{refl, sym, ap, ◌∙◌}
use Rattle.std.proofs.lemmas.Bool.{cond-true}
use Rattle.quantity.specs.Flags.{or_no_sets}
use Rattle.quantity.specs.Unions.{sets_is}
use Rattle.quantity.proofs.flags.FlagsQuantity.value.Goals as goal

pub returns : goal.returns
returns c = ap or_no_sets (sets_is _ _ _ refl refl) ∙ sym (cond-true _ _ _ (sym c.if-not-usable.ensures))
