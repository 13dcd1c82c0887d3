use Rattle.std.proofs.Common.{◌∙◌, rules}
use Rattle.std.proofs.lemmas.Iterator.{YieldsList-from_slice}
use Rattle.std.proofs.lemmas.Iterator.Consumers.{YieldsList-from_enumerate, fold_from_yields_List}
use Rattle.quantity.proofs.Orders.{joined_on}
use Rattle.quantity.proofs.counts.join_all.Goals as goal

pub returns : goal.returns
returns g c =
    let q = g.Q.Quantity.sense in
    let laws = g.met.Q.Quantity.laws in
    fold_from_yields_List _ (λ x t. q.join x (q.given t.0 t.1)) _ _ c.fold.ensures.ran
    (YieldsList-from_enumerate (YieldsList-from_slice c.args.readings.now cc) cc)
    (λ x t y f k. search rules)
    ∙ (joined_on q laws c.args.readings.now 0 _ ∙ rw c.nothing.ensures (laws.unit _))
