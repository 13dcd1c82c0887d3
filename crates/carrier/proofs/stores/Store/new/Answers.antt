use Rattle.std.proofs.Common.{[], replicate, ap, ◌∙◌}
use Rattle.carrier.specs.Places.{lists_of}
use Rattle.carrier.proofs.Lists.{lists_free}
use Rattle.carrier.proofs.stores.Store.new.Goals as goal

pub returns : goal.returns
returns g c = (
  c.capacity.ensures,
  ap (lists_of c.lines.result) c.new.ensures ∙ lists_free c.lines.result 512 ∙ ap (λ n. replicate n []) c.lines.ensures,
  c.new.ensures,
)
