use Rattle.std.proofs.Common.{◌<◌, length, refl, ap, ◌∙◌, subst, inr}
use Rattle.fault.specs.declared.causes.Cause.TheVariants.{BufferShort}
use Rattle.fault.specs.Layers.{fault_at}
use Rattle.std.proofs.lemmas.Result.{err_from_is_err_and}
use Rattle.plan.proofs.plans.trips.rewrite.Goals as goal

pub returns-in_err-length : goal.returns-in_err-length
returns-in_err-length c =
    let p = err_from_is_err_and c.from_residual-in_err-length.result c.from_residual-in_err-length.ensures.1 in
    let accepted = c.in_ok-plan.ensures.reads in
    let short = c.in_err-length.ensures.wrote in
    rw (p.1, p.2) (
      refl,
      short.2,
      inr ((c.in_ok-plan.plan, accepted), short.0 ∙ ap (λ f. fault_at BufferShort (length f)) accepted, subst (λ f. length c.args.buffer.now < length f) accepted short.1),
    )
