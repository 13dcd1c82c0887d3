use Rattle.std.proofs.Common.{◌≡◌, ◌+◌, ◌*◌, ◌<◌, get_or, refl, ap, ◌∙◌, arith}
use Rattle.fault.specs.declared.causes.Cause.TheVariants.{WrongRecord}
use Rattle.fault.specs.Layers.{fault_at}
use Rattle.std.proofs.lemmas.List.{length-set, length-take-le}
use Rattle.std.proofs.lemmas.Result.{err_from_is_err_and}
use Rattle.lines.specs.Lines.{blank}
use Rattle.plan.proofs.Records.{all_alike, part_is, record_cut, wrong_cut, right, records_more, spare_more}
use Rattle.plan.proofs.form.read_records.Goals as goal

pub loop-i-init : goal.loop-i-init
loop-i-init c = (refl, (λ i h. absurd (omega arith)), (λ j _. all_alike blank 128 j))

pub returns-in_err-records : goal.returns-in_err-records
returns-in_err-records c =
    let p = err_from_is_err_and c.from_residual.result c.from_residual.ensures.1 in
    let i = c.loop-i.i in
    let xs = c.args.part.now in
    let n = c.args.houses in
    let lt : i < c.args.lines = omega (arith, c.loop-i-test.true, length-take-le c.args.lines c.as_chunks.result.0.now (omega (arith, c.as_chunks.ensures.front_len))) in
    let wrong = rw (part_is c.as_chunks.result.0.now xs c.args.lines i c.as_chunks.ensures.front c.requires.0 lt) at c.in_err-records.ensures in
    let place : 9 + 3 * i + wrong.0 ≡ 9 + (3 * i + wrong.0) = omega arith in
    rw (p.1, p.2) (
      i,
      wrong.0,
      wrong.1 ∙ ap (fault_at WrongRecord) place,
      (
        lt,
        (λ a h. right xs n (3 * a) (get_or c.loop-i.records a blank) (c.loop-i.invariant.1 a h).0 (c.loop-i.invariant.1 a h).1),
        wrong_cut xs (3 * i) n wrong.0 wrong.2,
      ),
    )

pub loop-i-preserved : goal.loop-i-preserved
loop-i-preserved c =
    let i = c.loop-i.i in
    let xs = c.args.part.now in
    let lt : i < c.args.lines = omega (arith, c.loop-i-test.true, length-take-le c.args.lines c.as_chunks.result.0.now (omega (arith, c.as_chunks.ensures.front_len))) in
    let got = rw (part_is c.as_chunks.result.0.now xs c.args.lines i c.as_chunks.ensures.front c.requires.0 lt) at c.in_ok-records.ensures in (
      length-set c.loop-i.records i _ ∙ c.loop-i.invariant.0,
      records_more xs c.args.houses i c.loop-i.records _ (omega arith) c.loop-i.invariant.1 (record_cut xs (3 * i) _ got.0, got.1),
      spare_more xs c.args.houses i c.loop-i.records _ c.loop-i.invariant.2,
    )
