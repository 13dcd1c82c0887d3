use Rattle.std.proofs.Common.{ℕ, ◌+◌, ◌*◌, List, drop, refl, subst, subst₂, arith}
use Rattle.fault.specs.declared.causes.Cause.TheVariants.{WrongRecord}
use Rattle.std.proofs.lemmas.List.{take_rest}
use Rattle.std.proofs.lemmas.Result.{err_from_is_err_and}
use Rattle.plan.specs.Files.{FirstWrong}
use Rattle.plan.specs.Readers.{Records}
use Rattle.plan.proofs.Files.{counters_are, counters_length, counters_table, counters_small, counters_rest, restored}
use Rattle.plan.proofs.Refusals.{refused_form}
use Rattle.plan.proofs.drafts.Draft.read.Goals as goal

pub returns-in_err-records : goal.returns-in_err-records
returns-in_err-records c =
    let p = err_from_is_err_and c.from_residual-in_err-records.result c.from_residual-in_err-records.ensures.1 in
    let f = c.args.file.now in
    let head = c.in_ok-houses.ensures in
    let wrong = c.in_err-records.ensures in
    let first : List ℕ → Type 0 = λ xs. FirstWrong c.in_ok-houses.field-0.houses c.in_ok-houses.field-0.lines xs wrong.0 wrong.1 in
    let here = subst₂ (λ n m. FirstWrong n m (drop 9 f) wrong.0 wrong.1) head.3 head.4 (subst first (take_rest f 9) wrong.3) in
    rw (p.1, p.2)
    (refused_form WrongRecord f _ _ wrong.2 (omega arith) (head.0, head.1, head.2, (wrong.0, wrong.1, refl, here)))

pub invariant_of-result : goal.invariant_of-result
invariant_of-result c =
    let f = c.args.file.now in
    let s = c.in_ok-houses.field-0 in
    let cs = c.read_counters-counters.result in
    let head = c.in_ok-houses.ensures in
    let got = c.in_ok-records.ensures in
    let are = counters_are f (9 + 3 * s.lines) cs c.read_counters-counters.ensures in
    let long = counters_length f s.houses s.lines s.capacity head.3 head.4 head.5 head.0 head.2 in
    record {
      size = (omega (arith, head), omega (arith, head), omega (arith, head), omega (arith, head), omega (arith, head));
      tables = (got.0, counters_table f (9 + 3 * s.lines) cs are (omega (arith, head, long)));
      form = λ i h. (got.1 i h).1;
      bytes = counters_small f (9 + 3 * s.lines) cs are (λ i. (c.type_inv.file i).fits);
      spare = got.2;
      rest = counters_rest f (9 + 3 * s.lines) cs are s.houses long;
    }

pub returns : goal.returns
returns c =
    let f = c.args.file.now in
    let s = c.in_ok-houses.field-0 in
    let head = c.in_ok-houses.ensures in
    let got = c.in_ok-records.ensures in
    let cs = c.read_counters-counters.result in
    restored f s.houses s.lines s.capacity head.3 head.4 head.5 head.0 head.2 (c.type_inv.file 7).fits
    c.in_ok-records.records cs got.0 (omega (arith, head))
    (subst (λ xs. Records xs s.houses s.lines c.in_ok-records.records) (take_rest f 9) got.1)
    (counters_are f (9 + 3 * s.lines) cs c.read_counters-counters.ensures)
