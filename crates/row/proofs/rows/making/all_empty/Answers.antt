use Rattle.std.proofs.Common.{◌≡◌, ◌≢◌, length, rules, tests, arith}
use Rattle.std.proofs.lemmas.Iterator.{cases_from_all, YieldsList-from_range}
use Rattle.carrier.specs.Meanings.{on}
use Rattle.row.proofs.Empty.{all_empty}
use Rattle.row.proofs.rows.making.all_empty.Goals as goal

pub returns : goal.returns
returns g c =
    let b = g.C.Carrier.meaning c.args.carrier.now in
    all_empty b c.lines.result c.all.result c.lines.ensures
    (cases_from_all _ _ _ (λ i. length (on b i) ≡ 0) (λ i. length (on b i) ≢ 0) c.all.ensures.ran (YieldsList-from_range 0 c.lines.result c.lines.result (cc) (omega arith)) (λ x q k. search (rules, tests)) (λ x q k. search (rules, tests)))
