use Rattle.std.proofs.Common.{◌≡◌, true, false, is_some, Some, None, refl, rules, tests}
use Rattle.std.proofs.lemmas.Iterator.{first_from_Range}
use Rattle.marker.specs.Rounds.{entry_in}
use Rattle.marker.proofs.tables.Table.check.Goals as goal

pub returns-in-Some : goal.returns-in-Some
returns-in-Some c =
    let found = entry_in c.args.self.now in
    let first = first_from_Range (record { start = 1; end = c.args.houses }) _ _ (Some c.in-Some.house) (λ h. is_some (found h) ≡ false) (λ h. is_some (found h) ≡ true) c.in-Some.ensures.ran (λ x q k. search (rules, tests)) (λ x q k. search (rules, tests)) in
    rw c.new.ensures (refl, first.0, first.1, first.2, first.3)

pub returns-in-None : goal.returns-in-None
returns-in-None c =
    let found = entry_in c.args.self.now in
    first_from_Range (record { start = 1; end = c.args.houses }) _ _ None (λ h. is_some (found h) ≡ false) (λ h. is_some (found h) ≡ true) c.in-None.ensures.ran (λ x q k. search (rules, tests)) (λ x q k. search (rules, tests))
