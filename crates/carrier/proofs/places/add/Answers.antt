use Rattle.std.proofs.Common.{◌≡◌, ◌<◌, get_or, None, length, rules, arith}
use Rattle.std.proofs.iter.runs.Made.{chains}
use Rattle.carrier.proofs.Held.{held_moved, held_full}
use Rattle.carrier.proofs.places.add.Goals as goal

pub returns-in-Some : goal.returns-in-Some
returns-in-Some c =
    let within : c.in-Some.free < length c.args.places.now = search (rules, chains) in
    let free : get_or c.args.places.now c.in-Some.free None ≡ None = search (rules, chains) in
    held_moved c.args.places.now c.in-Some.free c.args.message c.rotate_left.new.self within free c.rotate_left.ensures.after

pub returns-in_default : goal.returns-in_default
returns-in_default c = absurd (omega (arith, c.requires, held_full c.args.places.now (λ k h e. search (rules, chains))))
