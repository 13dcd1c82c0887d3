use Rattle.std.proofs.Common.{◌≡◌, ℕ, ◌<◌, Bool, true, false, List, length, Some, None, Option, MatchOption, rules, arith}
use Rattle.std.specs.List.{AllWithin, HoldsAt}
use Rattle.std.proofs.lemmas.Iterator.{IsFirst-from_position, YieldsList-from_slice}
use Rattle.quantity.specs.declared.readings.Reading.{Reading}
use Rattle.quantity.specs.Counts.{Within, FirstBeyond}
use Rattle.quantity.specs.Readings.{blank_reading, in_limits}
use Rattle.quantity.proofs.counts.first_beyond.Goals as goal

abbrev is : Bool → Reading → Type 0
is b r = in_limits r ≡ b

placed : (rs : List Reading) (o : Option ℕ) → MatchOption o (AllWithin (is true) rs 0 (length rs)) (λ i. (i < length rs) × HoldsAt (is false) rs i × AllWithin (is true) rs 0 i) → MatchOption o (Within rs) (FirstBeyond rs)
placed rs None all = λ i lt. all i blank_reading (omega arith) lt
placed rs (Some i) (lt, here, before) = (lt, here blank_reading, λ j below. before j blank_reading (omega arith) below)

pub returns : goal.returns
returns c =
    placed c.args.readings.now c.position.result
    (IsFirst-from_position _ _ _ (is false) (is true) c.position.ensures.ran (YieldsList-from_slice c.args.readings.now cc) (λ r f k. search rules) (λ r f k. search rules))
