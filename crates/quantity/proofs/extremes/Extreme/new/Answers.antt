use Rattle.std.proofs.Common.{refl}
use Rattle.quantity.specs.Ranks.{extreme_is}
use Rattle.quantity.proofs.extremes.Extreme.new.Goals as goal

pub returns-then-house-lt-MOST_HOUSES : goal.returns-then-house-lt-MOST_HOUSES
returns-then-house-lt-MOST_HOUSES c = extreme_is _ c.args.size c.args.house refl refl
