use Rattle.std.proofs.Common.{◌≡◌, ◌<◌, All, map, take, vec_items}
use Rattle.words.specs.Hex.{pair_of}
use Rattle.words.proofs.hex.from_hex.Given as goal

abbrev pub invariant-loop-pair : goal.invariant-loop-pair
invariant-loop-pair l = (map pair_of (vec_items l.bytes) ≡ take l.pair-index l.pairs) × All (λ b. b < 256) (vec_items l.bytes)
