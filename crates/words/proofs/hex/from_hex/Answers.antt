use Rattle.std.proofs.Common.{◌≡◌, ◌<◌, ◌/◌, ◌*◌, [], length, get_or, map, vec_items, sym, ap, ◌∙◌, arith}
use Rattle.std.proofs.lemmas.List.{take_all, length-map, get_or-map}
use Rattle.std.specs.Simd.{first_chunks}
use Rattle.words.specs.Hex.{pair_of}
use Rattle.words.proofs.Digits.{hex_length, pairs_of, from_pairs}
use Rattle.words.proofs.hex.from_hex.Goals as goal
use Rattle.words.proofs.hex.from_hex.Goals.{then-is_empty-via-then-is_empty, then-is_empty-via-else-is_empty+then-not-is_empty}

pub returns-then-is_empty : goal.returns-then-is_empty
returns-then-is_empty c = λ bs bytes.
    let long = hex_length c.args.word.now bs bytes.2 in
    elim c.then-is_empty.branch [
      | then-is_empty-via-then-is_empty w ↦ grind arith
      | then-is_empty-via-else-is_empty+then-not-is_empty w ↦ grind arith
    ]

pub returns-in_default : goal.returns-in_default
returns-in_default c = λ bs bytes.
    let i = c.loop-pair.pair-index in
    let word = c.args.word.now in
    let long = hex_length word bs bytes.2 in
    let half : length word / 2 ≡ length bs = omega (arith, long) in
    let cut : c.as_chunks.result.0.now ≡ map pair_of bs =
    c.as_chunks.ensures.front ∙ ap (λ n. first_chunks 2 n word) half ∙ ap (first_chunks 2 (length bs)) (sym bytes.2) ∙ pairs_of bs in
    let here : i < length bs = omega (arith, half, c.as_chunks.ensures.front_len) in
    c.in_default.ensures (get_or bs i 0) (bytes.1 i 0 here) (sym (get_or-map pair_of bs i 0 [] here) ∙ ap (λ ps. get_or ps i []) (sym cut))

pub returns : goal.returns
returns c =
    let bs = vec_items c.loop-pair.bytes in
    let word = c.args.word.now in
    let pairs = c.as_chunks.result.0.now in
    let all : map pair_of bs ≡ pairs = c.loop-pair.invariant.0 ∙ take_all c.loop-pair.pair-index pairs c.loop-pair-test.false in
    let long : length bs ≡ length word / 2 = sym (length-map bs pair_of) ∙ ap length all ∙ c.as_chunks.ensures.front_len in
    let some : 0 < length pairs = grind arith in
    let even : length word ≡ 2 * length bs = grind arith in (
      omega (arith, long, some, c.as_chunks.ensures.front_len),
      c.loop-pair.invariant.1,
      from_pairs bs word even (all ∙ c.as_chunks.ensures.front ∙ ap (λ n. first_chunks 2 n word) (sym long)),
    )
