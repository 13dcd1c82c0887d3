use Rattle.std.proofs.Common.{◌++◌, get_or, take, string_bytes, sym, ap, ◌∙◌, arith}
use Rattle.std.proofs.lemmas.List.{flat_map_more, take_all, take_more}
use Rattle.words.specs.Hex.{hex_of, pair_of}
use Rattle.words.proofs.hex.to_hex.Goals as goal

pub loop-byte-preserved : goal.loop-byte-preserved
loop-byte-preserved c =
    let bs = c.args.bytes.now in
    let i = c.loop-byte.byte-index in
    let before = string_bytes c.args.text.now in
    c.in_ok-push_byte.ensures
    ∙ ap (λ t. t ++ pair_of (get_or bs i 0)) c.loop-byte.invariant
    ∙ flat_map_more pair_of before (take i bs) (get_or bs i 0)
    ∙ ap (λ xs. before ++ hex_of xs) (sym (take_more bs i 0 c.loop-byte-test.true))

pub returns : goal.returns
returns c =
    c.loop-byte.invariant ∙ ap (λ xs. string_bytes c.args.text.now ++ hex_of xs) (take_all c.loop-byte.byte-index c.args.bytes.now (omega arith))
