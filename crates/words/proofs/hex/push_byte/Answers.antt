use Rattle.std.proofs.Common.{ℕ, ◌+◌, ◌/◌, ◌%◌, ◌<◌, ltb, [], ◌∷◌, ◌++◌, string_bytes, sym, refl, ap, ◌∙◌, subst, ap₂, arith}
use lib.Utf8.{encode}
use Rattle.std.proofs.lemmas.List.{append_assoc}
use Rattle.std.proofs.lemmas.Slice.{pushed}
use Rattle.std.proofs.lemmas.Bool.{cond_both}
use Rattle.words.specs.Hex.{hex_digit}
use Rattle.words.proofs.hex.push_byte.Goals as goal

digit_small : (v : ℕ) → v < 16 → hex_digit v < 128
digit_small v h = cond_both (ltb v 10) (48 + v) (55 + v) (λ x. x < 128) (λ _. omega arith) (λ _. omega arith)

pub returns : goal.returns
returns c =
    let b = c.args.byte in
    let before = string_bytes c.args.text.now in
    let high = c.push.ensures.ascii (subst (λ x. x < 128) (sym c.digit_of.ensures) (digit_small (b / 16) (omega (arith, c.ranges.byte.fits)))) in
    let low = c.push-2.ensures.ascii (subst (λ x. x < 128) (sym c.digit_of-2.ensures) (digit_small (b % 16) (omega arith))) in
    let x = encode c.digit_of.result in
    let y = encode c.digit_of-2.result in
    let one = pushed {was = before} {xs = before} x refl c.in_ok-push.was c.push.ensures.bytes in
    let two = pushed y one c.in_ok-push-2.was c.push-2.ensures.bytes in
    two
    ∙ append_assoc before x y
    ∙ ap₂ (λ u v. before ++ (u ++ v)) (high ∙ ap (λ z. z ∷ []) c.digit_of.ensures) (low ∙ ap (λ z. z ∷ []) c.digit_of-2.ensures)
