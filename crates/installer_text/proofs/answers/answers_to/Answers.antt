use Rattle.std.proofs.Common.{◌++◌, [], string_bytes, ap, sym, refl, ◌∙◌, subst}
use Rattle.std.proofs.lemmas.List.{append_assoc, append-nil}
use Rattle.words.specs.Parts.{lines}
use Rattle.words.specs.Placed.{left}
use Rattle.installer_text.specs.Answers.{Printed}
use Rattle.installer_text.proofs.Forms.{PrintedLines, printed}
use Rattle.installer_text.proofs.answers.answers_to.Goals as goal

pub loop-line-init : goal.loop-line-init
loop-line-init c = λ t from.
    let input = c.args.input.now in
    let all = ap left c.into_iter-line-iterator.ensures.into_iter_gives ∙ c.lines_of-line-items.ensures in
    subst (λ text. Printed 0 (lines input) (text ++ t)) (sym c.new-text.ensures.bytes) (printed 0 (lines input) t (subst (λ ls. PrintedLines ls t) all from))

pub loop-line-preserved : goal.loop-line-preserved
loop-line-preserved c = λ v from.
    let text = string_bytes c.loop-line.text in
    let (u, answered, added) = c.in_ok-answer.ensures in
    let so_far = c.loop-line.invariant (u ++ v) (subst (λ ls. PrintedLines ls (u ++ v)) (sym c.in-Some.ensures.steps) (u, v, answered, from, refl)) in
    subst (Printed 0 (lines c.args.input.now)) (sym (append_assoc text u v) ∙ ap (λ t. t ++ v) (sym added)) so_far

pub returns : goal.returns
returns c =
    subst (Printed 0 (lines c.args.input.now)) (append-nil (string_bytes c.loop-line.text))
    (c.loop-line.invariant [] (subst (λ ls. PrintedLines ls []) (sym c.in-None.ensures.steps.0) refl))
