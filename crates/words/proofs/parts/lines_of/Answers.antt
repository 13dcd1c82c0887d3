use Rattle.std.proofs.Common.{◌≡◌, [], ◌∷◌, ◌++◌, sym, ap, ◌∙◌, ne_eqb}
use Rattle.words.specs.Parts.{parts, lines}
use Rattle.words.specs.Placed.{placed}
use Rattle.words.proofs.Cuts.{lines_closed, lines_open}
use Rattle.words.proofs.parts.lines_of.Goals as goal
use Rattle.words.proofs.parts.lines_of.Goals.{then-last-stop, else-last-stop}

pub returns : goal.returns
returns c =
    let text = c.args.text.now in
    let front = c.in-Some.front.now in
    let last = c.in-Some.last.now in
    let is : text ≡ front ++ last ∷ [] = c.in-Some.ensures.cases.0 in
    elim c.if-last-stop.branch [
      | then-last-stop w ↦
          ap (λ t. placed 0 (parts 10 t.now)) w.text-is
          ∙ ap (placed 0) (sym (lines_closed front) ∙ ap (λ x. lines (front ++ x ∷ [])) (sym w.if-last-stop.true) ∙ ap lines (sym is))
      | else-last-stop w ↦
          ap (λ t. placed 0 (parts 10 t.now)) w.text-is
          ∙ ap (placed 0) (ap (parts 10) is ∙ sym (lines_open front last (ne_eqb _ _ w.if-last-stop.false)) ∙ ap lines (sym is))
    ]
