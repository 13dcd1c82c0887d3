use Rattle.std.proofs.Common.{◌≡◌, ◌+◌, ◌<◌, ◌≤◌, length, get_or, take, set, sym, ap, ◌∙◌, subst, arith}
use Rattle.lines.specs.declared.lines.End.{End}
use Rattle.lines.specs.Lines.{blank, meets}
use Rattle.pulse.specs.Rounds.{with_message, way_of, at_lines}
use Rattle.row.proofs.AtLines.{at_lines_changed, at_lines_kept}
use Rattle.row.proofs.waiting.send.Goals as goal
use Rattle.row.proofs.waiting.send.Goals.{then-meets, else-meets}

pub loop-i-preserved : goal.loop-i-preserved
loop-i-preserved c =
    let p = meets (way_of c.args.message) End.From c.args.house in
    let f = with_message c.args.message in
    let ls = c.args.lines.now in
    let xs = c.args.waiting.now in
    let i = c.loop-i.i in
    let lt : i < length ls = omega arith in
    let le : length ls ≤ length xs = omega arith in
    let tested : c.meets.result ≡ p (get_or ls i blank) = cc in
    elim c.if-meets.branch [
      | then-meets w ↦
          let d = w.index-waiting-i.result in
          w.waiting-is
          ∙ ap (set c.loop-i.waiting i) w.add.ensures
          ∙ subst (λ ys. set ys i (f (get_or ys i d)) ≡ at_lines p f (take (i + 1) ls) xs) (sym c.loop-i.invariant) (sym (at_lines_changed p f d ls xs i lt le (sym tested ∙ w.if-meets.true)))
      | else-meets w ↦ w.waiting-is ∙ c.loop-i.invariant ∙ sym (at_lines_kept p f ls xs i lt le (sym tested ∙ w.if-meets.false))
    ]
