use Rattle.std.proofs.Common.{rules, ◌+◌, ◌%◌, ◌^◌, cond, arith}
use Rattle.std.proofs.lemmas.Iterator.{YieldsList-from_slice}
use Rattle.std.proofs.lemmas.Iterator.Consumers.{fold_from_yields_List}
use Rattle.lines.specs.Lines.{meets}
use Rattle.plan.specs.Rules.{lines_of}
use Rattle.plan.proofs.Counts.{folded}
use Rattle.plan.proofs.Forms.{length_lines}
use Rattle.plan.proofs.drafts.Draft.count.Goals as goal

pub returns : goal.returns
returns c =
    let d = c.args.self.now in
    let test = meets c.args.way c.args.end c.args.house in
    let made = fold_from_yields_List _ (λ n x. cond (test x) ((n + 1) % 2 ^ 64) n) _ _ c.fold.ensures.ran
    (YieldsList-from_slice (lines_of d) cc)
    (λ n x r q k. search rules) in
    omega (arith, made, folded test 0 (lines_of d) (omega (arith, length_lines d)))
