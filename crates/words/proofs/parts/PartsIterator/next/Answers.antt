use Rattle.std.proofs.Common.{rules, length, ap}
use Rattle.words.proofs.Cuts.{cut_more, cut_last}
use Rattle.words.proofs.parts.PartsIterator.next.Goals as goal
use Rattle.words.proofs.parts.PartsIterator.next.Goals.{then-end-text, else-end-text}

pub returns-clause-steps : goal.returns-clause-steps
returns-clause-steps c =
    let part = c.in_ok-text.field-0 in
    let cut = c.part_end-end.ensures.place in
    elim c.if-end-text.branch [
      | then-end-text w ↦ let more = cut_more c.args.self.now.stop part.at _ part.text.now cut w.if-end-text.true in search rules
      | else-end-text w ↦ let last = cut_last c.args.self.now.stop part.at _ part.text.now cut w.if-end-text.false part.within in search rules
    ]

pub returns-clause-goes : goal.returns-clause-goes
returns-clause-goes c = let shorter = ap length (returns-clause-steps c) in search rules
