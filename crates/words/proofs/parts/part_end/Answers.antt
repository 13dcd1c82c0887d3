use Rattle.std.proofs.Common.{◌≡◌, ℕ, ◌+◌, ◌-◌, ◌≤◌, max, Some, None, cond, eqb, ltb, MatchOption, Option, length, drop, length-drop, subst, ◌∙◌, ⊎_elim, arith, rules, tests}
use Rattle.std.proofs.lemmas.Bool.{cases_lt, cond-true, cond-false, lt-ltb, le-ltb}
use Rattle.std.proofs.lemmas.Iterator.{YieldsList-from_slice}
use Rattle.std.proofs.lemmas.Iterator.Adapters.{YieldsList-from_skip}
use Rattle.std.proofs.lemmas.Iterator.Search.{position_from_yields_List}
use Rattle.words.proofs.Cuts.{front_within}
use Rattle.words.proofs.parts.part_end.Goals as goal

ends_at : (found : Option ℕ) (n rest from long end : ℕ) → found ≡ cond (ltb n rest) (Some n) None → n ≤ rest → rest ≡ long - from → MatchOption found (end ≡ max long from) (λ k. end ≡ from + k) → end ≡ from + n
ends_at found n rest from long end is within left ends =
    let Ends : Option ℕ → Type 0 = λ o. MatchOption o (end ≡ max long from) (λ k. end ≡ from + k) in
    ⊎_elim
    (λ lt. subst Ends (is ∙ cond-true (ltb n rest) (Some n) None (lt-ltb n rest lt)) ends)
    (λ le. let last : end ≡ max long from = subst Ends (is ∙ cond-false (ltb n rest) (Some n) None (le-ltb n rest le)) ends in omega arith)
    (cases_lt n rest)

pub returns-clause-place : goal.returns-clause-place
returns-clause-place c =
    let text = c.args.text.now in
    let from = c.args.from in
    let skipped = YieldsList-from_skip from (YieldsList-from_slice text cc) cc in
    let found = position_from_yields_List (λ x. eqb x c.args.stop) _ _ c.position.result c.position.ensures.ran skipped (λ x b q k. search (rules, tests)) in
    ends_at c.position.result _ _ from (length text) c.map_or.result found (front_within c.args.stop (drop from text)) (length-drop from text) (search rules)
