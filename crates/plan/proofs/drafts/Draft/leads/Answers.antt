use Rattle.std.proofs.Common.{◌≡◌, ℕ, ◌+◌, ◌-◌, ◌<◌, eqb, get_or, sym, ap, ◌∙◌, subst, ⊎_elim, arith, MatchBool}
use Rattle.std.proofs.lemmas.Bool.{cases_eq, eq-eqb, ne_eqb}
use Rattle.std.proofs.lemmas.List.{get_or-take}
use Rattle.lines.specs.Lines.{blank, house_at, beyond}
use Rattle.plan.specs.Rules.{lines_of, Leads}
use Rattle.plan.proofs.Forms.{form_of, length_lines}
use Rattle.plan.proofs.Ways.{end_below, head_leads, leads_by, leads_on, unserved, served}
use Rattle.plan.proofs.drafts.Draft.leads.Goals as goal

told : {P : Type 0} (at : ℕ) → (at ≡ 0 → P) → (P → at ≡ 0) → MatchBool (eqb at 0) P (P → ⊥)
told {P} at here there =
    ⊎_elim
    (λ e. subst (λ b. MatchBool b P (P → ⊥)) (sym (eq-eqb at 0 e)) (here e))
    (λ far. subst (λ b. MatchBool b P (P → ⊥)) (sym (ne_eqb at 0 far)) (λ p. far (there p)))
    (cases_eq at 0)

pub loop-step-preserved : goal.loop-step-preserved
loop-step-preserved c =
    let d = c.args.self.now in
    let w = c.args.way in
    let single = c.requires.single in
    let k = c.loop-step._step in
    let h = c.loop-step.at in
    let lt = c.loop-step.invariant.0 in
    let i = c.in-Some.line in
    let first = sym c.in-Some.ensures in
    let serving = served d w single h lt i first in
    let within : i < d.lines = omega (arith, serving.0, length_lines d) in
    let moved : c.at-at.result ≡ house_at (beyond w) (get_or (lines_of d) i blank) =
    c.at-at.ensures ∙ ap (λ e. house_at e (get_or d.records i blank)) c.beyond.ensures ∙ ap (house_at (beyond w)) (sym (get_or-take d.lines d.records i blank within)) in
    let next = λ (x : ℕ). Leads w (lines_of d) (d.houses - (k + 1)) x in (
      subst (λ x. x < d.houses) (sym moved) (end_below w d.houses (get_or (lines_of d) i blank) (form_of d i serving.0)),
      λ way. c.loop-step.invariant.1 (leads_by d w single h lt i first k c.loop-step-test.true (subst next moved way)),
      λ way. subst next (sym moved) (leads_on d w single h lt i first k c.loop-step-test.true (c.loop-step.invariant.2 way)),
    )

pub returns-then-at-eq0 : goal.returns-then-at-eq0
returns-then-at-eq0 c =
    let d = c.args.self.now in
    let w = c.args.way in
    let left = d.houses - c.loop-step._step in
    c.loop-step.invariant.1 (subst (Leads w (lines_of d) left) (sym c.if-at-eq0.true) (head_leads w (lines_of d) left))

pub returns-in_default : goal.returns-in_default
returns-in_default c = λ way.
    c.if-at-eq0.false (unserved c.args.self.now c.args.way c.requires.single c.loop-step.at c.loop-step.invariant.0 (sym c.server.ensures ∙ c.in_default.is))

pub returns : goal.returns
returns c =
    let d = c.args.self.now in
    let w = c.args.way in
    let at = c.loop-step.at in
    let none_left : d.houses - c.loop-step._step ≡ 0 = omega arith in
    told at
    (λ head. c.loop-step.invariant.1 (subst (λ s. Leads w (lines_of d) s at) (sym none_left) head))
    (λ way. subst (λ s. Leads w (lines_of d) s at) none_left (c.loop-step.invariant.2 way))
