-- The rules in the order of their numbers.
use Rattle.std.proofs.Common.{◌≡◌, ℕ, ◌-◌, ◌<◌, [], get_or, take, count_by, Ok, Err, Result, sym, ap, ◌∙◌, subst, arith}
use Rattle.std.specs.Result.{IsErrAnd}
use Rattle.fault.specs.declared.faults.Fault.{Fault}
use Rattle.fault.specs.Numbers.{number}
use Rattle.plan.specs.declared.drafts.Draft.{Draft}
use Rattle.lines.specs.declared.lines.End.{End}
use Rattle.lines.specs.declared.lines.Way.{Way}
use Rattle.plan.specs.declared.plans.Plan.{Plan}
use Rattle.plan.specs.declared.rules.Rule.{Rule}
use Rattle.plan.specs.Causes.{cause_of}
use Rattle.plan.specs.Judged.{Checked, Judged, Kept}
use Rattle.lines.specs.Lines.{meets, serves}
use Rattle.plan.specs.Rules.{lines_of, Keeps}
use Rattle.plan.proofs.Ways.{head_leads}

-- every rule of a number below N is kept
abbrev pub Below : ℕ → Draft → Type 0
Below N d = (q : Rule) → number (cause_of q) < N → Kept q d

module _ (d : Draft) where
  pub below : (N : ℕ) → (7 < N → Kept (Rule.Single Way.Direct) d) → (8 < N → Kept (Rule.Leading Way.Direct) d) → (9 < N → Kept (Rule.Single Way.Back) d) → (10 < N → Kept (Rule.Leading Way.Back) d) → (11 < N → Kept Rule.Counters d) → Below N d
  below N a b e f g (Rule.Single Way.Direct) = a
  below N a b e f g (Rule.Leading Way.Direct) = b
  below N a b e f g (Rule.Single Way.Back) = e
  below N a b e f g (Rule.Leading Way.Back) = f
  below N a b e f g Rule.Counters = g

  pub below_7 : Below 7 d
  below_7 = below 7 (λ h. absurd (omega arith)) (λ h. absurd (omega arith)) (λ h. absurd (omega arith)) (λ h. absurd (omega arith)) (λ h. absurd (omega arith))

  pub below_8 : Kept (Rule.Single Way.Direct) d → Below 8 d
  below_8 a = below 8 (λ _. a) (λ h. absurd (omega arith)) (λ h. absurd (omega arith)) (λ h. absurd (omega arith)) (λ h. absurd (omega arith))

  pub below_9 : Kept (Rule.Single Way.Direct) d → Kept (Rule.Leading Way.Direct) d → Below 9 d
  below_9 a b = below 9 (λ _. a) (λ _. b) (λ h. absurd (omega arith)) (λ h. absurd (omega arith)) (λ h. absurd (omega arith))

  pub below_10 : Kept (Rule.Single Way.Direct) d → Kept (Rule.Leading Way.Direct) d → Kept (Rule.Single Way.Back) d → Below 10 d
  below_10 a b e = below 10 (λ _. a) (λ _. b) (λ _. e) (λ h. absurd (omega arith)) (λ h. absurd (omega arith))

  pub below_11 : Kept (Rule.Single Way.Direct) d → Kept (Rule.Leading Way.Direct) d → Kept (Rule.Single Way.Back) d → Kept (Rule.Leading Way.Back) d → Below 11 d
  below_11 a b e f = below 11 (λ _. a) (λ _. b) (λ _. e) (λ _. f) (λ h. absurd (omega arith))

  pub every : Kept (Rule.Single Way.Direct) d → Kept (Rule.Leading Way.Direct) d → Kept (Rule.Single Way.Back) d → Kept (Rule.Leading Way.Back) d → Kept Rule.Counters d → (q : Rule) → Kept q d
  every a b e f g (Rule.Single Way.Direct) = a
  every a b e f g (Rule.Leading Way.Direct) = b
  every a b e f g (Rule.Single Way.Back) = e
  every a b e f g (Rule.Leading Way.Back) = f
  every a b e f g Rule.Counters = g

-- what the judge answers where a check refuses, and every rule of a lower number is kept
pub refuses : (d : Draft) (rule : Rule) (r : Result Plan Fault) (v : Fault) → IsErrAnd r (λ y. y ≡ v) → Checked rule d (Err v) → Below (number (cause_of rule)) d → Judged d r
refuses d rule (Ok p) v same broken before = absurd same
refuses d rule (Err y) v same broken before = rw same (rule, broken.0, broken.1, before)

-- one house with no line and a counter of 0 keeps every rule
module _ (d : Draft) (one : d.houses ≡ 1) (none : d.lines ≡ 0) (idle : get_or d.counters 0 0 ≡ 0) where
  no_lines : lines_of d ≡ []
  no_lines = ap (λ m. take m d.records) none

  at_head : (q : Rule) → Keeps q d 0
  at_head (Rule.Single w) = ap (count_by (serves w 0)) no_lines
  at_head (Rule.Leading w) = head_leads w (lines_of d) (d.houses - 1)
  at_head Rule.Counters = idle ∙ sym (ap (count_by (meets Way.Back End.To 0)) no_lines)

  pub alone : (q : Rule) → Kept q d
  alone q h lt = let e : 0 ≡ h = omega arith in subst (Keeps q d) e (at_head q)
