-- Three houses, of which two have direct lines from each other only.
use Rattle.std.proofs.Common.{ℕ, zero, suc, ◌<◌, ◌≤◌, List, [], ◌∷◌, get_or, refl, inl, inr, arith}
use Rattle.std.proofs.lemmas.Bool.{false≢true}
use Rattle.fault.specs.declared.causes.Cause.TheVariants.{DirectWay}
use Rattle.fault.specs.Layers.{fault_at}
use Rattle.fault.specs.Numbers.{number}
use Rattle.lines.specs.declared.lines.Line.{Line}
use Rattle.lines.specs.declared.lines.Marks.{Marks}
use Rattle.lines.specs.declared.lines.Way.{Way}
use Rattle.lines.specs.Lines.{blank, InForm}
use Rattle.plan.specs.declared.drafts.Draft.{Draft}
use Rattle.plan.specs.declared.rules.Rule.{Rule}
use Rattle.plan.specs.Causes.{cause_of}
use Rattle.plan.specs.Judged.{Kept, Misjudged}
use Rattle.plan.specs.Rules.{Keeps, Leads}
use Rattle.worked.specs.Examples.{three_houses, CircleOfDirectLines}
use Rattle.worked.proofs.Drafts.{draft_of}
use Rattle.worked.proofs.Verdicts.{refused}

abbrev circle : List Line
circle = record { from = 1; to = 2; marks = Marks.Direct } ∷ record { from = 2; to = 1; marks = Marks.Direct } ∷ []

form : (i : ℕ) → i < 2 → InForm 3 (get_or circle i blank)
form zero lt = (omega arith, omega arith, λ e. omega arith)
form (suc zero) lt = (omega arith, omega arith, λ e. omega arith)
form (suc (suc i)) lt = absurd (omega arith)

no_way_2 : Leads Way.Direct circle 1 2 → ⊥
no_way_2 (inl e) = omega arith
no_way_2 (inr (zero, _, _, e)) = omega arith
no_way_2 (inr (suc zero, _, serves, _)) = false≢true serves
no_way_2 (inr (suc (suc i), lt, _, _)) = omega arith

no_way_1 : Leads Way.Direct circle 2 1 → ⊥
no_way_1 (inl e) = omega arith
no_way_1 (inr (zero, _, serves, _)) = false≢true serves
no_way_1 (inr (suc zero, _, _, leads)) = no_way_2 leads
no_way_1 (inr (suc (suc i), lt, _, _)) = omega arith

module _ (k a b c : ℕ) (least : 1 ≤ k) (most : k ≤ 4) (a_byte : a < 256) (b-byte : b < 256) (c-byte : c < 256) where
  small : (h : ℕ) → get_or (a ∷ b ∷ c ∷ []) h 0 < 256
  small zero = a_byte
  small (suc zero) = b-byte
  small (suc (suc zero)) = c-byte
  small (suc (suc (suc h))) = omega arith

  abbrev houses : Draft
  houses = draft_of k circle (a ∷ b ∷ c ∷ []) (omega arith, omega arith, omega arith, least, most) form small

  below : (q : Rule) → number (cause_of q) < 8 → Kept q houses
  below (Rule.Single Way.Direct) low zero lt = refl
  below (Rule.Single Way.Direct) low (suc zero) lt = refl
  below (Rule.Single Way.Direct) low (suc (suc zero)) lt = refl
  below (Rule.Single Way.Direct) low (suc (suc (suc h))) lt = absurd (omega arith)
  below (Rule.Leading Way.Direct) low h lt = absurd (omega arith)
  below (Rule.Single Way.Back) low h lt = absurd (omega arith)
  below (Rule.Leading Way.Back) low h lt = absurd (omega arith)
  below Rule.Counters low h lt = absurd (omega arith)

  before : (j : ℕ) → j < 1 → Keeps (Rule.Leading Way.Direct) houses j
  before zero lt = inl refl
  before (suc j) lt = absurd (omega arith)

  misjudged : Misjudged houses (fault_at DirectWay 1)
  misjudged = (Rule.Leading Way.Direct, refl, (omega arith, no_way_1, before), below)

pub circle_of_direct_lines : CircleOfDirectLines
circle_of_direct_lines k a b c least most x y z =
    refused (three_houses k a b c) (houses k a b c least most x y z) refl (fault_at DirectWay 1) (misjudged k a b c least most x y z)
    (refl, (houses k a b c least most x y z, refl, misjudged k a b c least most x y z))
