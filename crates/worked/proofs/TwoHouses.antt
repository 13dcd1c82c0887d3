-- Two houses with a line each way.
use Rattle.std.proofs.Common.{◌≡◌, ℕ, zero, suc, ◌<◌, List, [], ◌∷◌, get_or, refl, inl, inr, arith}
use Rattle.fault.specs.declared.causes.Cause.TheVariants.{BackOut}
use Rattle.fault.specs.Layers.{fault_at}
use Rattle.fault.specs.Numbers.{number}
use Rattle.lines.specs.declared.lines.Line.{Line}
use Rattle.lines.specs.declared.lines.Marks.{Marks}
use Rattle.lines.specs.declared.lines.Way.{Way}
use Rattle.lines.specs.Lines.{blank, InForm}
use Rattle.plan.specs.declared.drafts.Draft.{Draft}
use Rattle.plan.specs.declared.rules.Rule.{Rule}
use Rattle.plan.specs.Causes.{cause_of}
use Rattle.plan.specs.Judged.{Kept, Misjudged}
use Rattle.worked.specs.Examples.{two_houses, TwoHousesAccepted, BackLineFromHead}
use Rattle.worked.proofs.Drafts.{draft_of}
use Rattle.worked.proofs.Verdicts.{accepted, refused}

module _ (m : Marks) where
  abbrev both : List Line
  both = record { from = 0; to = 1; marks = m } ∷ record { from = 1; to = 0; marks = Marks.Back } ∷ []

  form : (i : ℕ) → i < 2 → InForm 2 (get_or both i blank)
  form zero lt = (omega arith, omega arith, λ e. omega arith)
  form (suc zero) lt = (omega arith, omega arith, λ e. omega arith)
  form (suc (suc i)) lt = absurd (omega arith)

  small : (h : ℕ) → get_or (1 ∷ 0 ∷ []) h 0 < 256
  small zero = omega arith
  small (suc zero) = omega arith
  small (suc (suc h)) = omega arith

  abbrev houses : Draft
  houses = draft_of 1 both (1 ∷ 0 ∷ []) (omega arith, omega arith, omega arith, omega arith, omega arith) form small

abbrev right : Draft
right = houses Marks.Direct

kept : (q : Rule) → Kept q right
kept (Rule.Single Way.Direct) zero lt = refl
kept (Rule.Single Way.Direct) (suc zero) lt = refl
kept (Rule.Single Way.Back) zero lt = refl
kept (Rule.Single Way.Back) (suc zero) lt = refl
kept (Rule.Leading w) zero lt = inl refl
kept (Rule.Leading Way.Direct) (suc zero) lt = inr (0, omega arith, refl, refl)
kept (Rule.Leading Way.Back) (suc zero) lt = inr (1, omega arith, refl, refl)
kept Rule.Counters zero lt = refl
kept Rule.Counters (suc zero) lt = refl
kept q (suc (suc h)) lt = absurd (omega arith)

pub two_houses_accepted : TwoHousesAccepted
two_houses_accepted = accepted (two_houses 1) (record { draft = right; right = λ q h lt. ∣ kept q h lt ∣₁ }) refl

-- LINE 0 MARKED BOTH WAYS

abbrev wrong : Draft
wrong = houses Marks.Both

below : (q : Rule) → number (cause_of q) < 9 → Kept q wrong
below (Rule.Single Way.Direct) low zero lt = refl
below (Rule.Single Way.Direct) low (suc zero) lt = refl
below (Rule.Single Way.Direct) low (suc (suc h)) lt = absurd (omega arith)
below (Rule.Leading Way.Direct) low zero lt = inl refl
below (Rule.Leading Way.Direct) low (suc zero) lt = inr (0, omega arith, refl, refl)
below (Rule.Leading Way.Direct) low (suc (suc h)) lt = absurd (omega arith)
below (Rule.Single Way.Back) low h lt = absurd (omega arith)
below (Rule.Leading Way.Back) low h lt = absurd (omega arith)
below Rule.Counters low h lt = absurd (omega arith)

misjudged : Misjudged wrong (fault_at BackOut 0)
misjudged = (Rule.Single Way.Back, refl, (omega arith, (λ (e : 1 ≡ 0). omega arith), (λ j lt. absurd (omega arith))), below)

pub back_line_from_head : BackLineFromHead
back_line_from_head = refused (two_houses 3) wrong refl (fault_at BackOut 0) misjudged (refl, (wrong, refl, misjudged))
