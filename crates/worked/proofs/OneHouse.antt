-- One house alone.
use Rattle.std.proofs.Common.{◌≡◌, ℕ, zero, suc, ◌<◌, true, [], ◌∷◌, get_or, Ok, sym, refl, ap, subst, arith}
use Rattle.fault.specs.declared.causes.Cause.TheVariants.{WrongCounter}
use Rattle.fault.specs.Layers.{fault_at}
use Rattle.fault.specs.Numbers.{number}
use Rattle.lines.specs.declared.lines.Way.{Way}
use Rattle.plan.specs.declared.drafts.Draft.{Draft}
use Rattle.plan.specs.declared.plans.Plan.{Plan}
use Rattle.plan.specs.declared.rules.Rule.{Rule}
use Rattle.plan.specs.Causes.{cause_of}
use Rattle.plan.specs.Files.{file_of}
use Rattle.plan.specs.Judged.{Kept, Misjudged}
use Rattle.plan.specs.Rules.{Keeps}
use Rattle.plan.proofs.Bytes.{one_draft}
use Rattle.plan.proofs.Same.{same_plan}
use Rattle.quantity.specs.declared.words.Word.{Word}
use Rattle.quantity.specs.Readings.{blank_reading}
use Rattle.quantity.specs.Senses.{Sense, Laws}
use Rattle.carrier.specs.Meanings.{Meaning}
use Rattle.pulse.specs.States.{State}
use Rattle.pulse.specs.Steps.{Begins}
use Rattle.row.specs.Rows.{new_state}
use Rattle.worked.specs.Examples.{one_house, HasAnswer, AnswersAtOnce, OneHouseAnswers, RefusesWrongCounter}
use Rattle.worked.proofs.Drafts.{draft_of}
use Rattle.worked.proofs.Verdicts.{accepted, refused}

module _ (c : ℕ) (byte : c < 256) where
  small : (h : ℕ) → get_or (c ∷ []) h 0 < 256
  small zero = byte
  small (suc h) = omega arith

  abbrev house : Draft
  house = draft_of 1 [] (c ∷ []) (omega arith, omega arith, omega arith, omega arith, omega arith) (λ i lt. absurd (omega arith)) small

abbrev right : Draft
right = house 0 (omega arith)

at_head : (q : Rule) → Keeps q right 0
at_head (Rule.Single Way.Direct) = refl
at_head (Rule.Single Way.Back) = refl
at_head (Rule.Leading w) = refl
at_head Rule.Counters = refl

kept : (q : Rule) → Kept q right
kept q zero lt = at_head q
kept q (suc h) lt = absurd (omega arith)

abbrev alone : Plan
alone = record { draft = right; right = λ q h lt. ∣ kept q h lt ∣₁ }

module _ {V F : Type 0} (q : Sense V Word F) (laws : Laws V Word F q) where
  begun : (b : Meaning Word) (t : State V Word) → Begins q (new_state q alone true b) (Ok tt) t → HasAnswer q t
  begun b t (_, is) =
      subst (HasAnswer q) (sym is)
      (refl, ap (λ x. record { figures = q.figures x; hand_overs = 0 }) (laws.unit (q.given 0 blank_reading)))

  at_once : (p : Plan) (b : Meaning Word) → file_of p.draft ≡ one_house 0 → AnswersAtOnce q (new_state q p true b)
  at_once p b file =
      let e : alone ≡ p = same_plan alone p (one_draft right p.draft (sym file)) in
      subst (λ x. AnswersAtOnce q (new_state q x true b)) e (refl, begun b)

pub one_house_answers : (V F : Type 0) → OneHouseAnswers V F
one_house_answers V F = (accepted (one_house 0) alone refl, λ q laws p b file fits. at_once q laws p b file)

-- A COUNTER OF 1

abbrev wrong : Draft
wrong = house 1 (omega arith)

trees_kept : (q : Rule) → number (cause_of q) < 11 → Keeps q wrong 0
trees_kept (Rule.Single Way.Direct) low = refl
trees_kept (Rule.Single Way.Back) low = refl
trees_kept (Rule.Leading w) low = refl
trees_kept Rule.Counters low = absurd (omega arith)

below : (q : Rule) → number (cause_of q) < 11 → Kept q wrong
below q low zero lt = trees_kept q low
below q low (suc h) lt = absurd (omega arith)

misjudged : Misjudged wrong (fault_at WrongCounter 0)
misjudged = (Rule.Counters, refl, (omega arith, (λ (e : 1 ≡ 0). omega arith), (λ j lt. absurd (omega arith))), below)

pub wrong_counter : RefusesWrongCounter
wrong_counter = refused (one_house 1) wrong refl (fault_at WrongCounter 0) misjudged (refl, (wrong, refl, misjudged))
