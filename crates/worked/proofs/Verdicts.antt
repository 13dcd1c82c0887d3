-- A draft that breaks a rule has a file with one refusal.
use Rattle.std.proofs.Common.{◌≡◌, ℕ, ◌<◌, ◌≤◌, cond, eqb, ◌⊎◌, List, Ok, Err, Result, sym, refl, ap, ◌∙◌, subst, inl, inr, ⊎_elim, arith}
use Rattle.std.proofs.lemmas.Bool.{cases_lt}
use Rattle.fault.specs.declared.causes.Cause.{Cause}
use Rattle.fault.specs.declared.causes.Cause.TheVariants.{FileShort, WrongMark, WrongVersion, BeyondLimits, WrongLength, WrongRecord, DirectIn, DirectWay, BackOut, BackWay, WrongCounter, NoWayFromHead, NoWayToHead, BufferShort, Unfit, NoLine, NothingWaits, LineFull, LineEmpty, NoHouse, WrongReading, RoundOpen, NoRound, NoAnswer, ManyReadings, NoForm}
use Rattle.fault.specs.declared.faults.Fault.{Fault}
use Rattle.fault.specs.Layers.{fault_at}
use Rattle.fault.specs.Numbers.{number}
use Rattle.lines.specs.declared.lines.Way.{Way}
use Rattle.plan.specs.declared.drafts.Draft.{Draft}
use Rattle.plan.specs.declared.plans.Plan.{Plan}
use Rattle.plan.specs.declared.rules.Rule.{Rule}
use Rattle.plan.specs.Causes.{cause_of}
use Rattle.plan.specs.Files.{file_of, Flaw, MisjudgedFile, Refused}
use Rattle.plan.specs.Judged.{Misjudged}
use Rattle.plan.specs.Readers.{ReadPlan}
use Rattle.plan.specs.Rules.{Keeps}
use Rattle.plan.proofs.Accepted.{never_malformed, never_refused, read_own}
use Rattle.plan.proofs.Bytes.{one_draft}
use Rattle.worked.specs.Examples.{Accepted, Only}

-- the file of a plan is accepted
pub accepted : (f : List ℕ) (p : Plan) → file_of p.draft ≡ f → Accepted f
accepted f p same = (p, (same, λ r reads. read_own f r reads p (sym same)))

-- a cause that is none of the file's form is a fault of the marks
marks_or_form : (f : List ℕ) (k : Cause) (at : ℕ) → Flaw k f at → (number k ≤ 6) ⊎ MisjudgedFile f (fault_at k at)
marks_or_form f FileShort at flaw = inl (omega arith)
marks_or_form f WrongMark at flaw = inl (omega arith)
marks_or_form f WrongVersion at flaw = inl (omega arith)
marks_or_form f BeyondLimits at flaw = inl (omega arith)
marks_or_form f WrongLength at flaw = inl (omega arith)
marks_or_form f WrongRecord at flaw = inl (omega arith)
marks_or_form f DirectIn at flaw = inr flaw
marks_or_form f DirectWay at flaw = inr flaw
marks_or_form f BackOut at flaw = inr flaw
marks_or_form f BackWay at flaw = inr flaw
marks_or_form f WrongCounter at flaw = inr flaw
marks_or_form f NoWayFromHead at flaw = absurd flaw
marks_or_form f NoWayToHead at flaw = absurd flaw
marks_or_form f BufferShort at flaw = absurd flaw
marks_or_form f Unfit at flaw = absurd flaw
marks_or_form f NoLine at flaw = absurd flaw
marks_or_form f NothingWaits at flaw = absurd flaw
marks_or_form f LineFull at flaw = absurd flaw
marks_or_form f LineEmpty at flaw = absurd flaw
marks_or_form f NoHouse at flaw = absurd flaw
marks_or_form f WrongReading at flaw = absurd flaw
marks_or_form f RoundOpen at flaw = absurd flaw
marks_or_form f NoRound at flaw = absurd flaw
marks_or_form f NoAnswer at flaw = absurd flaw
marks_or_form f ManyReadings at flaw = absurd flaw
marks_or_form f NoForm at flaw = absurd flaw

-- the rule of that number
abbrev rule_at : ℕ → Rule
rule_at n =
    cond (eqb n 7) (Rule.Single Way.Direct)
    (cond (eqb n 8) (Rule.Leading Way.Direct) (cond (eqb n 9) (Rule.Single Way.Back) (cond (eqb n 10) (Rule.Leading Way.Back) Rule.Counters)))

known : (q : Rule) → rule_at (number (cause_of q)) ≡ q
known (Rule.Single Way.Direct) = refl
known (Rule.Leading Way.Direct) = refl
known (Rule.Single Way.Back) = refl
known (Rule.Leading Way.Back) = refl
known Rule.Counters = refl

same_rule : (a b : Rule) → number (cause_of a) ≡ number (cause_of b) → a ≡ b
same_rule a b e = sym (known a) ∙ ap rule_at e ∙ known b

-- two numbers of which neither is the lower are the same
neither_lower : (a b : ℕ) → (a < b → ⊥) → (b < a → ⊥) → a ≡ b
neither_lower a b p q = ⊎_elim (λ lt. absurd (p lt)) (λ le. ⊎_elim (λ lt. absurd (q lt)) (λ ge. omega arith) (cases_lt b a)) (cases_lt a b)

-- two faults of one draft are the same
module _ (d : Draft) (v w : Fault) where
  not_later : (m : Misjudged d v) (o : Misjudged d w) → number (cause_of m.0) < number (cause_of o.0) → ⊥
  not_later (a, _, breaks, _) (b, _, _, low) lt = breaks.1 (low a lt v.place breaks.0)

  not_higher : (m : Misjudged d v) (o : Misjudged d w) → m.0 ≡ o.0 → v.place < w.place → ⊥
  not_higher (a, _, breaks, _) (b, _, other, _) e lt = breaks.1 (subst (λ q. Keeps q d v.place) (sym e) (other.2 v.place lt))

module _ (d : Draft) where
  one_fault : (v w : Fault) → Misjudged d v → Misjudged d w → v ≡ w
  one_fault v w m o =
      m.1 ∙ ap (λ q. fault_at (cause_of q) v.place) rules ∙ ap (fault_at (cause_of o.0)) places ∙ sym o.1
    where
      rules : m.0 ≡ o.0
      rules =
          same_rule m.0 o.0
          (neither_lower (number (cause_of m.0)) (number (cause_of o.0)) (not_later d v w m o) (not_later d w v o m))

      places : v.place ≡ w.place
      places = neither_lower v.place w.place (not_higher d v w m o rules) (not_higher d w v o m (sym rules))

-- the fault of a draft is the only refusal of its file
module _ (f : List ℕ) (d : Draft) (same : file_of d ≡ f) (v : Fault) (wrong : Misjudged d v) where
  other_fault : (w : Fault) → Refused f w → w ≡ v
  other_fault w (is, flaw) =
      ⊎_elim
      (λ low. absurd (never_malformed d w low (subst (λ g. Refused g w) (sym same) (is, flaw))))
      (λ m.
      let e : m.0 ≡ d = one_draft m.0 d (m.1 ∙ sym same) in
      one_fault d w v (subst (λ x. Misjudged d x) (sym is) (subst (λ x. Misjudged x (fault_at w.cause w.place)) e m.2)) wrong)
      (marks_or_form f w.cause w.place flaw)

  pub refused : Refused f v → Only (ReadPlan f) (Err v)
  refused here = (here, no_other)
    where
      no_other : (r : Result Plan Fault) → ReadPlan f r → r ≡ Err v
      no_other (Ok p) reads = absurd (never_refused p v (subst (λ g. Refused g v) (sym reads) here))
      no_other (Err w) other = ap Err (other_fault w other)
