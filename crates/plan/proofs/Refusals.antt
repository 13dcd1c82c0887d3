-- A refusal by its cause and place.
use Rattle.std.proofs.Common.{◌≡◌, ℕ, ◌≤◌, List, Ok, Err, Result, sym, refl, ap, ◌∙◌, subst}
use Rattle.fault.specs.declared.causes.Cause.{Cause}
use Rattle.fault.specs.declared.faults.Fault.{Fault}
use Rattle.fault.specs.Layers.{fault_at}
use Rattle.fault.specs.Numbers.{number}
use Rattle.plan.specs.declared.drafts.Draft.{Draft}
use Rattle.lines.specs.declared.lines.Way.{Way}
use Rattle.plan.specs.declared.plans.Plan.{Plan}
use Rattle.plan.specs.declared.rules.Rule.{Rule}
use Rattle.plan.specs.Causes.{cause_of}
use Rattle.plan.specs.Files.{file_of, Flaw, Refused}
use Rattle.plan.specs.Judged.{Breaks, Judged, Misjudged}
use Rattle.plan.specs.Readers.{ReadPlan}
use Rattle.plan.proofs.Verdicts.{Below}

module _ (k : Cause) (f : List ℕ) (v : Fault) (p : ℕ) (v-is : v ≡ fault_at k p) where
  pub refused_by : Flaw k f p → Refused f v
  refused_by flaw = subst (Refused f) (sym v-is) (refl, flaw)

  pub refused_form : number k ≤ 6 → Flaw k f p → (number v.cause ≤ 6) × Refused f v
  refused_form low flaw = subst (λ w. (number w.cause ≤ 6) × Refused f w) (sym v-is) (low, (refl, flaw))

-- a draft that the judge refuses has a file that is refused
misjudged : (f : List ℕ) (d : Draft) (v : Fault) → file_of d ≡ f → Misjudged d v → Refused f v
misjudged f d v e (q, v-is, breaks, before) = refused_by (cause_of q) f v v.place v-is (flaw q breaks before)
  where
    flaw : (q : Rule) → Breaks q d v.place → Below (number (cause_of q)) d → Flaw (cause_of q) f v.place
    flaw (Rule.Single Way.Direct) b low = (d, e, (Rule.Single Way.Direct, refl, b, low))
    flaw (Rule.Leading Way.Direct) b low = (d, e, (Rule.Leading Way.Direct, refl, b, low))
    flaw (Rule.Single Way.Back) b low = (d, e, (Rule.Single Way.Back, refl, b, low))
    flaw (Rule.Leading Way.Back) b low = (d, e, (Rule.Leading Way.Back, refl, b, low))
    flaw Rule.Counters b low = (d, e, (Rule.Counters, refl, b, low))

-- a draft in form that is judged is a file that is read
pub read_judged : (f : List ℕ) (d : Draft) (r : Result Plan Fault) → file_of d ≡ f → Judged d r → ReadPlan f r
read_judged f d (Ok p) same e = ap file_of e ∙ same
read_judged f d (Err v) same wrong = misjudged f d v same wrong
