-- Two drafts with the same numbers and tables are the same, and so are two plans of the same draft.
use Rattle.std.proofs.Common.{◌≡◌, ℕ, ◌<◌, ◌≤◌, length, get_or}
use mathlib.Core.HLevel.{is_prop→PathP}
use denote.Struct.Props.{props}
use Rattle.lines.specs.contracts.lines.Line as line
use Rattle.plan.specs.declared.drafts.Draft.{Draft}
use Rattle.plan.specs.declared.plans.Plan.{Plan}
use Rattle.plan.specs.declared.rules.Rule.{Rule}
use Rattle.lines.specs.Lines.{blank, InForm}
use Rattle.plan.specs.Rules.{Keeps}

pub same_draft : (x y : Draft) → x.houses ≡ y.houses → x.lines ≡ y.lines → x.capacity ≡ y.capacity → x.records ≡ y.records → x.counters ≡ y.counters → x ≡ y
same_draft x y n m k ls cs =
    λ i. record {
      houses = n i;
      lines = m i;
      capacity = k i;
      records = ls i;
      counters = cs i;
      size = is_prop→PathP (λ j. (1 ≤ n j) × (n j ≤ 48) × (m j ≤ 128) × (1 ≤ k j) × (k j ≤ 4)) (λ j. hlevel props) x.size y.size i;
      tables = is_prop→PathP (λ j. (length (ls j) ≡ 128) × (length (cs j) ≡ 48)) (λ j. hlevel props) x.tables y.tables i;
      form = is_prop→PathP (λ j. (a : ℕ) → a < m j → InForm (n j) (get_or (ls j) a blank)) (λ j. hlevel props) x.form y.form i;
      bytes = is_prop→PathP (λ j. (h : ℕ) → get_or (cs j) h 0 < 256) (λ j. hlevel props) x.bytes y.bytes i;
      spare = is_prop→PathP (λ j. (a : ℕ) → m j ≤ a → get_or (ls j) a blank ≡ blank) (λ j. hlevel (props, (line.the_row).coded)) x.spare y.spare i;
      rest = is_prop→PathP (λ j. (h : ℕ) → n j ≤ h → get_or (cs j) h 0 ≡ 0) (λ j. hlevel props) x.rest y.rest i;
    }

pub same_plan : (p q : Plan) → p.draft ≡ q.draft → p ≡ q
same_plan p q e =
    λ i. record {
      draft = e i;
      right = is_prop→PathP (λ j. (rule : Rule) (h : ℕ) → h < (e j).houses → ∥ Keeps rule (e j) h ∥₁) (λ j. hlevel props) p.right q.right i;
    }
