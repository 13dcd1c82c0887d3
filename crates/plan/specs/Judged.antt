-- What the judge answers of a draft.
use Rattle.std.specs.Prelude.{◌≡◌, ℕ, ◌<◌, Ok, Err, Result}
use Rattle.fault.specs.declared.faults.Fault.{Fault}
use Rattle.fault.specs.Layers.{fault_at}
use Rattle.fault.specs.Numbers.{number}
use Rattle.plan.specs.declared.drafts.Draft.{Draft}
use Rattle.plan.specs.declared.plans.Plan.{Plan}
use Rattle.plan.specs.declared.rules.Rule.{Rule}
use Rattle.plan.specs.Causes.{cause_of}
use Rattle.plan.specs.Rules.{Keeps}

-- the rule is kept at every house
abbrev pub Kept : Rule → Draft → Type 0
Kept rule d = (h : ℕ) → h < d.houses → Keeps rule d h

-- the rule's lines can be followed, since each house has its own
abbrev pub Ready : Rule → Draft → Type 0
Ready (Rule.Single w) d = Unit {0}
Ready (Rule.Leading w) d = Kept (Rule.Single w) d
Ready Rule.Counters d = Unit {0}

-- h is the lowest house that breaks the rule
abbrev pub Breaks : Rule → Draft → ℕ → Type 0
Breaks rule d h = (h < d.houses) × (Keeps rule d h → ⊥) × ((j : ℕ) → j < h → Keeps rule d j)

-- one rule checked at every house
abbrev pub Checked : Rule → Draft → Result (Unit {0}) Fault → Type 0
Checked rule d (Ok _) = Kept rule d
Checked rule d (Err v) = (v ≡ fault_at (cause_of rule) v.place) × Breaks rule d v.place

-- a fault of the marks: of the rules that are broken it names the first, and the lowest house that breaks it
abbrev pub Misjudged : Draft → Fault → Type 0
Misjudged d v =
    (rule : Rule)
    × (v ≡ fault_at (cause_of rule) v.place)
    × Breaks rule d v.place
    × ((q : Rule) → number (cause_of q) < number (cause_of rule) → Kept q d)

-- the judge makes the draft a plan, or names a fault of its marks
abbrev pub Judged : Draft → Result Plan Fault → Type 0
Judged d (Ok p) = p.draft ≡ d
Judged d (Err v) = Misjudged d v

-- the same draft but for its counters, which are right
abbrev pub Recounted : Draft → Draft → Type 0
Recounted d e =
    (e.houses ≡ d.houses) × (e.lines ≡ d.lines) × (e.capacity ≡ d.capacity) × (e.records ≡ d.records) × Kept Rule.Counters e
