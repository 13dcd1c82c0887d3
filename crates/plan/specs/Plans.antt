-- A plan place as it starts: one house, no line, capacity 1.
use Rattle.std.specs.Prelude.{◌≡◌, replicate}
use Rattle.plan.specs.declared.plans.Plan.{Plan}
use Rattle.lines.specs.Lines.{blank}

abbrev pub OneHouse : Plan → Type 0
OneHouse p =
    (p.draft.houses ≡ 1)
    × (p.draft.lines ≡ 0)
    × (p.draft.capacity ≡ 1)
    × (p.draft.records ≡ replicate 128 blank)
    × (p.draft.counters ≡ replicate 48 0)
