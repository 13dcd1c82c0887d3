-- What the makes of carrier share: the size of a carrier and its table.
use Rattle.std.specs.Prelude.{◌≡◌, [], replicate, None}
use Rattle.plan.specs.declared.plans.Plan.{Plan}
use Rattle.quantity.specs.declared.words.Word.{Word}
use Rattle.carrier.specs.declared.stores.Store.{Store}
use Rattle.carrier.specs.Meanings.{Meaning}
use Rattle.carrier.specs.Places.{lists_of}

-- the meaning of a store: its capacity, and the lists of the lines that it has
abbrev pub meaning_of : {M : Type 0} → Store M → Meaning Word
meaning_of s = record { capacity = s.capacity; lists = lists_of s.lines s.table.places }

-- just made from a plan: the plan's capacity, no message on any of the plan's lines, and all 512 places free
abbrev pub JustMade : {M : Type 0} → Plan → Store M → Type 0
JustMade p s =
    ((meaning_of s).capacity ≡ p.draft.capacity)
    × ((meaning_of s).lists ≡ replicate p.draft.lines [])
    × (s.table.places ≡ replicate 512 None)
