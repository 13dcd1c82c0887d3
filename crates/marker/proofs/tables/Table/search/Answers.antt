use Rattle.std.proofs.Common.{◌≡◌, ◌-◌, None, sym, subst, arith, add-one}
use Rattle.std.proofs.lemmas.List.{get_or-replicate}
use Rattle.plan.proofs.Forms.{form_of}
use Rattle.plan.specs.Rules.{lines_of}
use Rattle.marker.proofs.Entries.{Entry, entry_start, next_entry, entry_found}
use Rattle.marker.proofs.tables.Table.search.Goals as goal

pub loop-distance-init : goal.loop-distance-init
loop-distance-init c h far lt =
    let w = c.args.way in
    let xs = lines_of c.args.draft.now in
    subst (Entry w xs 0 h) (sym (get_or-replicate 48 h None None (omega arith))) (entry_start w xs h far)

pub loop-distance-preserved : goal.loop-distance-preserved
loop-distance-preserved c h far lt =
    let d = c.args.draft.now in
    let before = c.loop-distance.invariant in
    rw add-one (next_entry c.args.way (lines_of d) d.houses (form_of d) _ _ before h far _ _ (before h far lt) (c.round.ensures h far lt))

pub returns : goal.returns
returns c h far lt =
    let d = c.args.draft.now in
    let last : c.loop-distance.distance ≡ d.houses - 1 = omega arith in
    entry_found c.args.way (lines_of d) d.houses (form_of d) h lt _ (rw last at (c.loop-distance.invariant h far lt))
