-- What the tables of the search make of a draft.
use Rattle.std.proofs.Common.{◌≡◌, ℕ, zero, suc, ◌<◌, ◌≤◌, true, false, List, get_or, is_some, Some, None, Ok, Err, Decides, Option, Result, sym, ap, ◌∙◌, subst, inl, inr, ⊎_elim, arith}
use Rattle.std.proofs.lemmas.List.{get_or_past, get_or-take}
use Rattle.std.proofs.lemmas.Bool.Decides.{Decides-at}
use Rattle.std.proofs.lemmas.Bool.{cases_lt, eq-eqb, eqb-true, false≢true, true≢false}
use Rattle.fault.specs.declared.causes.Cause.{Cause}
use Rattle.fault.specs.declared.causes.Cause.TheVariants.{NoWayFromHead, NoWayToHead}
use Rattle.fault.specs.declared.faults.Fault.{Fault}
use Rattle.lines.specs.declared.lines.Line.{Line}
use Rattle.lines.specs.declared.lines.Way.{Way}
use Rattle.lines.specs.Lines.{blank, house_at, near, marked, InForm}
use Rattle.plan.proofs.Forms.{form_of, length_lines}
use Rattle.plan.specs.declared.drafts.Draft.{Draft}
use Rattle.plan.specs.declared.plans.Plan.{Plan}
use Rattle.plan.specs.Judged.{Judged}
use Rattle.plan.specs.Rules.{lines_of}
use Rattle.marker.specs.declared.tables.Step.{Step}
use Rattle.marker.specs.declared.tables.Tables.{Tables}
use Rattle.marker.specs.Distances.{Chosen, CutOff}
use Rattle.marker.specs.Marked.{entry_on, takes, remark_of, BothComplete, Complete, FirstCut, JoinedUp, MarkDraft, Remarked, RemarkedBy, SameEnds, Unreached}
use Rattle.marker.specs.Rounds.{Found, Searched}
use Rattle.marker.proofs.Ends.{chosen_joined, head_joined, head_unchosen, one_chosen}
use Rattle.marker.proofs.Keeping.{keeps}

near_below : (w : Way) (n : ℕ) (l : Line) → InForm n l → house_at (near w) l < n
near_below w n l form = grind arith

-- AN ENTRY OF A TABLE

module _ (w : Way) (xs : List Line) (h : ℕ) where
  found_chosen : (o : Option Step) → Found w xs h o → is_some o ≡ true → (i : ℕ) × Chosen w xs h i
  found_chosen (Some step) chosen e = (step.line, chosen)
  found_chosen None cut e = absurd (false≢true e)

  found_cut : (o : Option Step) → Found w xs h o → is_some o ≡ false → CutOff w xs h
  found_cut (Some step) chosen e = absurd (true≢false e)
  found_cut None cut e = cut

  takes_decides : (i : ℕ) (o : Option Step) → Found w xs h o → Decides (takes o i) (Chosen w xs h i)
  takes_decides i (Some step) chosen = (
    λ e. subst (Chosen w xs h) (eqb-true step.line i e) chosen,
    λ here. eq-eqb step.line i (one_chosen w xs h step.line i chosen here),
  )
  takes_decides i None cut = (λ e. absurd (false≢true e), λ here. absurd (chosen_joined w xs h i here cut))

-- A WHOLE TABLE

module _ (w : Way) (d : Draft) (found : ℕ → Option Step) (is_found : Searched w (lines_of d) d.houses found) where
  pub all_chosen : ((h : ℕ) → 1 ≤ h → h < d.houses → is_some (found h) ≡ true) → (h : ℕ) → 1 ≤ h → h < d.houses → (i : ℕ) × Chosen w (lines_of d) h i
  all_chosen there h far lt = found_chosen w (lines_of d) h (found h) (is_found h far lt) (there h far lt)

  joined_at : (h : ℕ) → h < d.houses → (1 ≤ h → is_some (found h) ≡ true) → CutOff w (lines_of d) h → ⊥
  joined_at zero lt there cut = head_joined w (lines_of d) cut
  joined_at (suc h) lt there cut =
      let c = found_chosen w (lines_of d) (suc h) (found (suc h)) (is_found (suc h) (omega arith) lt) (there (omega arith)) in
      chosen_joined w (lines_of d) (suc h) c.0 c.1 cut

  pub joined_up : ((h : ℕ) → 1 ≤ h → h < d.houses → is_some (found h) ≡ true) → JoinedUp w d
  joined_up there h lt = joined_at h lt (λ far. there h far lt)

  pub first_cut : (cause : Cause) (v : Fault) → Complete found d.houses cause (Err v) → FirstCut w d v.place
  first_cut cause v (_, far, lt, none, before) = (
    lt,
    found_cut w (lines_of d) v.place (found v.place) (is_found v.place far lt) none,
    λ g below. joined_at g (omega arith) (λ g-far. before g g-far below),
  )

-- THE MARKS BY THE TABLES

remark_takes : (found : Way → ℕ → Option Step) (w : Way) (i : ℕ) (l : Line) → marked w (remark_of found i l).marks ≡ takes (found w (house_at (near w) l)) i
remark_takes found w i l = grind arith

no_head : (tables : Tables) (w : Way) → entry_on tables w 0 ≡ None
no_head tables Way.Direct = tables.direct.head
no_head tables Way.Back = tables.back.head

module _ (d : Draft) (tables : Tables) (is_found : (w : Way) → Searched w (lines_of d) d.houses (entry_on tables w)) where
  -- a house is cut off
  pub unreached : (v : Fault) → BothComplete (entry_on tables) d.houses (Err v) → Unreached d v
  unreached v (inl cut) = inl (cut.0, first_cut Way.Direct d (entry_on tables Way.Direct) (is_found Way.Direct) NoWayFromHead v cut)
  unreached v (inr (out, cut)) =
      inr (cut.0, joined_up Way.Direct d (entry_on tables Way.Direct) (is_found Way.Direct) out, first_cut Way.Back d (entry_on tables Way.Back) (is_found Way.Back) NoWayToHead v cut)

  taken : (w : Way) (h i : ℕ) → h < d.houses → Decides (takes (entry_on tables w h) i) (Chosen w (lines_of d) h i)
  taken w zero i lt = (
    λ on. absurd (false≢true (sym (ap (λ o. takes o i) (no_head tables w)) ∙ on)),
    λ chosen. absurd (head_unchosen w (lines_of d) i chosen),
  )
  taken w (suc h) i lt = takes_decides w (lines_of d) (suc h) i (entry_on tables w (suc h)) (is_found w (suc h) (omega arith) lt)

  module _ (e : Draft) (rem : RemarkedBy d (entry_on tables) e) where
    line_is : (i : ℕ) → i < d.lines → get_or (lines_of e) i blank ≡ remark_of (entry_on tables) i (get_or (lines_of d) i blank)
    line_is i lt =
        get_or-take e.lines e.records i blank (omega (arith, rem.1))
        ∙ rem.3.1 i lt
        ∙ ap (remark_of (entry_on tables) i) (sym (get_or-take d.lines d.records i blank lt))

    past : (i : ℕ) → d.lines ≤ i → get_or (lines_of d) i blank ≡ get_or (lines_of e) i blank
    past i ge =
        get_or_past (lines_of d) i blank (omega (arith, length_lines d))
        ∙ sym (get_or_past (lines_of e) i blank (omega (arith, length_lines e, rem.1)))

    same_ends : SameEnds (lines_of d) (lines_of e)
    same_ends = (
      length_lines d ∙ sym rem.1 ∙ sym (length_lines e),
      λ i.
          ⊎_elim
          (λ lt. (sym (ap (λ l. l.from) (line_is i lt)), sym (ap (λ l. l.to) (line_is i lt))))
          (λ ge. (ap (λ l. l.from) (past i ge), ap (λ l. l.to) (past i ge)))
          (cases_lt i d.lines),
    )

    chosen_marked : (w : Way) (i : ℕ) → i < d.lines → Decides (marked w (get_or (lines_of e) i blank).marks) (Chosen w (lines_of d) (house_at (near w) (get_or (lines_of d) i blank)) i)
    chosen_marked w i lt =
        let l = get_or (lines_of d) i blank in
        Decides-at _ _
        (ap (λ x. marked w x.marks) (line_is i lt) ∙ remark_takes (entry_on tables) w i l)
        (taken w (house_at (near w) l) i (near_below w d.houses l (form_of d i (omega (arith, length_lines d)))))

    remarked : Remarked d e
    remarked = (rem.0, rem.1, rem.2, same_ends, chosen_marked, rem.4)

    -- the judge takes it
    pub marked_draft : BothComplete (entry_on tables) d.houses (Ok tt) → (r : Result Plan Fault) → Judged e r → MarkDraft d r
    marked_draft there (Ok p) same = (
      joined_up Way.Direct d (entry_on tables Way.Direct) (is_found Way.Direct) there.0,
      joined_up Way.Back d (entry_on tables Way.Back) (is_found Way.Back) there.1,
      subst (Remarked d) (sym same) remarked,
    )
    marked_draft there (Err v) (q, _, (lt, broken, _), _) =
        absurd (broken (keeps d e remarked each q v.place lt))
      where
        each : (w : Way) (h : ℕ) → 1 ≤ h → h < d.houses → (i : ℕ) × Chosen w (lines_of d) h i
        each Way.Direct = all_chosen Way.Direct d (entry_on tables Way.Direct) (is_found Way.Direct) there.0
        each Way.Back = all_chosen Way.Back d (entry_on tables Way.Back) (is_found Way.Back) there.1
