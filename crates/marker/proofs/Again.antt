-- Marking again changes nothing, and a file in form is refused exactly when some house is cut off.
use Rattle.std.proofs.Common.{◌≡◌, ℕ, ◌<◌, Bool, List, [], ◌∷◌, get_or, take, is_err, Ok, Err, count_by, Result, sym, refl, ap, ◌∙◌, subst, ap₂, inl, inr, ⊎_elim, arith}
use Rattle.std.proofs.lemmas.List.{ext_get_or, get_or-take}
use Rattle.std.proofs.lemmas.Bool.{cases_lt, false≢true}
use Rattle.std.proofs.lemmas.Bool.Decides.{Decides-like, same_from_decides}
use Rattle.fault.specs.declared.faults.Fault.{Fault}
use Rattle.lines.specs.declared.lines.End.{End}
use Rattle.lines.specs.declared.lines.Line.{Line}
use Rattle.lines.specs.declared.lines.Marks.{Marks}
use Rattle.lines.specs.declared.lines.Way.{Way}
use Rattle.lines.specs.Lines.{blank, near, marked, marks_of, meets}
use Rattle.lines.specs.Walks.{Walk, Route}
use Rattle.plan.proofs.Accepted.{never_malformed, never_refused}
use Rattle.plan.proofs.Bytes.{one_draft}
use Rattle.plan.proofs.Same.{same_draft, same_plan}
use Rattle.plan.proofs.Spanning.{two_trees}
use Rattle.plan.specs.declared.drafts.Draft.{Draft}
use Rattle.plan.specs.declared.plans.Plan.{Plan}
use Rattle.plan.specs.Files.{file_of, Refused}
use Rattle.plan.specs.Rules.{lines_of}
use Rattle.plan.specs.Trees.{Tree}
use Rattle.marker.specs.Distances.{any_line, Chosen}
use Rattle.marker.specs.Marked.{JoinedUp, MarkDraft, MarkPlan, MarksPlanAgain, RefusesCutOff, Remarked, SomeCutOff, Unreached}
use Rattle.marker.proofs.Ends.{chosen_same, end_same, ends_back}

-- MARKING AGAIN

marks_back : (x : Marks) → marks_of (marked Way.Direct x) (marked Way.Back x) ≡ x
marks_back x = grind arith

module _ (d e g : Draft) (once : Remarked d e) (twice : Remarked e g) where
  mark_same : (w : Way) (i : ℕ) → i < e.lines → marked w (get_or (lines_of g) i blank).marks ≡ marked w (get_or (lines_of e) i blank).marks
  mark_same w i lt =
      let here : i < d.lines = omega (arith, once.1) in
      let near-is = end_same (lines_of d) (lines_of e) once.3 (near w) i in
      same_from_decides _ _
      (Decides-like _
      (λ c. subst (λ h. Chosen w (lines_of d) h i) (sym near-is) (chosen_same (lines_of e) (lines_of d) (ends_back _ _ once.3) w _ i c))
      (λ c. chosen_same (lines_of d) (lines_of e) once.3 w _ i (subst (λ h. Chosen w (lines_of d) h i) near-is c))
      (twice.4 w i lt))
      (once.4 w i here)

  line_same : (i : ℕ) → i < e.lines → get_or g.records i blank ≡ get_or e.records i blank
  line_same i lt =
      let x = get_or (lines_of g) i blank in
      let y = get_or (lines_of e) i blank in
      let marks : x.marks ≡ y.marks = sym (marks_back x.marks) ∙ ap₂ marks_of (mark_same Way.Direct i lt) (mark_same Way.Back i lt) ∙ marks_back y.marks in
      let whole : x ≡ y = λ j. record { from = sym (twice.3.1 i).0 j; to = sym (twice.3.1 i).1 j; marks = marks j } in
      sym (get_or-take g.lines g.records i blank (omega (arith, twice.1))) ∙ whole ∙ get_or-take e.lines e.records i blank lt

  records_same : g.records ≡ e.records
  records_same =
      ext_get_or blank g.records e.records (g.tables.0 ∙ sym e.tables.0)
      (λ i _. ⊎_elim (line_same i) (λ past. g.spare i (omega (arith, twice.1)) ∙ sym (e.spare i past)) (cases_lt i e.lines))

  counters_same : g.counters ≡ e.counters
  counters_same =
      let lines_are : lines_of g ≡ lines_of e = ap₂ take twice.1 records_same in
      ext_get_or 0 g.counters e.counters (g.tables.1 ∙ sym e.tables.1)
      (λ h _.
      ⊎_elim
      (λ lt. twice.5 h (omega (arith, twice.0)) ∙ ap (count_by (meets Way.Back End.To h)) lines_are ∙ sym (once.5 h lt))
      (λ past. g.rest h (omega (arith, twice.0)) ∙ sym (e.rest h past))
      (cases_lt h e.houses))

  pub marked_twice : g ≡ e
  marked_twice = same_draft g e twice.0 twice.1 twice.2 records_same counters_same

-- A PLAN IS JOINED UP

walk_any : (p : Line → Bool) (xs : List Line) (a : ℕ) (is : List ℕ) (b : ℕ) → Walk p xs a is b → Walk any_line xs a is b
walk_any p xs a [] b e = e
walk_any p xs a (i ∷ is) b (lt, ok, from, rest) = (lt, refl, from, walk_any p xs (get_or xs i blank).to is b rest)

route_any : (w : Way) (p : Line → Bool) (xs : List Line) (h : ℕ) (is : List ℕ) → Route w p xs h is → Route w any_line xs h is
route_any Way.Direct p xs h is walk = walk_any p xs 0 is h walk
route_any Way.Back p xs h is walk = walk_any p xs h is 0 walk

tree_joined : (d : Draft) (w : Way) → Tree w d → JoinedUp w d
tree_joined d w tree h lt cut = cut (tree h lt).0 (route_any w _ (lines_of d) h (tree h lt).0 (tree h lt).1)

-- THE TWO LAWS

unreached_cut : (d : Draft) (v : Fault) → Unreached d v → SomeCutOff d
unreached_cut d v (inl (_, (lt, cut, _))) = (v.place, lt, inl cut)
unreached_cut d v (inr (_, _, (lt, cut, _))) = (v.place, lt, inr cut)

joined_not_cut : (d : Draft) → JoinedUp Way.Direct d → JoinedUp Way.Back d → SomeCutOff d → ⊥
joined_not_cut d out home (h, lt, inl cut) = out h lt cut
joined_not_cut d out home (h, lt, inr cut) = home h lt cut

pub mark_plan : (f : List ℕ) (d : Draft) (r : Result Plan Fault) → file_of d ≡ f → MarkDraft d r → MarkPlan f r
mark_plan f d (Ok p) same (out, home, rem) = (d, same, out, home, rem)
mark_plan f d (Err v) same unreached = inr (d, same, unreached)

pub refuses_cut_off : (f : List ℕ) (r : Result Plan Fault) → MarkPlan f r → RefusesCutOff f (is_err r)
refuses_cut_off f (Ok p) (d, same, out, home, rem) x x-same =
    let e : d ≡ x = one_draft d x (same ∙ sym x-same) in
    ((λ no-err. absurd (false≢true no-err)), (λ cut. absurd (joined_not_cut d out home (subst SomeCutOff (sym e) cut))))
refuses_cut_off f (Err v) (inl (low, refused)) x x-same =
    absurd (never_malformed x v low (subst (λ g. Refused g v) (sym x-same) refused))
refuses_cut_off f (Err v) (inr (d, same, unreached)) x x-same =
    ((λ _. subst SomeCutOff (one_draft d x (same ∙ sym x-same)) (unreached_cut d v unreached)), (λ _. refl))

pub marks_again : (f : List ℕ) (r : Result Plan Fault) → MarkPlan f r → MarksPlanAgain f r
marks_again f (Ok q) (x, same, out, home, rem) p d once f-is =
    let e : x ≡ p.draft = one_draft x p.draft (same ∙ f-is) in
    ap Ok (same_plan q p (marked_twice d p.draft q.draft once (subst (λ y. Remarked y q.draft) e rem)))
marks_again f (Err v) (inl (low, refused)) p d once f-is = absurd (never_refused p v (subst (λ g. Refused g v) f-is refused))
marks_again f (Err v) (inr (x, same, unreached)) p d once f-is =
    let e : x ≡ p.draft = one_draft x p.draft (same ∙ f-is) in
    let trees = two_trees p in
    absurd (joined_not_cut p.draft (tree_joined p.draft Way.Direct trees.0) (tree_joined p.draft Way.Back trees.1) (subst SomeCutOff e (unreached_cut x v unreached)))
