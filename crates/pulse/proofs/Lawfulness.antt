-- The law of runs from the invariant.
use Rattle.std.proofs.Common.{◌≡◌, ℕ, suc, ◌+◌, ◌-◌, ◌*◌, ◌<◌, ◌≤◌, Bool, true, false, cond, eqb, ltb, ◌⊎◌, List, [], ◌∷◌, length, is_some, Some, None, Ok, Err, Option, Result, sym, refl, ap, ◌∙◌, subst, inl, inr, ⊎_elim, arith}
use Rattle.std.proofs.lemmas.Bool.{and_from, and_parts, cases_eq, cases_lt, cond-false, cond-true, eq-eqb, eqb-true, lt-ltb, ltb-false, ne_eqb, or_parts, true≢false}
use Rattle.fault.specs.declared.faults.Fault.{Fault}
use Rattle.quantity.specs.declared.readings.Reading.{Reading}
use Rattle.quantity.specs.Senses.{Sense, Laws}
use Rattle.quantity.specs.Joins.{Taking, join_of}
use Rattle.carrier.specs.declared.messages.Kind.{Kind}
use Rattle.carrier.specs.declared.messages.Message.{Message}
use Rattle.pulse.specs.declared.calls.Answer.{Answer}
use Rattle.pulse.specs.declared.calls.Call.{Call}
use Rattle.pulse.specs.declared.calls.Delivery.{Delivery}
use Rattle.pulse.specs.declared.calls.Exchange.{Exchange}
use Rattle.pulse.specs.declared.calls.Report.{Report}
use Rattle.pulse.specs.Law.{Finished, LawOfRuns, Lawful, over}
use Rattle.pulse.specs.Rounds.{answer, answered, begun, standing, waiting_for}
use Rattle.pulse.specs.States.{State, just_made, on}
use Rattle.pulse.specs.Steps.{Begins, HandsOver, Loads, Reads, Run, Sets, Step, check, has_line, hand_over_refusal, load_refusal, report, waits}
use Rattle.pulse.specs.Traces.{Account, account, reading_in, times}
use Rattle.pulse.proofs.Ends.{answer_after, done_by_hands, done_when_still, find, hands_after, loads_after, taken_after}
use Rattle.pulse.proofs.Invariants.{Invariant, passes, reached_keeps}
use Rattle.pulse.proofs.Sound.{monoid, view}
use Rattle.pulse.proofs.Totals.{bit, right_unit, total_more, total_none, total_same}
use Rattle.pulse.proofs.Trees.{back, direct}

pass : (ok : Bool) (fault : Fault) (rest : Option Fault) → ok ≡ true → rest ≡ None → check ok fault rest ≡ None
pass ok fault rest e f = cond-true ok rest (Some fault) e ∙ f

-- THE PLAN STAYS

module _ {V W F : Type 0} (q : Sense V W F) where
  begin_plan : (s t : State V W) (r : Result (Unit {0}) Fault) → Begins q s r t → t.plan ≡ s.plan
  begin_plan s t (Ok u) (_, e) = ap (λ x. x.plan) e
  begin_plan s t (Err v) (_, e) = ap (λ x. x.plan) e

  load_plan : (k : ℕ) (s t : State V W) (i : ℕ) (r : Result Kind Fault) → Loads k s i r t → t.plan ≡ s.plan
  load_plan k s t i (Ok x) (_, _, e) = ap (λ y. y.plan) e
  load_plan k s t i (Err v) (_, e) = ap (λ x. x.plan) e

  hand_over_plan : (s t : State V W) (i : ℕ) (r : Result Delivery Fault) → HandsOver q s i r t → t.plan ≡ s.plan
  hand_over_plan s t i (Ok d) (_, (_, _, _, _, _, e)) = ap (λ x. x.plan) e
  hand_over_plan s t i (Err v) (_, e) = ap (λ x. x.plan) e

  set_plan : (s t : State V W) (h : ℕ) (x : Reading) (r : Result (Unit {0}) Fault) → Sets s h x r t → t.plan ≡ s.plan
  set_plan s t h x (Ok u) (_, e) = ap (λ y. y.plan) e
  set_plan s t h x (Err v) (_, e) = ap (λ y. y.plan) e

  read_plan : (s t : State V W) (r : Result (Report F) Fault) → Reads q s r t → t.plan ≡ s.plan
  read_plan s t (Ok x) (_, _, e) = ap (λ y. y.plan) e
  read_plan s t (Err v) (_, e) = ap (λ y. y.plan) e

  step_plan : (k : ℕ) (s t : State V W) (c : Call) (x : Answer F) → Step q k s c x t → t.plan ≡ s.plan
  step_plan k s t Call.Begin x (r, _, st) = begin_plan s t r st
  step_plan k s t (Call.Load i) x (r, _, st) = load_plan k s t i r st
  step_plan k s t (Call.HandOver i) x (r, _, st) = hand_over_plan s t i r st
  step_plan k s t (Call.Set h y) x (r, _, st) = set_plan s t h y r st
  step_plan k s t Call.Read x (r, _, st) = read_plan s t r st

  pub run_plan : (k : ℕ) (es : List (Exchange F)) (s t : State V W) → Run q k s es t → t.plan ≡ s.plan
  run_plan k [] s t e = sym (ap (λ x. x.plan) e)
  run_plan k (e ∷ es) s t (u, st, on) = run_plan k es u t on ∙ step_plan k s u e.call e.answer st

-- THE JOIN, HOUSE BY HOUSE

module _ {V W F : Type 0} (q : Sense V W F) (laws : Laws V W F q) where
  by_reading : ℕ → Option Reading → V
  by_reading h None = q.nothing
  by_reading h (Some r) = q.given h r

  none_read : (h : ℕ) (xs : List Taking) → times h xs ≡ 0 → reading_in h xs ≡ None
  none_read h [] e = refl
  none_read h (x ∷ xs) e =
      ⊎_elim
      (λ here. absurd (omega (arith, cond-true (eqb x.house h) (suc (times h xs)) (times h xs) (eq-eqb x.house h here))))
      (λ ne.
      let off = ne_eqb x.house h ne in
      cond-false (eqb x.house h) (Some x.reading) (reading_in h xs) off
      ∙ none_read h xs (sym (cond-false (eqb x.house h) (suc (times h xs)) (times h xs) off) ∙ e))
      (cases_eq x.house h)

  -- where no house is among the readings twice, their join is the join over the houses
  by_house : (n : ℕ) (xs : List Taking) → ((h : ℕ) → times h xs ≤ 1) → ((h : ℕ) → n ≤ h → times h xs ≡ 0) → join_of q xs ≡ over q n (λ h. by_reading h (reading_in h xs))
  unfolding by_reading
  by_house n [] once within = sym (total_none q.join q.nothing (monoid q laws) n _ (λ h l. refl))
  by_house n (x ∷ xs) once within =
      let g = x.house in
      let mon = monoid q laws in
      let v = q.given g x.reading in
      let on = eq-eqb g g refl in
      let one : times g (x ∷ xs) ≡ suc (times g xs) = cond-true (eqb g g) (suc (times g xs)) (times g xs) on in
      let lt : g < n = ⊎_elim (λ l. l) (λ l. absurd (omega (arith, one, within g l))) (cases_lt g n) in
      let less : (h : ℕ) → times h xs ≤ times h (x ∷ xs) = λ h. fewer (eqb g h) (times h xs) in
      let rest = by_house n xs (λ h. omega (arith, less h, once h)) (λ h l. omega (arith, less h, within h l)) in
      let first : by_reading g (reading_in g (x ∷ xs)) ≡ q.join v (by_reading g (reading_in g xs)) = ap (by_reading g) (cond-true (eqb g g) (Some x.reading) (reading_in g xs) on) ∙ sym (right_unit q.join q.nothing mon v) ∙ ap (λ o. q.join v (by_reading g o)) (sym (none_read g xs (omega (arith, one, once g)))) in
      ap (q.join v) rest
      ∙ sym (total_more q.join q.nothing mon n (λ h. by_reading h (reading_in h xs)) (λ h. by_reading h (reading_in h (x ∷ xs))) g v lt first (λ h l ne. ap (by_reading h) (cond-false (eqb g h) (Some x.reading) (reading_in h xs) (ne_eqb g h (λ e. ne (sym e))))))
    where
      fewer : (b : Bool) (k : ℕ) → k ≤ cond b (suc k) k
      fewer true k = omega arith
      fewer false k = omega arith

  -- THE LAW OF ONE STATE

  module _ (k : ℕ) (some-room : 1 ≤ k) (a : Account) (s : State V W) (inv : Invariant V W F q a s) where
    is_finished : Finished q s → (begun q s.round ≡ true) × ((standing q s.round 0).awaited ≡ 0)
    is_finished e =
        let e₁ = (passes s.fit _ _ e).1 in
        let e₂ = (passes (begun q s.round) _ _ e₁).1 in
        let parts = and_parts (begun q s.round) (eqb (standing q s.round 0).awaited 0) (passes (answered q s.round) _ _ e₂).0 in
        (parts.0, eqb-true (standing q s.round 0).awaited 0 parts.1)

    finishes : begun q s.round ≡ true → (standing q s.round 0).awaited ≡ 0 → Finished q s
    finishes b z =
        pass s.fit _ _ inv.fits
        (pass (begun q s.round) _ _ b
        (pass (answered q s.round) _ _ (and_from (begun q s.round) (eqb (standing q s.round 0).awaited 0) b (eq-eqb (standing q s.round 0).awaited 0 z)) refl))

    once_at_most : (h : ℕ) → times h a.taken ≤ 1
    once_at_most h =
        ⊎_elim
        (λ l. omega (arith, inv.sound.takes h l, few (standing q s.round h).called))
        (λ l. omega (arith, inv.sound.strangers h l))
        (cases_lt h s.plan.draft.houses)
      where
        few : (b : Bool) → bit b ≤ 1
        few true = omega arith
        few false = omega arith

    counted_answer : Finished q s → (answer q s.round ≡ join_of q a.taken) × (s.round.hand_overs ≡ 2 * s.plan.draft.houses - 2)
    counted_answer e =
        let f = is_finished e in (
          answer_after q laws s.plan (view q s.round s.lists) inv.sent inv.arrived a inv.sound f.0 f.1,
          inv.hand_overs_counted ∙ hands_after q laws s.plan (view q s.round s.lists) inv.sent inv.arrived a inv.sound f.0 f.1,
        )

    reported : Finished q s → report q s ≡ record { figures = q.figures (join_of q a.taken); hand_overs = 2 * s.plan.draft.houses - 2 }
    reported e = let c = counted_answer e in λ i. record { figures = q.figures (c.0 i); hand_overs = c.1 i }

    line_here : (i : ℕ) → i < s.plan.draft.lines → has_line s i ≡ true
    line_here i lt = and_from (ltb i s.plan.draft.lines) (ltb i (length s.lists)) (lt-ltb i s.plan.draft.lines lt) (lt-ltb i (length s.lists) (omega (arith, inv.lists_long)))

    moves : a.begun ≡ true → (Finished q s → ⊥) → (i : ℕ) × ((load_refusal k s i ≡ None) ⊎ (hand_over_refusal s i ≡ None))
    moves b open-round =
        ⊎_elim
        (λ f. (f.0, inr (pass s.fit _ _ inv.fits (pass (has_line s f.0) _ _ (line_here f.0 f.1) (pass (ltb 0 (length (on s f.0))) _ _ f.2 refl)))))
        (λ empty.
        ⊎_elim
        (λ f. (f.0, inl (pass s.fit _ _ inv.fits (pass (has_line s f.0) _ _ (line_here f.0 f.1) (pass (waits (waiting_for s.round f.0)) _ _ f.2 (pass (ltb (length (on s f.0)) k) _ _ (lt-ltb (length (on s f.0)) k (omega (arith, ltb-false 0 (length (on s f.0)) (empty f.0 f.1)))) refl))))))
        (λ none. absurd (open-round (finishes head (done_when_still q laws s.plan (view q s.round s.lists) inv.sent inv.arrived a inv.sound head inv.settled (λ i l. (no_elements (on s i) (ltb-false 0 (length (on s i)) (empty i l)), (or_parts (waiting_for s.round i).request (is_some (waiting_for s.round i).response) (none i l)).0, no_word (waiting_for s.round i).response (or_parts (waiting_for s.round i).request (is_some (waiting_for s.round i).response) (none i l)).1))))))
        (find s.plan.draft.lines (λ i. waits (waiting_for s.round i))))
        (find s.plan.draft.lines (λ i. ltb 0 (length (on s i))))
      where
        head : begun q s.round ≡ true
        head = sym inv.sound.begins ∙ b

        no_elements : (xs : List (Message W)) → length xs ≤ 0 → xs ≡ []
        no_elements [] e = refl
        no_elements (x ∷ xs) e = absurd (omega arith)

        no_word : (o : Option W) → is_some o ≡ false → o ≡ None
        no_word None e = refl
        no_word (Some w) e = absurd (true≢false e)

  -- TWO STATES

  module _ (a : Account) (s : State V W) (inv : Invariant V W F q a s) (b : Account) (t : State V W) (jnv : Invariant V W F q b t) (same-plan : t.plan ≡ s.plan) (fs : Finished q s) (ft : Finished q t) where
    same_join : ((h : ℕ) → h < s.plan.draft.houses → reading_in h a.taken ≡ reading_in h b.taken) → join_of q a.taken ≡ join_of q b.taken
    same_join same =
        by_house s.plan.draft.houses a.taken (once_at_most 1 (omega arith) a s inv) inv.sound.strangers
        ∙ total_same q.join q.nothing (monoid q laws) s.plan.draft.houses _ _ (λ h l. ap (by_reading h) (same h l))
        ∙ sym (by_house s.plan.draft.houses b.taken (once_at_most 1 (omega arith) b t jnv) (λ h l. jnv.sound.strangers h (subst (λ x. x.draft.houses ≤ h) (sym same-plan) l)))

    same_loads : (i : ℕ) → i < s.plan.draft.lines → a.loads i ≡ b.loads i
    same_loads i lt =
        let f = is_finished 1 (omega arith) a s inv fs in
        let g = is_finished 1 (omega arith) b t jnv ft in
        loads_after q laws s.plan (view q s.round s.lists) inv.sent inv.arrived a inv.sound f.0 f.1 i lt
        ∙ ap (λ x. bit (direct x i) + bit (back x i)) (sym same-plan)
        ∙ sym (loads_after q laws t.plan (view q t.round t.lists) jnv.sent jnv.arrived b jnv.sound g.0 g.1 i (subst (λ x. i < x.draft.lines) (sym same-plan) lt))

  lawful : (k : ℕ) → 1 ≤ k → (es : List (Exchange F)) (s : State V W) → Invariant V W F q (account es) s → Lawful V W F q k s.plan es s
  lawful k some-room es s inv =
      let a = account es in
      let v = view q s.round s.lists in
      record {
        conservation = inv.sound.conserves;
        once = once_at_most k some-room a s inv;
        progress = moves k some-room a s inv;
        completion = λ b. (
          (λ e. sym inv.hand_overs_counted ∙ (counted_answer k some-room a s inv e).1),
          (λ all. let head = sym inv.sound.begins ∙ b in finishes k some-room a s inv head (done_by_hands q laws s.plan v inv.sent inv.arrived a inv.sound head all)),
        );
        whole = λ e. let f = is_finished k some-room a s inv e in taken_after q laws s.plan v inv.sent inv.arrived a inv.sound f.0 f.1;
        answers = λ e. ((counted_answer k some-room a s inv e).0, reported k some-room a s inv e);
        agreement = λ fs t run e f same.
            let jnv = reached_keeps q laws k s.plan fs t run in
            let plan-is = run_plan q k fs (just_made q s.plan) t run in
            let joins = same_join a s inv (account fs) t jnv plan-is e f same in (
              (counted_answer k some-room a s inv e).0 ∙ joins ∙ sym (counted_answer k some-room (account fs) t jnv f).0,
              reported k some-room a s inv e
                  ∙ (λ i. record { figures = q.figures (joins i); hand_overs = 2 * (sym plan-is i).draft.houses - 2 })
                  ∙ sym (reported k some-room (account fs) t jnv f),
              same_loads a s inv (account fs) t jnv plan-is e f,
            );
      }

pub runs_lawful : (V W F : Type 0) → LawOfRuns V W F
runs_lawful V W F q laws k some-room p es s run =
    subst (λ x. Lawful V W F q k x es s) (run_plan q k es (just_made q p) s run) (lawful q laws k some-room es s (reached_keeps q laws k p es s run))
