-- What the invariant says at the ends of a round: before the first, once the head has its answer, and where nothing waits or
-- travels.
use Rattle.std.proofs.Common.{◌≡◌, ℕ, zero, suc, ◌+◌, ◌-◌, ◌*◌, ◌<◌, ◌≤◌, Bool, true, false, cond, ◌&&◌, eqb, ◌⊎◌, [], is_some, None, sym, refl, ap, ◌∙◌, subst, inl, inr, ⊎_elim, arith}
use Rattle.std.proofs.lemmas.Bool.{both_ways, cases_Bool, cases_eq, cases_lt, cond-true, cond-false, eq-eqb, eqb-true, false≢true, ne_eqb}
use Rattle.lines.specs.declared.lines.Way.{Way}
use Rattle.plan.specs.declared.plans.Plan.{Plan}
use Rattle.plan.specs.Rules.{due}
use Rattle.quantity.specs.Senses.{Sense, Laws}
use Rattle.quantity.specs.Joins.{join_of}
use Rattle.pulse.specs.Law.{over, waiting_value}
use Rattle.pulse.specs.Traces.{Account, times}
use Rattle.pulse.proofs.Arrivals.{arrived_few, head_called}
use Rattle.pulse.proofs.Bits.{bit_left, few_bit, no_bit, none_there, off}
use Rattle.pulse.proofs.Sound.{Settled, Sound, View, asked, carried, empty, monoid, replied, requests_in, responses_in}
use Rattle.pulse.proofs.Totals.{adding, at_most, bit, pick, pick_le, regroup, right_unit, sum, tight, total_both, total_none, total_only, total_same}
use Rattle.pulse.proofs.Trees.{along, back, count_of, counter_sum, direct, due_house, due_total, end, from_below, houses_of, serving_sum, some_house, start, to_below, tree_sum}

-- nothing waits for the line, and nothing is on it
abbrev pub Quiet : {V W : Type 0} → View V W → ℕ → Type 0
Quiet v i = (v.on_line i ≡ []) × (v.request i ≡ false) × (v.response i ≡ None)

-- whether a test holds of some number below n
pub find : (n : ℕ) (f : ℕ → Bool) → ((i : ℕ) × (i < n) × (f i ≡ true)) ⊎ ((i : ℕ) → i < n → f i ≡ false)
find zero f = inr (λ i h. absurd (omega arith))
find (suc n) f =
    ⊎_elim
    (λ e. inl (n, omega arith, e))
    (λ e.
    ⊎_elim
    (λ r. inl (r.0, omega (arith, r.1), r.2))
    (λ none. inr (λ i h. ⊎_elim (λ (z : i ≡ n). ap f z ∙ e) (λ ne. none i (omega arith)) (cases_eq i n)))
    (find n f))
    (cases_Bool (f n))

module _ {V W F : Type 0} (q : Sense V W F) (laws : Laws V W F q) (p : Plan) (v : View V W) (sent : ℕ → Bool) (arrived : ℕ → ℕ) (a : Account) (ok : Sound V W F q p.draft v sent arrived a) where
  quiet : (i : ℕ) → requests_in (v.on_line i) + bit (v.request i) ≡ 0 → responses_in (v.on_line i) + bit (is_some (v.response i)) ≡ 0 → Quiet v i
  quiet i r s =
      (empty q laws (v.on_line i) (omega arith) (omega arith), no_bit (v.request i) (omega arith), none_there (v.response i) (omega arith))

  -- BEFORE THE FIRST ROUND

  module _ (no-round : v.called 0 ≡ false) where
    uncalled : (h : ℕ) → h < houses_of p → v.called h ≡ false
    uncalled h lt = ⊎_elim (λ e. absurd (both_ways (v.called 0) no-round (head_called q laws p v sent arrived a ok h lt e))) (λ e. e) (cases_Bool (v.called h))

    pub quiet_before : (i : ℕ) → i < count_of p → Quiet v i
    quiet_before i lt =
        quiet i
        (omega (arith, ok.requests i lt, off (direct p i) (v.called (start p i)) (uncalled (start p i) (from_below p i lt))))
        (omega (arith, ok.responses i lt, off (back p i) (sent (start p i)) unsent))
      where
        unsent : sent (start p i) ≡ false
        unsent = ⊎_elim (λ e. absurd (both_ways (v.called (start p i)) (uncalled (start p i) (from_below p i lt)) (ok.sends (start p i) (from_below p i lt) e).1)) (λ e. e) (cases_Bool (sent (start p i)))

  -- ONCE THE HEAD HAS ITS ANSWER

  module _ (is-called : v.called 0 ≡ true) where
    -- a house that awaits none has had a response from each back line that enters it
    all_arrived : (i : ℕ) → i < count_of p → v.awaited (end p i) ≡ 0 → arrived i ≡ bit (back p i)
    all_arrived i lt none =
        let h = end p i in
        let e = eq-eqb h h refl in
        let same = tight (count_of p) (λ j. pick (eqb (end p j) h) (arrived j)) (λ j. pick (eqb (end p j) h) (bit (back p j))) (λ j l. pick_le (eqb (end p j) h) (arrived j) (bit (back p j)) (arrived_few q laws p v sent arrived a ok j l)) (omega (arith, ok.awaits is-called h (to_below p i lt), counter_sum p h (to_below p i lt))) i lt in
        sym (cond-true (eqb h h) (arrived i) 0 e) ∙ same ∙ cond-true (eqb h h) (bit (back p i)) 0 e

    module _ (is-done : v.awaited 0 ≡ 0) where
      done_at : (h : ℕ) → h < houses_of p → cond (eqb h 0) true (sent h) ≡ true → (v.called h ≡ true) × (v.awaited h ≡ 0)
      done_at h lt e =
          ⊎_elim
          (λ (z : h ≡ 0). (ap v.called z ∙ is-called, ap v.awaited z ∙ is-done))
          (λ ne. let s = ok.sends h lt (sym (cond-false (eqb h 0) true (sent h) (ne_eqb h 0 ne)) ∙ e) in (s.1, s.2))
          (cases_eq h 0)

      -- every house but the head has sent its response
      all_sent : (h : ℕ) → h < houses_of p → cond (eqb h 0) true (sent h) ≡ true
      all_sent h lt =
          along p Way.Back (λ g. cond (eqb g 0) true (sent g)) refl
          (λ i l t before.
          let came = all_arrived i l (done_at (end p i) (to_below p i l) before).1 in
          either (eqb (start p i) 0) (sent (start p i)) (has_sent (back p i) (sent (start p i)) _ (arrived i) t came (ok.responses i l)))
          h lt
        where
          has_sent : (b s : Bool) (k x : ℕ) → b ≡ true → x ≡ bit b → k + x ≡ bit (b && s) → s ≡ true
          has_sent false s k x t e f = absurd (false≢true t)
          has_sent true true k x t e f = refl
          has_sent true false k x t e f = absurd (omega arith)

          either : (x y : Bool) → y ≡ true → cond x true y ≡ true
          either true y e = refl
          either false y e = e

      pub all_done : (h : ℕ) → h < houses_of p → (v.called h ≡ true) × (v.awaited h ≡ 0)
      all_done h lt = done_at h lt (all_sent h lt)

      came_back : (i : ℕ) → i < count_of p → arrived i ≡ bit (back p i)
      came_back i lt = all_arrived i lt (all_done (end p i) (to_below p i lt)).1

      both_called : (d x y : Bool) → x ≡ true → y ≡ true → (bit (d && x) ≡ bit d) × (bit (d && y) ≡ bit d)
      both_called d true true e f = (whole d, whole d)
        where
          whole : (d : Bool) → bit (d && true) ≡ bit d
          whole true = refl
          whole false = refl
      both_called d true false e f = absurd (false≢true f)
      both_called d false y e f = absurd (false≢true e)

      line_facts : (i : ℕ) → i < count_of p → (requests_in (v.on_line i) + bit (v.request i) ≡ 0) × (responses_in (v.on_line i) + bit (is_some (v.response i)) ≡ 0) × (asked p.draft v i ≡ bit (direct p i)) × (replied p.draft sent i ≡ bit (back p i))
      line_facts i lt =
          let c = both_called (direct p i) (v.called (end p i)) (v.called (start p i)) (all_done (end p i) (to_below p i lt)).0 (all_done (start p i) (from_below p i lt)).0 in (
            omega (arith, c.0, c.1, ok.requests i lt),
            omega (arith, ok.responses i lt, came_back i lt, bit_left (back p i) (sent (start p i))),
            c.1,
            omega (arith, ok.responses i lt, came_back i lt, bit_left (back p i) (sent (start p i))),
          )

      pub quiet_after : (i : ℕ) → i < count_of p → Quiet v i
      quiet_after i lt = quiet i (line_facts i lt).0 (line_facts i lt).1

      -- each line was loaded once for each tree that it belongs to
      pub loads_after : (i : ℕ) → i < count_of p → a.loads i ≡ bit (direct p i) + bit (back p i)
      loads_after i lt =
          let f = line_facts i lt in
          omega (arith, f.0, f.1, f.2, f.3, ok.loads i lt)

      pub taken_after : (h : ℕ) → h < houses_of p → times h a.taken ≡ 1
      taken_after h lt = ok.takes h lt ∙ ap bit (all_done h lt).0

      pub hands_after : a.hand_overs ≡ 2 * houses_of p - 2
      hands_after =
          let c : sum (houses_of p) (λ h. bit (v.called h)) ≡ houses_of p = ones (houses_of p) (λ h. bit (v.called h)) (λ h l. ap bit (all_done h l).0) in
          let r : sum (count_of p) arrived ≡ sum (count_of p) (λ i. bit (back p i)) = total_same ◌+◌ 0 adding (count_of p) arrived (λ i. bit (back p i)) came_back in
          omega (arith, c, r, tree_sum p Way.Back, ok.hands, ap bit is-called, some_house p)
        where
          ones : (n : ℕ) (f : ℕ → ℕ) → ((i : ℕ) → i < n → f i ≡ 1) → sum n f ≡ n
          ones zero f all = refl
          ones (suc n) f all = omega (arith, all n (omega arith), ones n f (λ i h. all i (omega arith)))

      -- the head holds the join of the readings taken
      pub answer_after : v.holding 0 ≡ join_of q a.taken
      answer_after =
          let mon = monoid q laws in
          let H = over q (houses_of p) v.holding in
          let W₀ = over q (count_of p) (λ i. waiting_value q (v.response i)) in
          let C = over q (count_of p) (λ i. carried q (v.on_line i)) in
          let c : C ≡ q.nothing = total_none q.join q.nothing mon (count_of p) _ (λ i l. ap (carried q) (quiet_after i l).0) in
          let w : W₀ ≡ q.nothing = total_none q.join q.nothing mon (count_of p) _ (λ i l. ap (waiting_value q) (quiet_after i l).2) in
          let h : H ≡ v.holding 0 = total_only q.join q.nothing mon (houses_of p) v.holding 0 (some_house p) (λ j l ne. (ok.sends j l (sym (cond-false (eqb j 0) true (sent j) (ne_eqb j 0 ne)) ∙ all_sent j l)).3) in
          sym h
          ∙ sym (right_unit q.join q.nothing mon H)
          ∙ ap (q.join H) (sym (laws.unit q.nothing))
          ∙ ap (λ x. q.join H (q.join x q.nothing)) (sym w)
          ∙ ap (λ x. q.join H (q.join W₀ x)) (sym c)
          ∙ ok.conserves

    -- 2n - 2 HAND-OVERS

    pub done_by_hands : a.hand_overs ≡ 2 * houses_of p - 2 → v.awaited 0 ≡ 0
    done_by_hands all =
        let few : sum (houses_of p) (λ h. bit (v.called h)) ≤ houses_of p = at_most (houses_of p) (λ h. bit (v.called h)) (λ h. few_bit (v.called h)) in
        let same = tight (count_of p) arrived (λ i. bit (back p i)) (λ i l. arrived_few q laws p v sent arrived a ok i l) (omega (arith, few, ok.hands, ap bit is-called, tree_sum p Way.Back, some_house p)) in
        let e : sum (count_of p) (λ j. pick (eqb (end p j) 0) (arrived j)) ≡ sum (count_of p) (λ j. pick (eqb (end p j) 0) (bit (back p j))) = total_same ◌+◌ 0 adding (count_of p) _ _ (λ j l. ap (pick (eqb (end p j) 0)) (same j l)) in
        omega (arith, e, ok.awaits is-called 0 (some_house p), counter_sum p 0 (some_house p))

    -- WHERE NOTHING WAITS OR TRAVELS

    module _ (settled : Settled p.draft v sent (λ _. ⊥)) (still : (i : ℕ) → i < count_of p → Quiet v i) where
      all_called : (h : ℕ) → h < houses_of p → v.called h ≡ true
      all_called h lt =
          along p Way.Direct v.called is-called
          (λ i l t before.
          passed (direct p i) (v.called (end p i)) (v.called (start p i)) _ _ t before (ap requests_in (still i l).0) (ap bit (still i l).1) (ok.requests i l))
          h lt
        where
          passed : (d end start : Bool) (k r : ℕ) → d ≡ true → start ≡ true → k ≡ 0 → r ≡ 0 → bit (d && end) + (k + r) ≡ bit (d && start) → end ≡ true
          passed false end start k r t s z y e = absurd (false≢true t)
          passed true true start k r t s z y e = refl
          passed true false true k r t s z y e = absurd (omega arith)
          passed true false false k r t s z y e = absurd (false≢true s)

      came : (i : ℕ) → i < count_of p → arrived i ≡ replied p.draft sent i
      came i lt =
          omega (arith, ok.responses i lt, ap responses_in (still i lt).0, ap (λ o. bit (is_some o)) (still i lt).2)

      -- the responses that arrived are as many as the houses that sent one
      sent_sum : sum (count_of p) arrived ≡ sum (houses_of p) (λ h. bit (sent h))
      sent_sum =
          sym (regroup (houses_of p) (count_of p) (start p) arrived (from_below p))
          ∙ total_same ◌+◌ 0 adding (houses_of p) _ _ (λ h lt. from_house h lt)
        where
          pick_sent : (e b s t : Bool) → (e ≡ true → s ≡ t) → pick e (bit (b && s)) ≡ pick t (pick e (bit b))
          pick_sent true b s true same = ap (λ x. bit (b && x)) (same refl) ∙ whole b
            where
              whole : (b : Bool) → bit (b && true) ≡ bit b
              whole true = refl
              whole false = refl
          pick_sent true b s false same = ap (λ x. bit (b && x)) (same refl) ∙ none b
            where
              none : (b : Bool) → bit (b && false) ≡ 0
              none true = refl
              none false = refl
          pick_sent false b s true same = refl
          pick_sent false b s false same = refl

          pick_out : (t : Bool) (n : ℕ) (f : ℕ → ℕ) → sum n (λ i. pick t (f i)) ≡ pick t (sum n f)
          pick_out true n f = refl
          pick_out false n f = total_none ◌+◌ 0 adding n (λ _. 0) (λ i h. refl)

          one_each : (h : ℕ) → h < houses_of p → (t : Bool) → sent h ≡ t → pick t (due h) ≡ bit t
          one_each h lt true s = due_house h (ok.sends h lt s).0
          one_each h lt false s = refl

          from_house : (h : ℕ) → h < houses_of p → sum (count_of p) (λ i. pick (eqb (start p i) h) (arrived i)) ≡ bit (sent h)
          from_house h lt =
              total_same ◌+◌ 0 adding (count_of p) _ _
              (λ i l. ap (pick (eqb (start p i) h)) (came i l) ∙ pick_sent (eqb (start p i) h) (back p i) (sent (start p i)) (sent h) (λ e. ap sent (eqb-true (start p i) h e)))
              ∙ pick_out (sent h) (count_of p) (λ i. pick (eqb (start p i) h) (bit (back p i)))
              ∙ ap (pick (sent h)) (serving_sum p Way.Back h lt)
              ∙ one_each h lt (sent h) refl

      pub done_when_still : v.awaited 0 ≡ 0
      done_when_still =
          let n = houses_of p in
          let m = count_of p in
          let awaits : sum n (λ h. v.awaited h + sum m (λ i. pick (eqb (end p i) h) (arrived i))) ≡ sum n (λ h. sum m (λ i. pick (eqb (end p i) h) (bit (back p i)))) = total_same ◌+◌ 0 adding n _ _ (λ h l. ok.awaits is-called h l ∙ counter_sum p h l) in
          let parts : sum n (λ h. v.awaited h + sum m (λ i. pick (eqb (end p i) h) (arrived i))) ≡ sum n v.awaited + sum n (λ h. sum m (λ i. pick (eqb (end p i) h) (arrived i))) = total_both ◌+◌ 0 adding n v.awaited (λ h. sum m (λ i. pick (eqb (end p i) h) (arrived i))) in
          let into : sum n (λ h. sum m (λ i. pick (eqb (end p i) h) (arrived i))) ≡ sum m arrived = regroup n m (end p) arrived (to_below p) in
          let lines : sum n (λ h. sum m (λ i. pick (eqb (end p i) h) (bit (back p i)))) ≡ sum m (λ i. bit (back p i)) = regroup n m (end p) (λ i. bit (back p i)) (to_below p) in
          let both : sum n (λ h. v.awaited h + bit (sent h)) ≡ sum n v.awaited + sum n (λ h. bit (sent h)) = total_both ◌+◌ 0 adding n v.awaited (λ h. bit (sent h)) in
          let same = tight n due (λ h. v.awaited h + bit (sent h)) enough (omega (arith, awaits, parts, into, lines, both, sent_sum, tree_sum p Way.Back, due_total p)) 0 (some_house p) in
          omega (arith, same)
        where
          enough : (h : ℕ) → h < houses_of p → due h ≤ v.awaited h + bit (sent h)
          enough h lt =
              ⊎_elim
              (λ (e : h ≡ 0). subst (λ k. due k ≤ v.awaited k + bit (sent k)) (sym e) (omega arith))
              (λ ne.
              ⊎_elim
              (λ some. omega (arith, due_house h ne, some))
              (λ none. omega (arith, due_house h ne, ap bit (settled h lt (λ z. z) ne (all_called h lt) (omega arith))))
              (cases_lt 0 (v.awaited h)))
              (cases_eq h 0)
