-- A message that is handed over, and a house that sends its response, keep the invariant.
use Rattle.std.proofs.Common.{◌≡◌, ℕ, suc, ◌+◌, ◌-◌, ◌<◌, ◌≤◌, Bool, true, false, cond, ◌&&◌, eqb, ◌≢◌, List, ◌∷◌, ◌++◌, get_or, is_some, Some, None, unwrap_or, sym, refl, ap, ◌∙◌, subst, ⊎_elim, add-zero, arith}
use Rattle.plan.proofs.Counts.{untrue}
use Rattle.std.proofs.lemmas.Bool.{and_from, and_parts, both_ways, cases_eq, cond-true, cond-false, eq-eqb, eqb-true, false≢true, ne_eqb, true≢false}
use Rattle.lines.specs.declared.lines.Way.{Way}
use Rattle.plan.specs.declared.plans.Plan.{Plan}
use Rattle.quantity.specs.declared.readings.Reading.{Reading}
use Rattle.quantity.specs.Senses.{Sense, Laws}
use Rattle.quantity.specs.Joins.{Taking, join_of}
use Rattle.carrier.specs.declared.messages.Message.{Message}
use Rattle.pulse.specs.Law.{over, waiting_value}
use Rattle.pulse.specs.Rounds.{value_of}
use Rattle.pulse.specs.Traces.{Account, at, times}
use Rattle.pulse.proofs.Bits.{at_alike, at_other, at_same, bit_left, loads_called, loads_sent, none_there, one_request, one_response, requests_here, requests_other, responses_sent}
use Rattle.pulse.proofs.Sound.{Sound, View, asked, carried, carried_among, monoid, replied, requests_among, requests_in, responses_among, responses_in}
use Rattle.pulse.proofs.Totals.{adding, bit, left_comm, pick, pick_le, right_unit, sum, sum_less, total_more, total_same}
use Rattle.pulse.proofs.Trees.{along, apart, back, count_of, counter_sum, direct, end, from_below, head_unserved, houses_of, in_tree, line, only_server, server, start, to_below}

-- the view once house h was called with the value x, with these lists on the lines
abbrev pub called_view : {V W F : Type 0} → Sense V W F → Plan → View V W → ℕ → V → (ℕ → List (Message W)) → View V W
called_view q p v h x lists = record {
  called = at v.called h true;
  awaited = v.awaited;
  holding = at v.holding h (q.join (v.holding h) x);
  request = λ j. cond (in_tree Way.Direct p.draft j && eqb (line p.draft j).from h) true (v.request j);
  response = v.response;
  on_line = lists;
}

-- the view once house h has received the value x, with these lists on the lines
abbrev pub received_view : {V W F : Type 0} → Sense V W F → View V W → ℕ → V → (ℕ → List (Message W)) → View V W
received_view q v h x lists = record {
  called = v.called;
  awaited = at v.awaited h (v.awaited h - 1);
  holding = at v.holding h (q.join (v.holding h) x);
  request = v.request;
  response = v.response;
  on_line = lists;
}

-- the view once house h has moved its holding into a response
abbrev pub sent_view : {V W F : Type 0} → Sense V W F → Plan → View V W → ℕ → View V W
sent_view q p v h = record {
  called = v.called;
  awaited = v.awaited;
  holding = at v.holding h q.nothing;
  request = v.request;
  response = λ j. cond (in_tree Way.Back p.draft j && eqb (line p.draft j).from h) (Some (q.word (v.holding h))) (v.response j);
  on_line = v.on_line;
}

-- the account with one more hand-over, by which these readings were taken
abbrev pub handed_account : Account → List Taking → Account
handed_account a taken = record {
  given = a.given;
  begun = a.begun;
  taken = taken;
  loads = a.loads;
  hand_overs = a.hand_overs + 1;
}

module _ {V W F : Type 0} (q : Sense V W F) (laws : Laws V W F q) (p : Plan) (v : View V W) (sent : ℕ → Bool) (arrived : ℕ → ℕ) (a : Account) (ok : Sound V W F q p.draft v sent arrived a) where
  -- where any house was called, the head was
  pub head_called : (h : ℕ) → h < p.draft.houses → v.called h ≡ true → v.called 0 ≡ true
  head_called h lt is =
      sym (cond-true (v.called h) (v.called 0) true is)
      ∙ along p Way.Direct (λ g. cond (v.called g) (v.called 0) true) (self (v.called 0))
      (λ i l t. passed (in_tree Way.Direct p.draft i) (v.called (line p.draft i).to) (v.called (line p.draft i).from) (v.called 0) _ t (ok.requests i l))
      h lt
    where
      self : (b : Bool) → cond b b true ≡ true
      self true = refl
      self false = refl

      passed : (d end start head : Bool) (k : ℕ) → d ≡ true → bit (d && end) + k ≡ bit (d && start) → cond start head true ≡ true → cond end head true ≡ true
      passed false end start head k t e h = absurd (false≢true t)
      passed true false start head k t e h = refl
      passed true true true head k t e h = h
      passed true true false head k t e h = absurd (omega arith)

  pub arrived_few : (i : ℕ) → i < p.draft.lines → arrived i ≤ bit (in_tree Way.Back p.draft i)
  arrived_few i lt = omega (arith, ok.responses i lt, bit_left (in_tree Way.Back p.draft i) (sent (line p.draft i).from))

  module _ (i : ℕ) (lt : i < count_of p) (before after : List (Message W)) (on : v.on_line i ≡ before ++ (Message.Request ∷ after)) where
    -- what a request on a line tells
    pub request_tells : (direct p i ≡ true) × (v.called (end p i) ≡ false) × (v.called (start p i) ≡ true) × (requests_in (before ++ after) ≡ 0) × (bit (v.request i) ≡ 0)
    request_tells =
        one_request (direct p i) (v.called (end p i)) (v.called (start p i)) (requests_in (before ++ after)) (bit (v.request i))
        (omega (arith, ok.requests i lt, ap requests_in on, requests_among q laws before Message.Request after))

    module _ (h : ℕ) (is : end p i ≡ h) (r : Reading) where
      pub new_below : h < houses_of p
      new_below = omega (arith, to_below p i lt)

      uncalled : v.called h ≡ false
      uncalled = ap v.called (sym is) ∙ request_tells.1

      pub not_head : h ≢ 0
      not_head e = head_unserved p Way.Direct i lt request_tells.0 (is ∙ e)

      called_other : (g : ℕ) → g ≢ h → at v.called h true g ≡ v.called g
      called_other g ne = at_other v.called h true g ne

      same_head : at v.called h true 0 ≡ v.called 0
      same_head = called_other 0 (λ e. not_head (sym e))

      pub not_sent : (g : ℕ) → g < houses_of p → sent g ≡ true → g ≢ h
      not_sent g l s e = both_ways (v.called h) uncalled (subst (λ k. v.called k ≡ true) e (ok.sends g l s).1)

      new_start : (j : ℕ) → eqb (start p j) h ≡ true → v.called (start p j) ≡ false
      new_start j e = ap v.called (eqb-true (start p j) h e) ∙ uncalled

      requests_on : (j : ℕ) → j < count_of p → bit (direct p j && at v.called h true (end p j)) + (requests_in (at v.on_line i (before ++ after) j) + bit (cond (direct p j && eqb (start p j) h) true (v.request j))) ≡ bit (direct p j && at v.called h true (start p j))
      requests_on j l =
          ⊎_elim
          (λ (e : j ≡ i).
          subst
          (λ k. bit (direct p k && at v.called h true (end p k)) + (requests_in (at v.on_line i (before ++ after) k) + bit (cond (direct p k && eqb (start p k) h) true (v.request k))) ≡ bit (direct p k && at v.called h true (start p k)))
          (sym e)
          (requests_here (direct p i) (v.called (end p i)) (v.called (start p i)) (v.request i) (eqb (end p i) h) (eqb (start p i) h) (requests_in (at v.on_line i (before ++ after) i))
          request_tells.0 request_tells.2 (ap requests_in (at_same v.on_line i (before ++ after)) ∙ request_tells.3) request_tells.4
          (eq-eqb (end p i) h is) (ne_eqb (start p i) h (λ z. apart p i lt (is ∙ sym z)))))
          (λ ne.
          requests_other (direct p j) (v.called (end p j)) (v.called (start p j)) (v.request j) (eqb (end p j) h) (eqb (start p j) h) (requests_in (at v.on_line i (before ++ after) j))
          (ap (λ xs. bit (direct p j && v.called (end p j)) + (requests_in xs + bit (v.request j))) (at_other v.on_line i (before ++ after) j ne) ∙ ok.requests j l)
          (λ dj. ne_eqb (end p j) h (λ z. ne (only_server p Way.Direct j i l lt dj request_tells.0 (z ∙ sym is))))
          (new_start j))
          (cases_eq j i)

      responses_on : (j : ℕ) → responses_in (at v.on_line i (before ++ after) j) ≡ responses_in (v.on_line j)
      responses_on j =
          at_alike responses_in v.on_line i (before ++ after)
          (omega (arith, ap responses_in on, responses_among q laws before Message.Request after)) j

      carried_on : (j : ℕ) → carried q (at v.on_line i (before ++ after) j) ≡ carried q (v.on_line j)
      carried_on j =
          at_alike (carried q) v.on_line i (before ++ after)
          (sym (ap (carried q) on ∙ carried_among q laws before Message.Request after ∙ laws.unit (carried q (before ++ after)))) j

      taken_here : times h (record { house = h; reading = r } ∷ a.taken) ≡ bit (at v.called h true h)
      taken_here =
          cond-true (eqb h h) (suc (times h a.taken)) (times h a.taken) (eq-eqb h h refl)
          ∙ ap suc (ok.takes h new_below ∙ ap bit uncalled)
          ∙ ap bit (sym (at_same v.called h true))

      taken_other : (g : ℕ) → g ≢ h → times g (record { house = h; reading = r } ∷ a.taken) ≡ times g a.taken
      taken_other g ne = cond-false (eqb h g) (suc (times g a.taken)) (times g a.taken) (ne_eqb h g (λ e. ne (sym e)))

      hands_more : (a.hand_overs + 1) + bit (at v.called h true 0) ≡ sum (houses_of p) (λ g. bit (at v.called h true g)) + sum (count_of p) arrived
      hands_more =
          let more : sum (houses_of p) (λ g. bit (at v.called h true g)) ≡ 1 + sum (houses_of p) (λ g. bit (v.called g)) = total_more ◌+◌ 0 adding (houses_of p) (λ g. bit (v.called g)) (λ g. bit (at v.called h true g)) h 1 new_below (ap bit (at_same v.called h true) ∙ sym (ap (λ b. 1 + bit b) uncalled)) (λ j l ne. ap bit (called_other j ne)) in
          omega (arith, more, ok.hands, ap bit same_head)

      conserved : q.join (over q (houses_of p) (at v.holding h (q.join (v.holding h) (q.given h r)))) (q.join (over q (count_of p) (λ j. waiting_value q (v.response j))) (over q (count_of p) (λ j. carried q (at v.on_line i (before ++ after) j)))) ≡ join_of q (record { house = h; reading = r } ∷ a.taken)
      conserved =
          let x = q.given h r in
          let mon = monoid q laws in
          let W = over q (count_of p) (λ j. waiting_value q (v.response j)) in
          let C = over q (count_of p) (λ j. carried q (at v.on_line i (before ++ after) j)) in
          ap (λ y. q.join y (q.join W C)) (total_more q.join q.nothing mon (houses_of p) v.holding (at v.holding h (q.join (v.holding h) x)) h x new_below (at_same v.holding h (q.join (v.holding h) x) ∙ laws.commutative (v.holding h) x) (λ j l ne. at_other v.holding h (q.join (v.holding h) x) j ne))
          ∙ laws.associative x (over q (houses_of p) v.holding) (q.join W C)
          ∙ ap (q.join x) (ap (λ c. q.join (over q (houses_of p) v.holding) (q.join W c)) (total_same q.join q.nothing mon (count_of p) _ _ (λ j l. carried_on j)) ∙ ok.conserves)

      pub request_arrives : Sound V W F q p.draft (called_view q p v h (q.given h r) (at v.on_line i (before ++ after))) sent arrived (handed_account a (record { house = h; reading = r } ∷ a.taken))
      request_arrives = record {
        requests = requests_on;
        responses = λ j l. ap (λ k. (k + bit (is_some (v.response j))) + arrived j) (responses_on j) ∙ ok.responses j l;
        awaits = λ b. ok.awaits (sym same_head ∙ b);
        sends = λ g l s. let old = ok.sends g l s in (old.0, called_other g (not_sent g l s) ∙ old.1, old.2, at_other v.holding h (q.join (v.holding h) (q.given h r)) g (not_sent g l s) ∙ old.3);
        begins = ok.begins ∙ sym same_head;
        hands = hands_more;
        loads = λ j l. loads_called (direct p j) (v.called (start p j)) (v.request j) (eqb (start p j) h) (a.loads j) (requests_in (v.on_line j)) (bit (direct p j && v.called (end p j))) (bit (is_some (v.response j))) (replied p.draft sent j) (ok.requests j l) (new_start j) (ok.loads j l);
        takes = λ g l. ⊎_elim (λ (e : g ≡ h). subst (λ k. times k (record { house = h; reading = r } ∷ a.taken) ≡ bit (at v.called h true k)) (sym e) taken_here) (λ ne. taken_other g ne ∙ ok.takes g l ∙ ap bit (sym (called_other g ne))) (cases_eq g h);
        strangers = λ g l. taken_other g (λ e. omega (arith, new_below)) ∙ ok.strangers g l;
        conserves = conserved;
      }

  module _ (i : ℕ) (lt : i < count_of p) (w : W) (before after : List (Message W)) (on : v.on_line i ≡ before ++ (Message.Response w ∷ after)) where
    -- what a response on a line tells
    pub response_tells : (back p i ≡ true) × (sent (start p i) ≡ true) × (responses_in (before ++ after) ≡ 0) × (bit (is_some (v.response i)) ≡ 0) × (arrived i ≡ 0)
    response_tells =
        one_response (back p i) (sent (start p i)) (responses_in (before ++ after)) (bit (is_some (v.response i))) (arrived i)
        (omega (arith, ok.responses i lt, ap responses_in on, responses_among q laws before (Message.Response w) after))

    begun_then : v.called 0 ≡ true
    begun_then = head_called (start p i) (from_below p i lt) (ok.sends (start p i) (from_below p i lt) response_tells.1).1

    module _ (h : ℕ) (is : end p i ≡ h) where
      pub end_below : h < houses_of p
      end_below = omega (arith, to_below p i lt)

      -- it is awaited
      pub awaited_then : 1 ≤ v.awaited h
      awaited_then =
          let less : sum (count_of p) (λ j. pick (eqb (end p j) h) (arrived j)) < sum (count_of p) (λ j. pick (eqb (end p j) h) (bit (back p j))) = sum_less (count_of p) (λ j. pick (eqb (end p j) h) (arrived j)) (λ j. pick (eqb (end p j) h) (bit (back p j))) i lt (λ j l. pick_le (eqb (end p j) h) (arrived j) (bit (back p j)) (arrived_few j l)) here in
          omega (arith, less, ok.awaits begun_then h end_below, counter_sum p h end_below)
        where
          here : pick (eqb (end p i) h) (arrived i) < pick (eqb (end p i) h) (bit (back p i))
          here =
              let e = eq-eqb (end p i) h is in
              omega (arith, cond-true (eqb (end p i) h) (arrived i) 0 e, cond-true (eqb (end p i) h) (bit (back p i)) 0 e, ap bit response_tells.0, response_tells.4)

      pub not_sender : (g : ℕ) → g < houses_of p → sent g ≡ true → g ≢ h
      not_sender g l s e = omega (arith, awaited_then, (ok.sends g l s).2, ap v.awaited e)

      requests_kept : (j : ℕ) → requests_in (at v.on_line i (before ++ after) j) ≡ requests_in (v.on_line j)
      requests_kept j =
          at_alike requests_in v.on_line i (before ++ after)
          (omega (arith, ap requests_in on, requests_among q laws before (Message.Response w) after)) j

      responses_less : (j : ℕ) → j < count_of p → (responses_in (at v.on_line i (before ++ after) j) + bit (is_some (v.response j))) + at arrived i 1 j ≡ replied p.draft sent j
      responses_less j l =
          ⊎_elim
          (λ (e : j ≡ i).
          subst (λ k. (responses_in (at v.on_line i (before ++ after) k) + bit (is_some (v.response k))) + at arrived i 1 k ≡ replied p.draft sent k) (sym e)
          (omega (arith, ap responses_in (at_same v.on_line i (before ++ after)), at_same arrived i 1, ok.responses i lt, ap responses_in on, responses_among q laws before (Message.Response w) after, response_tells.4)))
          (λ ne. omega (arith, ap responses_in (at_other v.on_line i (before ++ after) j ne), at_other arrived i 1 j ne, ok.responses j l))
          (cases_eq j i)

      arrived_more : (g : ℕ) → sum (count_of p) (λ j. pick (eqb (end p j) g) (at arrived i 1 j)) ≡ pick (eqb h g) 1 + sum (count_of p) (λ j. pick (eqb (end p j) g) (arrived j))
      arrived_more g =
          total_more ◌+◌ 0 adding (count_of p) (λ j. pick (eqb (end p j) g) (arrived j)) (λ j. pick (eqb (end p j) g) (at arrived i 1 j)) i (pick (eqb h g) 1) lt
          (ap (λ k. pick (eqb (end p i) g) k) (at_same arrived i 1)
          ∙ ap (λ k. pick (eqb k g) 1) is
          ∙ sym (ap (λ k. pick (eqb h g) 1 + k) (ap (λ k. pick (eqb (end p i) g) k) response_tells.4 ∙ pick_none (eqb (end p i) g)) ∙ add-zero (pick (eqb h g) 1)))
          (λ j l ne. ap (λ k. pick (eqb (end p j) g) k) (at_other arrived i 1 j ne))
        where
          pick_none : (b : Bool) → pick b 0 ≡ 0
          pick_none true = refl
          pick_none false = refl

      awaits_less : (g : ℕ) → g < houses_of p → at v.awaited h (v.awaited h - 1) g + sum (count_of p) (λ j. pick (eqb (end p j) g) (at arrived i 1 j)) ≡ get_or p.draft.counters g 0
      awaits_less g l =
          ⊎_elim
          (λ (e : g ≡ h).
          subst (λ k. at v.awaited h (v.awaited h - 1) k + sum (count_of p) (λ j. pick (eqb (end p j) k) (at arrived i 1 j)) ≡ get_or p.draft.counters k 0) (sym e)
          (omega (arith, at_same v.awaited h (v.awaited h - 1), arrived_more h, cond-true {A = ℕ} (eqb h h) 1 0 (eq-eqb h h refl), awaited_then, ok.awaits begun_then h end_below)))
          (λ ne. omega (arith, at_other v.awaited h (v.awaited h - 1) g ne, arrived_more g, cond-false {A = ℕ} (eqb h g) 1 0 (ne_eqb h g (λ z. ne (sym z))), ok.awaits begun_then g l))
          (cases_eq g h)

      hands_one : (a.hand_overs + 1) + bit (v.called 0) ≡ sum (houses_of p) (λ g. bit (v.called g)) + sum (count_of p) (at arrived i 1)
      hands_one =
          let more : sum (count_of p) (at arrived i 1) ≡ 1 + sum (count_of p) arrived = total_more ◌+◌ 0 adding (count_of p) arrived (at arrived i 1) i 1 lt (at_same arrived i 1 ∙ sym (ap (λ k. 1 + k) response_tells.4)) (λ j l ne. at_other arrived i 1 j ne) in
          omega (arith, more, ok.hands)

      value_moved : q.join (over q (houses_of p) (at v.holding h (q.join (v.holding h) (value_of q w)))) (q.join (over q (count_of p) (λ j. waiting_value q (v.response j))) (over q (count_of p) (λ j. carried q (at v.on_line i (before ++ after) j)))) ≡ join_of q a.taken
      value_moved =
          let x = value_of q w in
          let mon = monoid q laws in
          let H = over q (houses_of p) v.holding in
          let W = over q (count_of p) (λ j. waiting_value q (v.response j)) in
          let C = over q (count_of p) (λ j. carried q (at v.on_line i (before ++ after) j)) in
          let more : over q (count_of p) (λ j. carried q (v.on_line j)) ≡ q.join x C = total_more q.join q.nothing mon (count_of p) (λ j. carried q (at v.on_line i (before ++ after) j)) (λ j. carried q (v.on_line j)) i x lt (ap (carried q) on ∙ carried_among q laws before (Message.Response w) after ∙ ap (λ l. q.join x (carried q l)) (sym (at_same v.on_line i (before ++ after)))) (λ j l ne. ap (carried q) (sym (at_other v.on_line i (before ++ after) j ne))) in
          ap (λ y. q.join y (q.join W C)) (total_more q.join q.nothing mon (houses_of p) v.holding (at v.holding h (q.join (v.holding h) x)) h x end_below (at_same v.holding h (q.join (v.holding h) x) ∙ laws.commutative (v.holding h) x) (λ j l ne. at_other v.holding h (q.join (v.holding h) x) j ne))
          ∙ laws.associative x H (q.join W C)
          ∙ left_comm q.join q.nothing mon x H (q.join W C)
          ∙ ap (q.join H) (left_comm q.join q.nothing mon x W C)
          ∙ ap (λ c. q.join H (q.join W c)) (sym more)
          ∙ ok.conserves

      pub response_arrives : Sound V W F q p.draft (received_view q v h (value_of q w) (at v.on_line i (before ++ after))) sent (at arrived i 1) (handed_account a a.taken)
      response_arrives = record {
        requests = λ j l. ap (λ k. bit (direct p j && v.called (end p j)) + (k + bit (v.request j))) (requests_kept j) ∙ ok.requests j l;
        responses = responses_less;
        awaits = λ _. awaits_less;
        sends = λ g l s. let old = ok.sends g l s in (old.0, old.1, at_other v.awaited h (v.awaited h - 1) g (not_sender g l s) ∙ old.2, at_other v.holding h (q.join (v.holding h) (value_of q w)) g (not_sender g l s) ∙ old.3);
        begins = ok.begins;
        hands = hands_one;
        loads = ok.loads;
        takes = ok.takes;
        strangers = ok.strangers;
        conserves = value_moved;
      }

  module _ (h : ℕ) (lt : h < houses_of p) (far : h ≢ 0) (is-called : v.called h ≡ true) (is-done : v.awaited h ≡ 0) (unsent : sent h ≡ false) where
    no_sender : (j : ℕ) → eqb (start p j) h ≡ true → sent (start p j) ≡ false
    no_sender j e = ap sent (eqb-true (start p j) h e) ∙ unsent

    -- its holding is now in the response that waits for its back line
    value_sent : q.join (over q (houses_of p) (at v.holding h q.nothing)) (q.join (over q (count_of p) (λ j. waiting_value q (cond (back p j && eqb (start p j) h) (Some (q.word (v.holding h))) (v.response j)))) (over q (count_of p) (λ j. carried q (v.on_line j)))) ≡ join_of q a.taken
    value_sent =
        let x = v.holding h in
        let mon = monoid q laws in
        let H = over q (houses_of p) (at v.holding h q.nothing) in
        let W₀ = over q (count_of p) (λ j. waiting_value q (v.response j)) in
        let C = over q (count_of p) (λ j. carried q (v.on_line j)) in
        let own = server p Way.Back h lt far in
        let i = own.0 in
        let at-start = eq-eqb (start p i) h own.3 in
        let free = ok.responses i own.1 in
        let unused : v.response i ≡ None = none_there (v.response i) (quiet (back p i) (sent (start p i)) (responses_in (v.on_line i)) (bit (is_some (v.response i))) (arrived i) (no_sender i at-start) free) in
        let held : over q (houses_of p) v.holding ≡ q.join x H = total_more q.join q.nothing mon (houses_of p) (at v.holding h q.nothing) v.holding h x lt (sym (right_unit q.join q.nothing mon x) ∙ ap (q.join x) (sym (at_same v.holding h q.nothing))) (λ j l ne. sym (at_other v.holding h q.nothing j ne)) in
        let waits : over q (count_of p) (λ j. waiting_value q (cond (back p j && eqb (start p j) h) (Some (q.word x)) (v.response j))) ≡ q.join x W₀ = total_more q.join q.nothing mon (count_of p) (λ j. waiting_value q (v.response j)) (λ j. waiting_value q (cond (back p j && eqb (start p j) h) (Some (q.word x)) (v.response j))) i x own.1 (ap (waiting_value q) (cond-true (back p i && eqb (start p i) h) (Some (q.word x)) (v.response i) (and_from (back p i) (eqb (start p i) h) own.2 at-start)) ∙ ap (λ o. unwrap_or o q.nothing) (laws.returned x) ∙ sym (right_unit q.join q.nothing mon x) ∙ ap (λ o. q.join x (waiting_value q o)) (sym unused)) (λ j l ne. ap (waiting_value q) (cond-false (back p j && eqb (start p j) h) (Some (q.word x)) (v.response j) (other_line j l ne own.3 own.2 own.1))) in
        ap (λ y. q.join H (q.join y C)) waits
        ∙ ap (q.join H) (laws.associative x W₀ C)
        ∙ left_comm q.join q.nothing mon H x (q.join W₀ C)
        ∙ sym (laws.associative x H (q.join W₀ C))
        ∙ ap (λ y. q.join y (q.join W₀ C)) (sym held)
        ∙ ok.conserves
      where
        quiet : (b s : Bool) (k r x : ℕ) → s ≡ false → (k + r) + x ≡ bit (b && s) → r ≡ 0
        quiet true true k r x no-s e = absurd (true≢false no-s)
        quiet true false k r x no-s e = omega arith
        quiet false s k r x no-s e = omega arith

        other_line : (j : ℕ) → j < count_of p → {i : ℕ} → j ≢ i → start p i ≡ h → back p i ≡ true → i < count_of p → (back p j && eqb (start p j) h) ≡ false
        other_line j l {i} ne is b li =
            untrue (back p j && eqb (start p j) h)
            (λ both. let parts = and_parts (back p j) (eqb (start p j) h) both in ne (only_server p Way.Back j i l li parts.0 b (eqb-true (start p j) h parts.1 ∙ sym is)))

    pub house_sends : Sound V W F q p.draft (sent_view q p v h) (at sent h true) arrived a
    house_sends = record {
      requests = ok.requests;
      responses = λ j l. responses_sent (back p j) (sent (start p j)) (eqb (start p j) h) (v.response j) (q.word (v.holding h)) (responses_in (v.on_line j)) (arrived j) (ok.responses j l) (no_sender j);
      awaits = ok.awaits;
      sends = λ g l s. ⊎_elim (λ (e : g ≡ h). subst (λ k. (k ≢ 0) × (v.called k ≡ true) × (v.awaited k ≡ 0) × (at v.holding h q.nothing k ≡ q.nothing)) (sym e) (far, is-called, is-done, at_same v.holding h q.nothing)) (λ ne. let old = ok.sends g l (sym (at_other sent h true g ne) ∙ s) in (old.0, old.1, old.2, at_other v.holding h q.nothing g ne ∙ old.3)) (cases_eq g h);
      begins = ok.begins;
      hands = ok.hands;
      loads = λ j l. loads_sent (back p j) (sent (start p j)) (eqb (start p j) h) (v.response j) (q.word (v.holding h)) (a.loads j) (responses_in (v.on_line j)) (arrived j) (bit (v.request j)) (asked p.draft v j) (ok.responses j l) (no_sender j) (ok.loads j l);
      takes = ok.takes;
      strangers = ok.strangers;
      conserves = value_sent;
    }
