-- The invariant of a row, kept by every call: every state that a run of a just made row leads to has it.
use Rattle.std.proofs.Common.{◌≡◌, ℕ, ◌+◌, ◌-◌, ◌<◌, ◌≤◌, Bool, true, false, not, ◌&&◌, ◌||◌, eqb, ltb, ◌≢◌, List, [], ◌∷◌, ◌++◌, map, length, get_or, set, is_some, Some, None, Ok, Err, Option, Result, sym, refl, ap, ◌∙◌, subst, ⊎_elim, arith}
use lib.ListN.{length-map, length-replicate, get_or-map}
use Rattle.std.proofs.lemmas.List.{length-set}
use Rattle.std.proofs.lemmas.Bool.{and_from, and_parts, both_ways, cases_Bool, cases_eq, cond-false, cond-true, eq-eqb, eqb-false, eqb-true, false≢true, ltb-true, ne_eqb, not-true, or_cases}
use Rattle.fault.specs.declared.faults.Fault.{Fault}
use Rattle.plan.proofs.Records.{all_alike}
use Rattle.plan.specs.declared.plans.Plan.{Plan}
use Rattle.quantity.specs.declared.readings.Reading.{Reading}
use Rattle.quantity.specs.Readings.{blank_reading}
use Rattle.quantity.specs.Senses.{Sense, Laws}
use Rattle.quantity.specs.Joins.{Taking}
use Rattle.carrier.specs.declared.messages.Kind.{Kind}
use Rattle.carrier.specs.declared.messages.Message.{Message}
use Rattle.carrier.specs.Messages.{kind_of}
use Rattle.pulse.specs.declared.calls.Answer.{Answer}
use Rattle.pulse.specs.declared.calls.Call.{Call}
use Rattle.pulse.specs.declared.calls.Delivery.{Delivery}
use Rattle.pulse.specs.declared.calls.Exchange.{Exchange}
use Rattle.pulse.specs.declared.calls.Report.{Report}
use Rattle.pulse.specs.declared.rounds.Round.{Round}
use Rattle.pulse.specs.declared.rounds.Waiting.{Waiting}
use Rattle.pulse.specs.Law.{Reached, over, waiting_value}
use Rattle.pulse.specs.Rounds.{answered, begin, begun, call, counted, done, idle, none_waits, receive, respond, settle, standing, value_of, waiting_for}
use Rattle.pulse.specs.States.{State, just_made, on, reading_of}
use Rattle.pulse.specs.Steps.{response_next, Begins, HandsOver, Loads, Reads, Run, Sets, Step, begin_refusal, check, end_of, handed, has_line, load_refusal, loaded, next, rest, waits, with_list, with_reading, with_round, with_waiting}
use Rattle.pulse.specs.Traces.{Account, account, account_from, at, no_account, noted, takes, with_begin, with_load, with_set}
use Rattle.pulse.proofs.Arrivals.{arrived_few, awaited_then, called_view, handed_account, house_sends, received_view, request_arrives, request_tells, response_arrives}
use Rattle.pulse.proofs.Beginnings.{round_begins, settled_begun}
use Rattle.pulse.proofs.Bits.{at_alike, at_other, at_same, few_bit, off}
use Rattle.pulse.proofs.Ends.{Quiet, quiet_after, quiet_before}
use Rattle.pulse.proofs.Loadings.{load_request, load_response, request_loaded, response_loaded}
use Rattle.pulse.proofs.Sound.{Settled, Sound, View, carried, monoid, requests_in, responses_in, view}
use Rattle.pulse.proofs.Tables.{Shaped, alike, field, read_set, same_view, shaped_called, shaped_received, shaped_sent, view_called, view_received, view_sent}
use Rattle.pulse.proofs.Totals.{adding, at_most, bit, sum_le, total_none}
use Rattle.pulse.proofs.Trees.{back, count_of, direct, end, few_houses, houses_of, some_house, start, to_below, tree_sum}
use Rattle.lines.specs.declared.lines.Way.{Way}

-- the state of a row, and the account of the trace that led to it
pub record Invariant (V W F : Type 0) (q : Sense V W F) (a : Account) (s : State V W) : Type 0 where
  pub fits : s.fit ≡ true
  pub readings_long : length s.readings ≡ 48
  pub shaped : Shaped s.round
  pub lists_long : length s.lists ≡ s.plan.draft.lines
  pub readings_given : (h : ℕ) → h < s.plan.draft.houses → get_or s.readings h blank_reading ≡ a.given h
  pub hand_overs_counted : s.round.hand_overs ≡ a.hand_overs
  pub sent : ℕ → Bool
  pub arrived : ℕ → ℕ
  pub sound : Sound V W F q s.plan.draft (view q s.round s.lists) sent arrived a
  pub settled : Settled s.plan.draft (view q s.round s.lists) sent (λ _. ⊥)

-- a check that passes, and what stands after it
pub passes : (ok : Bool) (fault : Fault) (rest : Option Fault) → check ok fault rest ≡ None → (ok ≡ true) × (rest ≡ None)
passes true fault rest e = (refl, e)
passes false fault rest e = absurd (let z : ◌≡◌ {A = ℕ} 0 1 = cc in omega arith)

module _ {V W F : Type 0} (q : Sense V W F) (laws : Laws V W F q) where
  pub few_hands : (p : Plan) (v : View V W) (sent : ℕ → Bool) (arrived : ℕ → ℕ) (a : Account) → Sound V W F q p.draft v sent arrived a → a.hand_overs ≤ 95
  few_hands p v sent arrived a ok =
      omega (arith, ok.hands, at_most (houses_of p) (λ h. bit (v.called h)) (λ h. few_bit (v.called h)), sum_le (count_of p) arrived _ (arrived_few q laws p v sent arrived a ok), tree_sum p Way.Back, few_houses p)

  -- AFTER A MESSAGE HAS COME: the house settles

  record Kept (p : Plan) (r : Round V W) (lists : List (List (Message W))) (a : Account) : Type 0 where
    pub is_shaped : Shaped r
    pub has_sent : ℕ → Bool
    pub has_arrived : ℕ → ℕ
    pub is_sound : Sound V W F q p.draft (view q r lists) has_sent has_arrived a
    pub is_settled : Settled p.draft (view q r lists) has_sent (λ _. ⊥)

  settles : (p : Plan) (r : Round V W) (lists : List (List (Message W))) (sent : ℕ → Bool) (arrived : ℕ → ℕ) (a : Account) → Shaped r → (h : ℕ) → h < houses_of p → sent h ≡ false → Sound V W F q p.draft (view q r lists) sent arrived a → Settled p.draft (view q r lists) sent (λ g. g ≡ h) → Kept p (settle q p.draft h r) lists a
  settles p r lists sent arrived a shaped h lt unsent ok but =
      ⊎_elim
      (λ yes-done.
      let parts = and_parts (not (eqb h 0)) (done (standing q r h)) yes-done in
      let is = and_parts (standing q r h).called (eqb (standing q r h).awaited 0) parts.1 in
      let far : h ≢ 0 = eqb-false h 0 (not-true (eqb h 0) parts.0) in
      subst (λ x. Kept p x lists a) (sym (cond-true (not (eqb h 0) && done (standing q r h)) (respond q p.draft h r) r yes-done))
      (record {
        is_shaped = shaped_sent q p r shaped h (omega (arith, few_houses p));
        has_sent = at sent h true;
        has_arrived = arrived;
        is_sound = subst (λ x. Sound V W F q p.draft x (at sent h true) arrived a) (sym (view_sent q p r shaped h (omega (arith, few_houses p)) lists)) (house_sends q laws p (view q r lists) sent arrived a ok h lt far is.0 (eqb-true (standing q r h).awaited 0 is.1) unsent);
        is_settled = subst (λ x. Settled p.draft x (at sent h true) (λ _. ⊥)) (sym (view_sent q p r shaped h (omega (arith, few_houses p)) lists)) (λ g l _ ne c d. ⊎_elim (λ (e : g ≡ h). ap (at sent h true) e ∙ at_same sent h true) (λ off. at_other sent h true g off ∙ but g l off ne c d) (cases_eq g h));
      }))
      (λ not_done.
      subst (λ x. Kept p x lists a) (sym (cond-false (not (eqb h 0) && done (standing q r h)) (respond q p.draft h r) r not_done))
      (record {
        is_shaped = shaped;
        has_sent = sent;
        has_arrived = arrived;
        is_sound = ok;
        is_settled = λ g l _ ne c d. ⊎_elim (λ (e : g ≡ h). absurd (both_ways (not (eqb h 0) && done (standing q r h)) not_done (and_from (not (eqb h 0)) (done (standing q r h)) (ap not (ne_eqb h 0 (λ z. ne (e ∙ z)))) (and_from (standing q r h).called (eqb (standing q r h).awaited 0) (ap (λ k. (standing q r k).called) (sym e) ∙ c) (eq-eqb (standing q r h).awaited 0 (ap (λ k. (standing q r k).awaited) (sym e) ∙ d)))))) (λ off. but g l off ne c d) (cases_eq g h);
      }))
      (cases_Bool (not (eqb h 0) && done (standing q r h)))

  -- THE CALLS

  has_line_below : (s : State V W) (i : ℕ) → has_line s i ≡ true → (i < s.plan.draft.lines) × (i < length s.lists)
  has_line_below s i e =
      let parts = and_parts (ltb i s.plan.draft.lines) (ltb i (length s.lists)) e in
      (ltb-true i s.plan.draft.lines parts.0, ltb-true i (length s.lists) parts.1)

  module _ (a : Account) (s : State V W) (inv : Invariant V W F q a s) where
    sets : (h : ℕ) (r : Reading) → h < s.plan.draft.houses → Invariant V W F q (with_set a h r) (with_reading s h r)
    sets h r lt = record {
      fits = inv.fits;
      readings_long = length-set s.readings h r ∙ inv.readings_long;
      shaped = inv.shaped;
      lists_long = inv.lists_long;
      readings_given = λ g l. read_set s.readings h r blank_reading (omega (arith, inv.readings_long, few_houses s.plan)) g ∙ ⊎_elim (λ (e : g ≡ h). subst (λ k. at (λ j. get_or s.readings j blank_reading) h r k ≡ at a.given h r k) (sym e) (at_same (λ j. get_or s.readings j blank_reading) h r ∙ sym (at_same a.given h r))) (λ ne. at_other (λ j. get_or s.readings j blank_reading) h r g ne ∙ inv.readings_given g l ∙ sym (at_other a.given h r g ne)) (cases_eq g h);
      hand_overs_counted = inv.hand_overs_counted;
      sent = inv.sent;
      arrived = inv.arrived;
      sound = record {
        requests = inv.sound.requests;
        responses = inv.sound.responses;
        awaits = inv.sound.awaits;
        sends = inv.sound.sends;
        begins = inv.sound.begins;
        hands = inv.sound.hands;
        loads = inv.sound.loads;
        takes = inv.sound.takes;
        strangers = inv.sound.strangers;
        conserves = inv.sound.conserves;
      };
      settled = inv.settled;
    }

    -- begin: either no round was begun, or the round has its answer, so nothing waits or travels
    still : begin_refusal q s ≡ None → (i : ℕ) → i < s.plan.draft.lines → Quiet (view q s.round s.lists) i
    still free i lt =
        let free' = (passes s.fit _ _ free).1 in
        let may = (passes (not (begun q s.round) || answered q s.round) _ _ free').0 in
        ⊎_elim
        (λ none. quiet_before q laws s.plan (view q s.round s.lists) inv.sent inv.arrived a inv.sound (not-true (begun q s.round) none) i lt)
        (λ all. let is = and_parts (begun q s.round) (eqb (standing q s.round 0).awaited 0) all in quiet_after q laws s.plan (view q s.round s.lists) inv.sent inv.arrived a inv.sound is.0 (eqb-true (standing q s.round 0).awaited 0 is.1) i lt)
        (or_cases (not (begun q s.round)) (answered q s.round) may)

    begins : begin_refusal q s ≡ None → Invariant V W F q (with_begin a) (with_round s (begin q s.plan.draft (reading_of s 0) s.round))
    begins free =
        let d = s.plan.draft in
        let r₀ : Round V W = record { houses = map (idle q) d.counters; waiting = s.round.waiting; hand_overs = 0 } in
        let shaped₀ : Shaped r₀ = (length-map d.counters (idle q) ∙ d.tables.1, inv.shaped.1) in
        let at_start : (h : ℕ) → standing q r₀ h ≡ idle q (get_or d.counters h 0) = λ h. get_or-map (idle q) d.counters h 0 in
        let v₀ = view q r₀ s.lists in
        let seen : view q (begin q d (reading_of s 0) s.round) s.lists ≡ called_view q s.plan v₀ 0 (q.given 0 (a.given 0)) v₀.on_line = view_called q s.plan r₀ shaped₀ 0 (omega arith) (reading_of s 0) s.lists v₀.on_line (λ i. refl) s.lists ∙ ap (λ y. called_view q s.plan v₀ 0 (q.given 0 y) v₀.on_line) (inv.readings_given 0 (some_house s.plan)) in
        record {
          fits = inv.fits;
          readings_long = inv.readings_long;
          shaped = shaped_called q s.plan r₀ shaped₀ 0 (omega arith) (reading_of s 0);
          lists_long = inv.lists_long;
          readings_given = inv.readings_given;
          hand_overs_counted = refl;
          sent = λ _. false;
          arrived = λ _. 0;
          sound = subst (λ v. Sound V W F q d v (λ _. false) (λ _. 0) (with_begin a)) (sym seen) (round_begins q laws s.plan v₀ a (λ h l. ap (λ y. y.called) (at_start h)) (λ h l. ap (λ y. y.awaited) (at_start h)) (λ h l. ap (λ y. y.holding) (at_start h)) (still free));
          settled = subst (λ v. Settled d v (λ _. false) (λ _. ⊥)) (sym seen) (settled_begun q laws s.plan v₀ a (λ h l. ap (λ y. y.called) (at_start h)) (λ h l. ap (λ y. y.awaited) (at_start h)) (λ h l. ap (λ y. y.holding) (at_start h)) (still free));
        }

    -- load: the message that waited is on the line
    module _ (i : ℕ) (lt : i < s.plan.draft.lines) where
      view_loaded : (x : Waiting W) (xs : List (Message W)) (request : ℕ → Bool) (response : ℕ → Option W) → ((j : ℕ) → (at (waiting_for s.round) i x j).request ≡ request j) → ((j : ℕ) → (at (waiting_for s.round) i x j).response ≡ response j) → view q (with_waiting s.round i x) (set s.lists i xs) ≡ record { called = λ h. (standing q s.round h).called; awaited = λ h. (standing q s.round h).awaited; holding = λ h. (standing q s.round h).holding; request = request; response = response; on_line = at (λ j. get_or s.lists j []) i xs }
      view_loaded x xs request response req resp =
          same_view (view q (with_waiting s.round i x) (set s.lists i xs)) (record { called = λ h. (standing q s.round h).called; awaited = λ h. (standing q s.round h).awaited; holding = λ h. (standing q s.round h).holding; request = request; response = response; on_line = at (λ j. get_or s.lists j []) i xs })
          (λ h. refl)
          (λ h. refl)
          (λ h. refl)
          (λ j. ap (λ y. y.request) (read_set s.round.waiting i x none_waits (omega (arith, inv.shaped.1, s.plan.draft.size.2)) j) ∙ req j)
          (λ j. ap (λ y. y.response) (read_set s.round.waiting i x none_waits (omega (arith, inv.shaped.1, s.plan.draft.size.2)) j) ∙ resp j)
          (read_set s.lists i xs [] (omega (arith, inv.lists_long)))

      -- the invariant from that of the messages, whatever now waits
      loads_with : (x : Waiting W) (xs : List (Message W)) → Sound V W F q s.plan.draft (view q (with_waiting s.round i x) (set s.lists i xs)) inv.sent inv.arrived (with_load a i) → Invariant V W F q (with_load a i) (with_list (with_round s (with_waiting s.round i x)) i xs)
      loads_with x xs ok = record {
        fits = inv.fits;
        readings_long = inv.readings_long;
        shaped = (inv.shaped.0, length-set s.round.waiting i x ∙ inv.shaped.1);
        lists_long = length-set s.lists i xs ∙ inv.lists_long;
        readings_given = inv.readings_given;
        hand_overs_counted = inv.hand_overs_counted;
        sent = inv.sent;
        arrived = inv.arrived;
        sound = ok;
        settled = inv.settled;
      }

      loads_request : (waiting_for s.round i).request ≡ true → Invariant V W F q (with_load a i) (loaded s i)
      loads_request is =
          let w = waiting_for s.round i in
          let v = view q s.round s.lists in
          let x : Waiting W = record { request = false; response = w.response } in
          let xs = on s i ++ (Message.Request ∷ []) in
          let seen : view q (with_waiting s.round i x) (set s.lists i xs) ≡ request_loaded v i = view_loaded x xs (at v.request i false) v.response (λ j. field (λ y. y.request) (eqb j i) x (waiting_for s.round j)) (λ j. at_alike (λ y. y.response) (waiting_for s.round) i x refl j) in
          subst (Invariant V W F q (with_load a i))
          (ap (λ m. with_list (with_round s (with_waiting s.round i x)) i (on s i ++ (m ∷ []))) (sym (cond-true w.request Message.Request _ is))
          ∙ ap (λ y. with_list (with_round s (with_waiting s.round i y)) i (on s i ++ (next w ∷ []))) (sym (cond-true w.request x none_waits is)))
          (loads_with x xs (subst (λ u. Sound V W F q s.plan.draft u inv.sent inv.arrived (with_load a i)) (sym seen) (load_request q laws s.plan v inv.sent inv.arrived a inv.sound i lt is)))

      loads_response : (waiting_for s.round i).request ≡ false → (w : W) → (waiting_for s.round i).response ≡ Some w → Invariant V W F q (with_load a i) (loaded s i)
      loads_response off w is =
          let u = waiting_for s.round i in
          let v = view q s.round s.lists in
          let xs = on s i ++ (Message.Response w ∷ []) in
          let seen : view q (with_waiting s.round i none_waits) (set s.lists i xs) ≡ response_loaded v i w = view_loaded none_waits xs v.request (at v.response i None) (λ j. at_alike (λ y. y.request) (waiting_for s.round) i none_waits (sym off) j) (λ j. field (λ y. y.response) (eqb j i) none_waits (waiting_for s.round j)) in
          subst (Invariant V W F q (with_load a i))
          (ap (λ m. with_list (with_round s (with_waiting s.round i none_waits)) i (on s i ++ (m ∷ []))) (sym (cond-false u.request Message.Request (response_next u.response) off ∙ ap response_next is))
          ∙ ap (λ y. with_list (with_round s (with_waiting s.round i y)) i (on s i ++ (next u ∷ []))) (sym (cond-false u.request (record { request = false; response = u.response }) none_waits off)))
          (loads_with none_waits xs (subst (λ z. Sound V W F q s.plan.draft z inv.sent inv.arrived (with_load a i)) (sym seen) (load_response q laws s.plan v inv.sent inv.arrived a inv.sound i lt w is)))

    loads : (k i : ℕ) → load_refusal k s i ≡ None → Invariant V W F q (with_load a i) (loaded s i)
    loads k i free =
        let free₁ = (passes s.fit _ _ free).1 in
        let lined = passes (has_line s i) _ _ free₁ in
        let some = (passes (waits (waiting_for s.round i)) _ _ lined.1).0 in
        let lt = (has_line_below s i lined.0).0 in
        ⊎_elim
        (λ is. loads_request i lt is)
        (λ off. let found = some_word (waiting_for s.round i).request (waiting_for s.round i).response off some in loads_response i lt off found.0 found.1)
        (cases_Bool (waiting_for s.round i).request)
      where
        some_word : (r : Bool) (o : Option W) → r ≡ false → (r || is_some o) ≡ true → (w : W) × (o ≡ Some w)
        some_word true o off some = absurd (false≢true (sym off))
        some_word false None off some = absurd (false≢true some)
        some_word false (Some w) off some = (w, refl)

    -- hand over: the message has come to the house at the line's end, which has settled
    same_count : (h : ℕ) (r : Round V W) → (settle q s.plan.draft h r).hand_overs ≡ r.hand_overs
    same_count h r = field (λ x. x.hand_overs) (not (eqb h 0) && done (standing q r h)) (respond q s.plan.draft h r) r ∙ alike (not (eqb h 0) && done (standing q r h)) r.hand_overs

    hands_with : (i : ℕ) (xs : List (Message W)) (r : Round V W) (taken : List Taking) → r.hand_overs ≡ s.round.hand_overs → Kept s.plan r (set s.lists i xs) (handed_account a taken) → Invariant V W F q (handed_account a taken) (with_list (with_round s (counted r)) i xs)
    hands_with i xs r taken count kept = record {
      fits = inv.fits;
      readings_long = inv.readings_long;
      shaped = kept.is_shaped;
      lists_long = length-set s.lists i xs ∙ inv.lists_long;
      readings_given = inv.readings_given;
      hand_overs_counted = omega (arith, count, inv.hand_overs_counted, few_hands s.plan (view q r (set s.lists i xs)) kept.has_sent kept.has_arrived (handed_account a taken) kept.is_sound);
      sent = kept.has_sent;
      arrived = kept.has_arrived;
      sound = kept.is_sound;
      settled = kept.is_settled;
    }

    module _ (i : ℕ) (lt : i < s.plan.draft.lines) (before after : List (Message W)) where
      hands_request : on s i ≡ before ++ (Message.Request ∷ after) → Invariant V W F q (handed_account a (takes a (end_of s i))) (handed q s i Message.Request (before ++ after))
      hands_request is-on =
          let d = s.plan.draft in
          let h = end_of s i in
          let r = s.round in
          let v = view q r s.lists in
          let xs = before ++ after in
          let small : h < 48 = omega (arith, to_below s.plan i lt, few_houses s.plan) in
          let off = (request_tells q laws s.plan v inv.sent inv.arrived a inv.sound i lt before after is-on).1 in
          let r₁ = call q d h (reading_of s h) r in
          let seen : view q r₁ (set s.lists i xs) ≡ called_view q s.plan v h (q.given h (a.given h)) (at v.on_line i xs) = view_called q s.plan r inv.shaped h small (reading_of s h) (set s.lists i xs) (at v.on_line i xs) (read_set s.lists i xs [] (omega (arith, inv.lists_long))) s.lists ∙ ap (λ y. called_view q s.plan v h (q.given h y) (at v.on_line i xs)) (inv.readings_given h (to_below s.plan i lt)) in
          let sound₁ = subst (λ u. Sound V W F q d u inv.sent inv.arrived (handed_account a (takes a h))) (sym seen) (request_arrives q laws s.plan v inv.sent inv.arrived a inv.sound i lt before after is-on h refl (a.given h)) in
          let but : Settled d (view q r₁ (set s.lists i xs)) inv.sent (λ g. g ≡ h) = subst (λ u. Settled d u inv.sent (λ g. g ≡ h)) (sym seen) (λ g l ne far c z. inv.settled g l (λ x. x) far (sym (at_other v.called h true g ne) ∙ c) z) in
          let unsent : inv.sent h ≡ false = ⊎_elim (λ e. absurd (both_ways (v.called h) off (inv.sound.sends h (to_below s.plan i lt) e).1)) (λ e. e) (cases_Bool (inv.sent h)) in
          subst (λ u. Invariant V W F q (handed_account a (takes a h)) (with_list (with_round s (counted u)) i xs)) (sym (cond-false (standing q r h).called r (settle q d h r₁) off))
          (hands_with i xs (settle q d h r₁) (takes a h) (same_count h r₁) (settles s.plan r₁ (set s.lists i xs) inv.sent inv.arrived (handed_account a (takes a h)) (shaped_called q s.plan r inv.shaped h small (reading_of s h)) h (to_below s.plan i lt) unsent sound₁ but))

      hands_response : (w : W) → on s i ≡ before ++ (Message.Response w ∷ after) → Invariant V W F q (handed_account a a.taken) (handed q s i (Message.Response w) (before ++ after))
      hands_response w is-on =
          let d = s.plan.draft in
          let h = end_of s i in
          let r = s.round in
          let v = view q r s.lists in
          let xs = before ++ after in
          let small : h < 48 = omega (arith, to_below s.plan i lt, few_houses s.plan) in
          let some = awaited_then q laws s.plan v inv.sent inv.arrived a inv.sound i lt w before after is-on h refl in
          let r₁ = receive q h w r in
          let arrived₁ = at inv.arrived i 1 in
          let seen : view q r₁ (set s.lists i xs) ≡ received_view q v h (value_of q w) (at v.on_line i xs) = view_received q s.plan r inv.shaped h small w (set s.lists i xs) (at v.on_line i xs) (read_set s.lists i xs [] (omega (arith, inv.lists_long))) s.lists in
          let sound₁ = subst (λ u. Sound V W F q d u inv.sent arrived₁ (handed_account a a.taken)) (sym seen) (response_arrives q laws s.plan v inv.sent inv.arrived a inv.sound i lt w before after is-on h refl) in
          let but : Settled d (view q r₁ (set s.lists i xs)) inv.sent (λ g. g ≡ h) = subst (λ u. Settled d u inv.sent (λ g. g ≡ h)) (sym seen) (λ g l ne far c z. inv.settled g l (λ x. x) far c (sym (at_other v.awaited h (v.awaited h - 1) g ne) ∙ z)) in
          let unsent : inv.sent h ≡ false = ⊎_elim (λ e. absurd (omega (arith, some, (inv.sound.sends h (to_below s.plan i lt) e).2))) (λ e. e) (cases_Bool (inv.sent h)) in
          subst (λ u. Invariant V W F q (handed_account a a.taken) (with_list (with_round s (counted u)) i xs)) (sym (cond-false (eqb (standing q r h).awaited 0) r (settle q d h r₁) (ne_eqb (standing q r h).awaited 0 (λ e. omega (arith, some)))))
          (hands_with i xs (settle q d h r₁) a.taken (same_count h r₁) (settles s.plan r₁ (set s.lists i xs) inv.sent arrived₁ (handed_account a a.taken) (shaped_received q s.plan r inv.shaped h small w) h (to_below s.plan i lt) unsent sound₁ but))

  -- ANY CALL, ANY RUN

  kept : (a : Account) (s t : State V W) → t ≡ s → Invariant V W F q a s → Invariant V W F q a t
  kept a s t e inv = subst (Invariant V W F q a) (sym e) inv

  begin_keeps : (a : Account) (s t : State V W) (r : Result (Unit {0}) Fault) → Invariant V W F q a s → Begins q s r t → Invariant V W F q (noted {F = F} a Call.Begin (Answer.Begin r)) t
  begin_keeps a s t (Ok u) inv (free, e) = kept (with_begin a) _ t e (begins a s inv free)
  begin_keeps a s t (Err v) inv (no_way, e) = kept a s t e inv

  load_keeps : (k : ℕ) (a : Account) (s t : State V W) (i : ℕ) (r : Result Kind Fault) → Invariant V W F q a s → Loads k s i r t → Invariant V W F q (noted {F = F} a (Call.Load i) (Answer.Load r)) t
  load_keeps k a s t i (Ok x) inv (free, _, e) = kept (with_load a i) _ t e (loads a s inv k i free)
  load_keeps k a s t i (Err v) inv (no_way, e) = kept a s t e inv

  set_keeps : (a : Account) (s t : State V W) (h : ℕ) (x : Reading) (r : Result (Unit {0}) Fault) → Invariant V W F q a s → Sets s h x r t → Invariant V W F q (noted {F = F} a (Call.Set h x) (Answer.Set r)) t
  set_keeps a s t h x (Ok u) inv (free, e) =
      let free₁ = (passes s.fit _ _ free).1 in
      kept (with_set a h x) _ t e (sets a s inv h x (ltb-true h s.plan.draft.houses (passes (ltb h s.plan.draft.houses) _ _ free₁).0))
  set_keeps a s t h x (Err v) inv (no_way, e) = kept a s t e inv

  read_keeps : (a : Account) (s t : State V W) (r : Result (Report F) Fault) → Invariant V W F q a s → Reads q s r t → Invariant V W F q a t
  read_keeps a s t (Ok x) inv (free, _, e) = kept a s t e inv
  read_keeps a s t (Err v) inv (no_way, e) = kept a s t e inv

  message_keeps : (a : Account) (s : State V W) → Invariant V W F q a s → (i : ℕ) → i < s.plan.draft.lines → (before : List (Message W)) (x : Message W) (after : List (Message W)) → on s i ≡ before ++ (x ∷ after) → Invariant V W F q (noted {F = F} a (Call.HandOver i) (Answer.HandOver (Ok (record { kind = kind_of x; house = end_of s i })))) (handed q s i x (before ++ after))
  message_keeps a s inv i lt before Message.Request after is-on = hands_request a s inv i lt before after is-on
  message_keeps a s inv i lt before (Message.Response w) after is-on = hands_response a s inv i lt before after w is-on

  hand_over_keeps : (a : Account) (s t : State V W) (i : ℕ) (r : Result Delivery Fault) → Invariant V W F q a s → HandsOver q s i r t → Invariant V W F q (noted {F = F} a (Call.HandOver i) (Answer.HandOver r)) t
  hand_over_keeps a s t i (Ok d) inv (free, (before, x, after, is-on, d-is, e)) =
      let free₁ = (passes s.fit _ _ free).1 in
      let lt = (has_line_below s i (passes (has_line s i) _ _ free₁).0).0 in
      subst (λ y. Invariant V W F q (noted {F = F} a (Call.HandOver i) (Answer.HandOver (Ok y))) t) (sym d-is)
      (kept _ _ t e (message_keeps a s inv i lt before x after is-on))
  hand_over_keeps a s t i (Err v) inv (no_way, e) = kept a s t e inv

  pub step_keeps : (k : ℕ) (a : Account) (s t : State V W) (c : Call) (x : Answer F) → Invariant V W F q a s → Step q k s c x t → Invariant V W F q (noted a c x) t
  step_keeps k a s t Call.Begin x inv (r, e, st) = subst (λ y. Invariant V W F q (noted a Call.Begin y) t) (sym e) (begin_keeps a s t r inv st)
  step_keeps k a s t (Call.Load i) x inv (r, e, st) = subst (λ y. Invariant V W F q (noted a (Call.Load i) y) t) (sym e) (load_keeps k a s t i r inv st)
  step_keeps k a s t (Call.HandOver i) x inv (r, e, st) = subst (λ y. Invariant V W F q (noted a (Call.HandOver i) y) t) (sym e) (hand_over_keeps a s t i r inv st)
  step_keeps k a s t (Call.Set h y) x inv (r, e, st) = subst (λ z. Invariant V W F q (noted a (Call.Set h y) z) t) (sym e) (set_keeps a s t h y r inv st)
  step_keeps k a s t Call.Read x inv (r, e, st) = read_keeps a s t r inv st

  pub run_keeps : (k : ℕ) (es : List (Exchange F)) (a : Account) (s t : State V W) → Invariant V W F q a s → Run q k s es t → Invariant V W F q (account_from a es) t
  run_keeps k [] a s t inv e = subst (Invariant V W F q a) e inv
  run_keeps k (e ∷ es) a s t inv (u, st, on) = run_keeps k es (noted a e.call e.answer) u t (step_keeps k a s u e.call e.answer inv st) on

  -- a just made row
  pub made : (p : Plan) → Invariant V W F q no_account (just_made q p)
  made p =
      let d = p.draft in
      let s = just_made q p in
      let none : (h : ℕ) → standing q s.round h ≡ idle q 0 = all_alike (idle q 0) 48 in
      let nothing_waits : (i : ℕ) → waiting_for s.round i ≡ none_waits = all_alike none_waits 128 in
      let empty_line : (i : ℕ) → get_or s.lists i [] ≡ [] = all_alike [] d.lines in
      let mon = monoid q laws in
      let W₀ = over q d.lines (λ i. waiting_value q (waiting_for s.round i).response) in
      let C = over q d.lines (λ i. carried q (get_or s.lists i [])) in
      record {
        fits = refl;
        readings_long = length-replicate 48 blank_reading;
        shaped = (length-replicate 48 (idle q 0), length-replicate 128 (none_waits {W = W}));
        lists_long = length-replicate d.lines [];
        readings_given = λ h l. all_alike blank_reading 48 h;
        hand_overs_counted = refl;
        sent = λ _. false;
        arrived = λ _. 0;
        sound = record {
          requests = λ i l. omega (arith, off (direct p i) (standing q s.round (end p i)).called (ap (λ x. x.called) (none (end p i))), off (direct p i) (standing q s.round (start p i)).called (ap (λ x. x.called) (none (start p i))), ap requests_in (empty_line i), ap (λ x. bit x.request) (nothing_waits i));
          responses = λ i l. omega (arith, off (back p i) false refl, ap responses_in (empty_line i), ap (λ x. bit (is_some x.response)) (nothing_waits i));
          awaits = λ is. absurd (both_ways (standing q s.round 0).called (ap (λ x. x.called) (none 0)) is);
          sends = λ h l is. absurd (false≢true is);
          begins = sym (ap (λ x. x.called) (none 0));
          hands = omega (arith, ap (λ x. bit x.called) (none 0), total_none ◌+◌ 0 adding d.houses (λ h. bit (standing q s.round h).called) (λ h l. ap (λ x. bit x.called) (none h)), total_none ◌+◌ 0 adding d.lines (λ _. 0) (λ i l. refl));
          loads = λ i l. omega (arith, off (direct p i) (standing q s.round (start p i)).called (ap (λ x. x.called) (none (start p i))), off (back p i) false refl, ap (λ x. bit x.request) (nothing_waits i), ap (λ x. bit (is_some x.response)) (nothing_waits i));
          takes = λ h l. sym (ap (λ x. bit x.called) (none h));
          strangers = λ h l. refl;
          conserves =
              ap (λ x. q.join x (q.join W₀ C)) (total_none q.join q.nothing mon d.houses (λ h. (standing q s.round h).holding) (λ h l. ap (λ x. x.holding) (none h)))
              ∙ laws.unit (q.join W₀ C)
              ∙ ap (λ x. q.join x C) (total_none q.join q.nothing mon d.lines (λ i. waiting_value q (waiting_for s.round i).response) (λ i l. ap (λ x. waiting_value q x.response) (nothing_waits i)))
              ∙ laws.unit C
              ∙ total_none q.join q.nothing mon d.lines (λ i. carried q (get_or s.lists i [])) (λ i l. ap (carried q) (empty_line i));
        };
        settled = λ h l _ far is _. absurd (both_ways (standing q s.round h).called (ap (λ x. x.called) (none h)) is);
      }

  -- where a run leads, the invariant holds
  pub reached_keeps : (k : ℕ) (p : Plan) (es : List (Exchange F)) (s : State V W) → Reached q k p es s → Invariant V W F q (account es) s
  reached_keeps k p es s run = run_keeps k es no_account (just_made q p) s (made p) run
