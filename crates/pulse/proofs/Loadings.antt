-- A load keeps the invariant: the message that waited for the line is now at the end of its list.
use Rattle.std.proofs.Common.{◌≡◌, ℕ, ◌+◌, ◌<◌, Bool, true, false, ◌&&◌, List, [], ◌∷◌, ◌++◌, is_some, Some, None, sym, ap, ◌∙◌, subst, ⊎_elim, append-nil, zero-add, arith}
use Rattle.std.proofs.lemmas.Bool.{cases_eq}
use Rattle.plan.specs.declared.plans.Plan.{Plan}
use Rattle.quantity.specs.Senses.{Sense, Laws}
use Rattle.quantity.specs.Joins.{join_of}
use Rattle.carrier.specs.declared.messages.Message.{Message}
use Rattle.pulse.specs.Law.{message_value, over, waiting_value}
use Rattle.pulse.specs.Rounds.{value_of}
use Rattle.pulse.specs.Traces.{Account, at, with_load}
use Rattle.pulse.proofs.Bits.{at_alike, at_other, at_same}
use Rattle.pulse.proofs.Sound.{Sound, View, asked, carried, carried_among, monoid, replied, requests_among, requests_in, responses_among, responses_in}
use Rattle.pulse.proofs.Totals.{bit, left_comm, right_unit, total_more, total_same}
use Rattle.pulse.proofs.Trees.{count_of, direct, end, houses_of}

-- a message at the end of a list is one among the others
module _ {V W F : Type 0} (q : Sense V W F) (laws : Laws V W F q) (xs : List (Message W)) (x : Message W) where
  requests_last : requests_in (xs ++ (x ∷ [])) ≡ requests_in (x ∷ []) + requests_in xs
  requests_last = requests_among q laws xs x [] ∙ ap (λ ys. requests_in (x ∷ []) + requests_in ys) (append-nil xs)

  responses_last : responses_in (xs ++ (x ∷ [])) ≡ responses_in (x ∷ []) + responses_in xs
  responses_last = responses_among q laws xs x [] ∙ ap (λ ys. responses_in (x ∷ []) + responses_in ys) (append-nil xs)

  carried_last : carried q (xs ++ (x ∷ [])) ≡ q.join (message_value q x) (carried q xs)
  carried_last = carried_among q laws xs x [] ∙ ap (λ ys. q.join (message_value q x) (carried q ys)) (append-nil xs)

-- the view once a request, or a response, was loaded on line i
abbrev pub request_loaded : {V W : Type 0} → View V W → ℕ → View V W
request_loaded v i = record {
  called = v.called;
  awaited = v.awaited;
  holding = v.holding;
  request = at v.request i false;
  response = v.response;
  on_line = at v.on_line i (v.on_line i ++ (Message.Request ∷ []));
}

abbrev pub response_loaded : {V W : Type 0} → View V W → ℕ → W → View V W
response_loaded v i w = record {
  called = v.called;
  awaited = v.awaited;
  holding = v.holding;
  request = v.request;
  response = at v.response i None;
  on_line = at v.on_line i (v.on_line i ++ (Message.Response w ∷ []));
}

module _ {V W F : Type 0} (q : Sense V W F) (laws : Laws V W F q) (p : Plan) (v : View V W) (sent : ℕ → Bool) (arrived : ℕ → ℕ) (a : Account) (ok : Sound V W F q p.draft v sent arrived a) (i : ℕ) (lt : i < count_of p) where
  module _ (is : v.request i ≡ true) where
    list_after : List (Message W)
    list_after = v.on_line i ++ (Message.Request ∷ [])

    pub load_request : Sound V W F q p.draft (request_loaded v i) sent arrived (with_load a i)
    unfolding list_after
    load_request = record {
      requests = λ j l. ⊎_elim (λ (e : j ≡ i). subst (λ k. bit (direct p k && v.called (end p k)) + (requests_in (at v.on_line i list_after k) + bit (at v.request i false k)) ≡ asked p.draft v k) (sym e) (omega (arith, ap requests_in (at_same v.on_line i list_after), requests_last q laws (v.on_line i) Message.Request, ap bit (at_same v.request i false), ap bit is, ok.requests i lt))) (λ ne. omega (arith, ap requests_in (at_other v.on_line i list_after j ne), ap bit (at_other v.request i false j ne), ok.requests j l)) (cases_eq j i);
      responses = λ j l. ap (λ k. (k + bit (is_some (v.response j))) + arrived j) (at_alike responses_in v.on_line i list_after (responses_last q laws (v.on_line i) Message.Request ∙ zero-add (responses_in (v.on_line i))) j) ∙ ok.responses j l;
      awaits = ok.awaits;
      sends = ok.sends;
      begins = ok.begins;
      hands = ok.hands;
      loads = λ j l. ⊎_elim (λ (e : j ≡ i). subst (λ k. at a.loads i (a.loads i + 1) k + (bit (at v.request i false k) + bit (is_some (v.response k))) ≡ asked p.draft v k + replied p.draft sent k) (sym e) (omega (arith, at_same a.loads i (a.loads i + 1), ap bit (at_same v.request i false), ap bit is, ok.loads i lt))) (λ ne. omega (arith, at_other a.loads i (a.loads i + 1) j ne, ap bit (at_other v.request i false j ne), ok.loads j l)) (cases_eq j i);
      takes = ok.takes;
      strangers = ok.strangers;
      conserves = ap (λ c. q.join (over q (houses_of p) v.holding) (q.join (over q (count_of p) (λ j. waiting_value q (v.response j))) c)) (total_same q.join q.nothing (monoid q laws) (count_of p) _ _ (λ j l. at_alike (carried q) v.on_line i list_after (carried_last q laws (v.on_line i) Message.Request ∙ laws.unit (carried q (v.on_line i))) j)) ∙ ok.conserves;
    }

  module _ (w : W) (is : v.response i ≡ Some w) where
    list_then : List (Message W)
    list_then = v.on_line i ++ (Message.Response w ∷ [])

    value_loaded : q.join (over q (houses_of p) v.holding) (q.join (over q (count_of p) (λ j. waiting_value q (at v.response i None j))) (over q (count_of p) (λ j. carried q (at v.on_line i list_then j)))) ≡ join_of q a.taken
    unfolding list_then
    value_loaded =
        let x = value_of q w in
        let mon = monoid q laws in
        let H = over q (houses_of p) v.holding in
        let W₁ = over q (count_of p) (λ j. waiting_value q (at v.response i None j)) in
        let C₀ = over q (count_of p) (λ j. carried q (v.on_line j)) in
        let waited : over q (count_of p) (λ j. waiting_value q (v.response j)) ≡ q.join x W₁ = total_more q.join q.nothing mon (count_of p) (λ j. waiting_value q (at v.response i None j)) (λ j. waiting_value q (v.response j)) i x lt (ap (waiting_value q) is ∙ sym (right_unit q.join q.nothing mon x) ∙ ap (λ o. q.join x (waiting_value q o)) (sym (at_same v.response i None))) (λ j l ne. ap (waiting_value q) (sym (at_other v.response i None j ne))) in
        let travels : over q (count_of p) (λ j. carried q (at v.on_line i list_then j)) ≡ q.join x C₀ = total_more q.join q.nothing mon (count_of p) (λ j. carried q (v.on_line j)) (λ j. carried q (at v.on_line i list_then j)) i x lt (ap (carried q) (at_same v.on_line i list_then) ∙ carried_last q laws (v.on_line i) (Message.Response w)) (λ j l ne. ap (carried q) (at_other v.on_line i list_then j ne)) in
        ap (λ c. q.join H (q.join W₁ c)) travels
        ∙ ap (q.join H) (left_comm q.join q.nothing mon W₁ x C₀ ∙ sym (laws.associative x W₁ C₀) ∙ ap (λ y. q.join y C₀) (sym waited))
        ∙ ok.conserves

    pub load_response : Sound V W F q p.draft (response_loaded v i w) sent arrived (with_load a i)
    unfolding list_then
    load_response = record {
      requests = λ j l. ap (λ k. bit (direct p j && v.called (end p j)) + (k + bit (v.request j))) (at_alike requests_in v.on_line i list_then (requests_last q laws (v.on_line i) (Message.Response w) ∙ zero-add (requests_in (v.on_line i))) j) ∙ ok.requests j l;
      responses = λ j l. ⊎_elim (λ (e : j ≡ i). subst (λ k. (responses_in (at v.on_line i list_then k) + bit (is_some (at v.response i None k))) + arrived k ≡ replied p.draft sent k) (sym e) (omega (arith, ap responses_in (at_same v.on_line i list_then), responses_last q laws (v.on_line i) (Message.Response w), ap (λ o. bit (is_some o)) (at_same v.response i None), ap (λ o. bit (is_some o)) is, ok.responses i lt))) (λ ne. omega (arith, ap responses_in (at_other v.on_line i list_then j ne), ap (λ o. bit (is_some o)) (at_other v.response i None j ne), ok.responses j l)) (cases_eq j i);
      awaits = ok.awaits;
      sends = ok.sends;
      begins = ok.begins;
      hands = ok.hands;
      loads = λ j l. ⊎_elim (λ (e : j ≡ i). subst (λ k. at a.loads i (a.loads i + 1) k + (bit (v.request k) + bit (is_some (at v.response i None k))) ≡ asked p.draft v k + replied p.draft sent k) (sym e) (omega (arith, at_same a.loads i (a.loads i + 1), ap (λ o. bit (is_some o)) (at_same v.response i None), ap (λ o. bit (is_some o)) is, ok.loads i lt))) (λ ne. omega (arith, at_other a.loads i (a.loads i + 1) j ne, ap (λ o. bit (is_some o)) (at_other v.response i None j ne), ok.loads j l)) (cases_eq j i);
      takes = ok.takes;
      strangers = ok.strangers;
      conserves = value_loaded;
    }
