-- A round that begins where nothing waits or travels is sound.
use Rattle.std.proofs.Common.{◌≡◌, ℕ, ◌+◌, ◌<◌, Bool, true, false, ◌&&◌, eqb, get_or, is_some, sym, refl, ap, ◌∙◌, subst, ⊎_elim, add-zero, arith}
use Rattle.std.proofs.lemmas.Bool.{both_ways, cases_eq, cond-false, false≢true, ne_eqb}
use Rattle.lines.specs.declared.lines.Way.{Way}
use Rattle.plan.specs.declared.plans.Plan.{Plan}
use Rattle.quantity.specs.Senses.{Sense, Laws}
use Rattle.quantity.specs.Joins.{join_of}
use Rattle.pulse.specs.Law.{over, waiting_value}
use Rattle.pulse.specs.Traces.{Account, at, times, with_begin}
use Rattle.pulse.proofs.Arrivals.{called_view}
use Rattle.pulse.proofs.Bits.{at_other, loads_called, off, requests_other}
use Rattle.pulse.proofs.Ends.{Quiet}
use Rattle.pulse.proofs.Sound.{Settled, Sound, View, carried, monoid, requests_in, responses_in}
use Rattle.pulse.proofs.Totals.{adding, bit, pick, total_none, total_only}
use Rattle.pulse.proofs.Trees.{back, count_of, direct, end, from_below, head_unserved, houses_of, some_house, start, to_below}

module _ {V W F : Type 0} (q : Sense V W F) (laws : Laws V W F q) (p : Plan) (v : View V W) (a : Account)
    (fresh : (h : ℕ) → h < houses_of p → v.called h ≡ false)
    (awaits-all : (h : ℕ) → h < houses_of p → v.awaited h ≡ get_or p.draft.counters h 0)
    (holds-none : (h : ℕ) → h < houses_of p → v.holding h ≡ q.nothing)
    (still : (i : ℕ) → i < count_of p → Quiet v i) where
  no_requests : (i : ℕ) → i < count_of p → bit (direct p i && v.called (end p i)) + (requests_in (v.on_line i) + bit (v.request i)) ≡ bit (direct p i && v.called (start p i))
  no_requests i lt =
      omega (arith, off (direct p i) (v.called (end p i)) (fresh (end p i) (to_below p i lt)), off (direct p i) (v.called (start p i)) (fresh (start p i) (from_below p i lt)), ap requests_in (still i lt).0, ap bit (still i lt).1)

  from_head : (i : ℕ) → i < count_of p → eqb (start p i) 0 ≡ true → v.called (start p i) ≡ false
  from_head i lt e = fresh (start p i) (from_below p i lt)

  join_begun : q.join (over q (houses_of p) (at v.holding 0 (q.join (v.holding 0) (q.given 0 (a.given 0))))) (q.join (over q (count_of p) (λ i. waiting_value q (v.response i))) (over q (count_of p) (λ i. carried q (v.on_line i)))) ≡ join_of q (with_begin a).taken
  join_begun =
      let mon = monoid q laws in
      let x = q.given 0 (a.given 0) in
      let H = over q (houses_of p) (at v.holding 0 (q.join (v.holding 0) x)) in
      let C = over q (count_of p) (λ i. carried q (v.on_line i)) in
      let W₀ = over q (count_of p) (λ i. waiting_value q (v.response i)) in
      let h : H ≡ q.join (v.holding 0) x = total_only q.join q.nothing mon (houses_of p) (at v.holding 0 (q.join (v.holding 0) x)) 0 (some_house p) (λ j l ne. at_other v.holding 0 (q.join (v.holding 0) x) j ne ∙ holds-none j l) in
      let w : W₀ ≡ q.nothing = total_none q.join q.nothing mon (count_of p) _ (λ i l. ap (waiting_value q) (still i l).2) in
      let c : C ≡ q.nothing = total_none q.join q.nothing mon (count_of p) _ (λ i l. ap (carried q) (still i l).0) in
      ap (λ y. q.join y (q.join W₀ C)) (h ∙ ap (λ y. q.join y x) (holds-none 0 (some_house p)) ∙ laws.unit x)
      ∙ ap (λ y. q.join x (q.join y C)) w
      ∙ ap (q.join x) (laws.unit C ∙ c)

  pub round_begins : Sound V W F q p.draft (called_view q p v 0 (q.given 0 (a.given 0)) v.on_line) (λ _. false) (λ _. 0) (with_begin a)
  round_begins = record {
    requests = λ i l. requests_other (direct p i) (v.called (end p i)) (v.called (start p i)) (v.request i) (eqb (end p i) 0) (eqb (start p i) 0) (requests_in (v.on_line i)) (no_requests i l) (λ d. ne_eqb (end p i) 0 (head_unserved p Way.Direct i l d)) (from_head i l);
    responses = λ i l. omega (arith, ap responses_in (still i l).0, ap (λ o. bit (is_some o)) (still i l).2, off (back p i) false refl);
    awaits = λ _ h l. ap (λ k. v.awaited h + k) (total_none ◌+◌ 0 adding (count_of p) _ (λ i _. no_pick (eqb (end p i) h))) ∙ add-zero (v.awaited h) ∙ awaits-all h l;
    sends = λ h l s. absurd (false≢true s);
    begins = refl;
    hands = omega (arith, total_only ◌+◌ 0 adding (houses_of p) (λ h. bit (at v.called 0 true h)) 0 (some_house p) (λ j l ne. ap bit (at_other v.called 0 true j ne ∙ fresh j l)), total_none ◌+◌ 0 adding (count_of p) (λ _. 0) (λ i l. refl));
    loads = λ i l. loads_called (direct p i) (v.called (start p i)) (v.request i) (eqb (start p i) 0) 0 (requests_in (v.on_line i)) (bit (direct p i && v.called (end p i))) (bit (is_some (v.response i))) (bit (back p i && false)) (no_requests i l) (from_head i l) (omega (arith, off (back p i) false refl, ap bit (still i l).1, ap (λ o. bit (is_some o)) (still i l).2, off (direct p i) (v.called (start p i)) (fresh (start p i) (from_below p i l))));
    takes = λ h l. ⊎_elim (λ (e : h ≡ 0). subst (λ k. times k (with_begin a).taken ≡ bit (at v.called 0 true k)) (sym e) refl) (λ ne. cond-false (eqb 0 h) 1 0 (ne_eqb 0 h (λ e. ne (sym e))) ∙ ap bit (sym (at_other v.called 0 true h ne ∙ fresh h l))) (cases_eq h 0);
    strangers = λ h l. cond-false (eqb 0 h) 1 0 (ne_eqb 0 h (λ e. omega (arith, some_house p)));
    conserves = join_begun;
  }
    where
      no_pick : (b : Bool) → pick b 0 ≡ 0
      no_pick true = refl
      no_pick false = refl

  pub settled_begun : Settled p.draft (called_view q p v 0 (q.given 0 (a.given 0)) v.on_line) (λ _. false) (λ _. ⊥)
  settled_begun h l _ ne is-called _ = absurd (both_ways (v.called h) (fresh h l) (sym (at_other v.called 0 true h ne) ∙ is-called))
