-- The ring of three houses: its plan, and its runs.
use Rattle.std.proofs.Common.{◌≡◌, ℕ, zero, suc, ◌<◌, ◌≤◌, false, ltb, List, [], ◌∷◌, ◌++◌, length, get_or, replicate, Some, None, Ok, Err, Option, unwrap_or, sym, refl, ap, ◌∙◌, subst, inl, inr, arith}
use Rattle.std.proofs.lemmas.Bool.{cond-true, false≢true, lt-ltb, true≢false}
use Rattle.fault.specs.declared.causes.Cause.TheVariants.{LineFull, NothingWaits}
use Rattle.fault.specs.declared.faults.Fault.{Fault}
use Rattle.fault.specs.Layers.{fault_at}
use Rattle.lines.specs.declared.lines.Line.{Line}
use Rattle.lines.specs.declared.lines.Marks.{Marks}
use Rattle.lines.specs.declared.lines.Way.{Way}
use Rattle.lines.specs.Lines.{InForm, blank}
use Rattle.plan.specs.declared.drafts.Draft.{Draft}
use Rattle.plan.specs.declared.plans.Plan.{Plan}
use Rattle.plan.specs.declared.rules.Rule.{Rule}
use Rattle.plan.specs.Rules.{Keeps}
use Rattle.plan.proofs.Records.{all_alike}
use Rattle.quantity.specs.Readings.{blank_reading}
use Rattle.quantity.specs.Senses.{Sense, Laws}
use Rattle.carrier.specs.declared.messages.Kind.{Kind}
use Rattle.carrier.specs.declared.messages.Message.{Message}
use Rattle.carrier.specs.Messages.{kind_number, kind_of}
use Rattle.pulse.specs.declared.calls.Answer.{Answer}
use Rattle.pulse.specs.declared.calls.Delivery.{Delivery}
use Rattle.pulse.specs.declared.calls.Exchange.{Exchange}
use Rattle.pulse.specs.declared.rounds.Waiting.{Waiting}
use Rattle.pulse.specs.Rounds.{begin, none_waits, standing, value_of, waiting_for}
use Rattle.pulse.specs.States.{State, just_made, on, reading_of}
use Rattle.pulse.specs.Steps.{Run, handed, loaded, next, with_round}
use Rattle.pulse.specs.Traces.{accepted, delivery}
use Rattle.pulse.specs.Law.{Reached}
use Rattle.pulse.specs.Mistakes.{EarlyResponseKept, MistakesExcluded, RequestFirst, UncalledHouseSilent, begins, hands, loads, opening, overtaking, refuses}

-- THE PLAN

abbrev ring_lines : List Line
ring_lines =
    record { from = 0; to = 1; marks = Marks.Direct }
    ∷ record { from = 1; to = 2; marks = Marks.Both }
    ∷ record { from = 2; to = 0; marks = Marks.Back }
    ∷ replicate 125 blank

abbrev ring_counters : List ℕ
ring_counters = 1 ∷ 0 ∷ 1 ∷ replicate 45 0

in_form : (i : ℕ) → i < 3 → InForm 3 (get_or ring_lines i blank)
in_form zero l = (omega arith, omega arith, λ e. omega arith)
in_form (suc zero) l = (omega arith, omega arith, λ e. omega arith)
in_form (suc (suc zero)) l = (omega arith, omega arith, λ e. omega arith)
in_form (suc (suc (suc i))) l = absurd (omega arith)

bytes : (h : ℕ) → get_or ring_counters h 0 < 256
bytes zero = omega arith
bytes (suc zero) = omega arith
bytes (suc (suc zero)) = omega arith
bytes (suc (suc (suc h))) = let small : ℕ → Type 0 = λ x. x < 256 in subst small (sym (all_alike 0 45 h)) (omega arith)

spare : (i : ℕ) → 3 ≤ i → get_or ring_lines i blank ≡ blank
spare zero l = absurd (omega arith)
spare (suc zero) l = absurd (omega arith)
spare (suc (suc zero)) l = absurd (omega arith)
spare (suc (suc (suc i))) l = all_alike blank 125 i

rest : (h : ℕ) → 3 ≤ h → get_or ring_counters h 0 ≡ 0
rest zero l = absurd (omega arith)
rest (suc zero) l = absurd (omega arith)
rest (suc (suc zero)) l = absurd (omega arith)
rest (suc (suc (suc h))) l = all_alike 0 45 h

abbrev ring_draft : Draft
ring_draft = record {
  houses = 3;
  lines = 3;
  capacity = 2;
  records = ring_lines;
  counters = ring_counters;
  size = (omega arith, omega arith, omega arith, omega arith, omega arith);
  tables = (refl, refl);
  form = in_form;
  bytes = bytes;
  spare = spare;
  rest = rest;
}

keeps : (rule : Rule) (h : ℕ) → h < 3 → Keeps rule ring_draft h
keeps (Rule.Single Way.Direct) zero l = refl
keeps (Rule.Single Way.Direct) (suc zero) l = refl
keeps (Rule.Single Way.Direct) (suc (suc zero)) l = refl
keeps (Rule.Single Way.Back) zero l = refl
keeps (Rule.Single Way.Back) (suc zero) l = refl
keeps (Rule.Single Way.Back) (suc (suc zero)) l = refl
keeps (Rule.Leading Way.Direct) zero l = inl refl
keeps (Rule.Leading Way.Direct) (suc zero) l = inr (0, omega arith, refl, inl refl)
keeps (Rule.Leading Way.Direct) (suc (suc zero)) l = inr (1, omega arith, refl, inr (0, omega arith, refl, refl))
keeps (Rule.Leading Way.Back) zero l = inl refl
keeps (Rule.Leading Way.Back) (suc zero) l = inr (1, omega arith, refl, inr (2, omega arith, refl, refl))
keeps (Rule.Leading Way.Back) (suc (suc zero)) l = inr (2, omega arith, refl, inl refl)
keeps Rule.Counters zero l = refl
keeps Rule.Counters (suc zero) l = refl
keeps Rule.Counters (suc (suc zero)) l = refl
keeps rule (suc (suc (suc h))) l = absurd (omega arith)

abbrev ring : Plan
ring = record { draft = ring_draft; right = λ rule h l. ∣ keeps rule h l ∣₁ }

-- WHERE A RUN LEADS after its first exchange

kind_in : {F : Type 0} → Kind → Answer F → Kind
kind_in none (Answer.Begin r) = none
kind_in none (Answer.Load (Ok kind)) = kind
kind_in none (Answer.Load (Err v)) = none
kind_in none (Answer.HandOver r) = none
kind_in none (Answer.Set r) = none
kind_in none (Answer.Read r) = none

kind_given : Kind → Option Delivery → Kind
kind_given none None = none
kind_given none (Some d) = d.kind

module _ {V W F : Type 0} (q : Sense V W F) (k : ℕ) (es : List (Exchange F)) (s t : State V W) where
  after_begin : Run q k s (begins ∷ es) t → Run q k (with_round s (begin q s.plan.draft (reading_of s 0) s.round)) es t
  after_begin (u, (Ok _, e, (_, is)), more) = subst (λ x. Run q k x es t) is more
  after_begin (u, (Err v, e, _), more) = absurd (true≢false (ap accepted e))

  after_load : (i : ℕ) (kind : Kind) → Run q k s (loads i kind ∷ es) t → (kind ≡ kind_of (next (waiting_for s.round i))) × Run q k (loaded s i) es t
  unfolding kind_in
  after_load i kind (u, (Ok x, e, (_, x-is, is)), more) = (ap (kind_in kind) e ∙ x-is, subst (λ y. Run q k y es t) is more)
  after_load i kind (u, (Err v, e, _), more) = absurd (true≢false (ap accepted e))

  after_refusal : (i : ℕ) (fault : Fault) → Run q k s (refuses i fault ∷ es) t → Run q k s es t
  after_refusal i fault (u, (Ok x, e, _), more) = absurd (false≢true (ap accepted e))
  after_refusal i fault (u, (Err v, e, (_, is)), more) = subst (λ y. Run q k y es t) is more

  -- the message that is handed over is one of those on the line, of that kind
  after_hand_over : (i : ℕ) (kind : Kind) (h : ℕ) → Run q k s (hands i kind h ∷ es) t → (before : List (Message W)) × (x : Message W) × (after : List (Message W)) × (on s i ≡ before ++ (x ∷ after)) × (kind ≡ kind_of x) × Run q k (handed q s i x (before ++ after)) es t
  unfolding kind_given
  after_hand_over i kind h (u, (Ok d, e, (_, (before, x, after, is-on, d-is, is))), more) =
      (before, x, after, is-on, ap (λ y. kind_given kind (delivery y)) e ∙ ap (λ y. y.kind) d-is, subst (λ y. Run q k y es t) is more)
  after_hand_over i kind h (u, (Err v, e, _), more) = absurd (true≢false (ap accepted e))

-- WHAT CAN BE PICKED from a line with one message, and as a response from one with a request and a response

first : {A : Type 0} → A → List A → A
first x [] = x
first x (y ∷ ys) = y

others : {A : Type 0} → List A → List A
others [] = []
others (x ∷ xs) = xs

module _ {W : Type 0} where
  pick_only : (m : Message W) (before : List (Message W)) (x : Message W) (after : List (Message W)) → m ∷ [] ≡ before ++ (x ∷ after) → (x ≡ m) × (before ++ after ≡ [])
  unfolding first others
  pick_only m [] x after e = (sym (ap (first m) e), sym (ap others e))
  pick_only m (y ∷ []) x after e = absurd (let z : ◌≡◌ {A = ℕ} _ _ = ap length e in omega (arith, z))
  pick_only m (y ∷ z ∷ ys) x after e = absurd (let z : ◌≡◌ {A = ℕ} _ _ = ap length e in omega (arith, z))

  pick_response : (w : W) (before : List (Message W)) (x : Message W) (after : List (Message W)) → Message.Request ∷ Message.Response w ∷ [] ≡ before ++ (x ∷ after) → Kind.Response ≡ kind_of x → (x ≡ Message.Response w) × (before ++ after ≡ Message.Request ∷ [])
  unfolding first others
  pick_response w [] x after e kind = absurd (let z : ◌≡◌ {A = ℕ} 2 1 = ap kind_number (kind ∙ ap kind_of (sym (ap (first x) e))) in omega (arith, z))
  pick_response w (y ∷ before) x after e kind =
      let rest = pick_only (Message.Response w) before x after (ap others e) in
      (rest.0, λ i. sym (ap (first y) e) i ∷ rest.1 i)

-- THE RUNS OF THE RING

module _ {V W F : Type 0} (q : Sense V W F) (laws : Laws V W F q) where
  abbrev called_one : State V W
  called_one =
      let s₀ = just_made q ring in
      let s₁ = with_round s₀ (begin q ring_draft (reading_of s₀ 0) s₀.round) in
      handed q (loaded s₁ 0) 0 Message.Request []

  abbrev word_one : W
  word_one = q.word (q.join q.nothing (q.given 1 blank_reading))

  abbrev overtaken : State V W
  overtaken = handed q (loaded (loaded called_one 1) 1) 1 (Message.Response word_one) (Message.Request ∷ [])

  opens : (k : ℕ) (es : List (Exchange F)) (t : State V W) → 1 ≤ k → Run q k called_one es t → Reached q k ring (opening ++ es) t
  opens k es t some more =
      let s₀ = just_made q ring in
      let s₁ = with_round s₀ (begin q ring_draft (reading_of s₀ 0) s₀.round) in
      (s₁, (Ok tt, refl, (refl, refl)), (loaded s₁ 0, (Ok Kind.Request, refl, (cond-true (ltb 0 k) None (Some (fault_at LineFull 0)) (lt-ltb 0 k some), refl, refl)), (called_one, (Ok (record { kind = Kind.Request; house = 1 }), refl, (refl, ([], Message.Request, [], refl, refl, refl))), more)))

  opened : (k : ℕ) (es : List (Exchange F)) (t : State V W) → Reached q k ring (opening ++ es) t → Run q k called_one es t
  opened k es t run =
      let s₀ = just_made q ring in
      let s₁ = with_round s₀ (begin q ring_draft (reading_of s₀ 0) s₀.round) in
      let loading = after_begin q k (loads 0 Kind.Request ∷ hands 0 Kind.Request 1 ∷ es) s₀ t run in
      let handing = (after_load q k (hands 0 Kind.Request 1 ∷ es) s₁ t 0 Kind.Request loading).1 in
      let arrived = after_hand_over q k es (loaded s₁ 0) t 0 Kind.Request 1 handing in
      let picked = pick_only Message.Request arrived.0 arrived.1 arrived.2 arrived.3 in
      subst (λ x. Run q k x es t) {x = handed q (loaded s₁ 0) 0 arrived.1 (arrived.0 ++ arrived.2)} (λ i. handed q (loaded s₁ 0) 0 (picked.0 i) (picked.1 i)) arrived.5

  overtakes : (es : List (Exchange F)) (t : State V W) → Run q 2 overtaken es t → Reached q 2 ring (overtaking ++ es) t
  overtakes es t more =
      opens 2 (loads 1 Kind.Request ∷ loads 1 Kind.Response ∷ hands 1 Kind.Response 2 ∷ es) t (omega arith)
      (loaded called_one 1, (Ok Kind.Request, refl, (refl, refl, refl)), (loaded (loaded called_one 1) 1, (Ok Kind.Response, refl, (refl, refl, refl)), (overtaken, (Ok (record { kind = Kind.Response; house = 2 }), refl, (refl, (Message.Request ∷ [], Message.Response word_one, [], refl, refl, refl))), more)))

  overtook : (es : List (Exchange F)) (t : State V W) → Reached q 2 ring (overtaking ++ es) t → Run q 2 overtaken es t
  overtook es t run =
      let s₁ = loaded called_one 1 in
      let s₂ = loaded s₁ 1 in
      let start = opened 2 (loads 1 Kind.Request ∷ loads 1 Kind.Response ∷ hands 1 Kind.Response 2 ∷ es) t run in
      let loading = (after_load q 2 (loads 1 Kind.Response ∷ hands 1 Kind.Response 2 ∷ es) called_one t 1 Kind.Request start).1 in
      let handing = (after_load q 2 (hands 1 Kind.Response 2 ∷ es) s₁ t 1 Kind.Response loading).1 in
      let arrived = after_hand_over q 2 es s₂ t 1 Kind.Response 2 handing in
      let picked = pick_response word_one arrived.0 arrived.1 arrived.2 arrived.3 arrived.4 in
      subst (λ x. Run q 2 x es t) {x = handed q s₂ 1 arrived.1 (arrived.0 ++ arrived.2)} (λ i. handed q s₂ 1 (picked.0 i) (picked.1 i)) arrived.5

  -- the value of house 1, and as its word gives it back
  value_one : q.join q.nothing (value_of q word_one) ≡ q.given 1 blank_reading
  value_one =
      laws.unit (value_of q word_one)
      ∙ ap (λ x. unwrap_or x q.nothing) (laws.returned (q.join q.nothing (q.given 1 blank_reading)))
      ∙ laws.unit (q.given 1 blank_reading)

  early : EarlyResponseKept q ring
  early = (
    (overtaken, overtakes [] overtaken refl),
    λ s run. subst (λ x. standing q x.round 2 ≡ record { called = false; awaited = 0; holding = q.given 1 blank_reading }) (overtook [] s run) (λ i. record { called = false; awaited = 0; holding = value_one i }),
  )

  silent : UncalledHouseSilent q ring
  silent =
      let refused : Exchange F = refuses 2 (fault_at NothingWaits 2) in (
        (overtaken, overtakes (refused ∷ []) overtaken (overtaken, (Err (fault_at NothingWaits 2), refl, (refl, refl)), refl)),
        λ s run. subst (λ x. waiting_for x.round 2 ≡ none_waits) (after_refusal q 2 [] overtaken s 2 (fault_at NothingWaits 2) (overtook (refused ∷ []) s run)) refl,
      )

  ordered : RequestFirst q ring
  ordered =
      let loading : Exchange F = loads 1 Kind.Request in
      let refused : Exchange F = refuses 1 (fault_at LineFull 1) in
      let s₁ = loaded called_one 1 in
      let waits : Waiting W → Type 0 = λ x. x ≡ record { request = false; response = Some (q.word (q.given 1 blank_reading)) } in (
        (
          (s₁, opens 1 (loading ∷ refused ∷ []) s₁ (omega arith) (s₁, (Ok Kind.Request, refl, (refl, refl, refl)), (s₁, (Err (fault_at LineFull 1), refl, (refl, refl)), refl))),
          λ s run. subst (λ x. (on x 1 ≡ Message.Request ∷ []) × waits (waiting_for x.round 1)) (after_refusal q 1 [] s₁ s 1 (fault_at LineFull 1) (after_load q 1 (refused ∷ []) called_one s 1 Kind.Request (opened 1 (loading ∷ refused ∷ []) s run)).1) (refl, λ i. record { request = false; response = Some (q.word (laws.unit (q.given 1 blank_reading) i)) }),
        ),
        λ s run. let z : ◌≡◌ {A = ℕ} 2 1 = ap kind_number (after_load q 1 [] called_one s 1 Kind.Response (opened 1 (loads 1 Kind.Response ∷ []) s run)).0 in omega (arith, z),
      )

pub mistakes_excluded : (V W F : Type 0) → MistakesExcluded V W F
mistakes_excluded V W F = (ring, (refl, refl), λ q laws. (early q laws, silent q laws, ordered q laws))
