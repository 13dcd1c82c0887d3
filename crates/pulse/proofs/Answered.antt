-- Every call has an answer in every state.
use Rattle.std.proofs.Common.{◌≡◌, ℕ, ◌<◌, ltb, ◌⊎◌, List, [], ◌∷◌, length, Some, None, Ok, Err, Option, refl, ap, inl, inr, ⊎_elim, arith}
use Rattle.std.proofs.lemmas.Bool.{ltb-true}
use Rattle.fault.specs.declared.faults.Fault.{Fault}
use Rattle.quantity.specs.Senses.{Sense}
use Rattle.carrier.specs.declared.messages.Message.{Message}
use Rattle.carrier.specs.Messages.{kind_of}
use Rattle.pulse.specs.declared.calls.Answer.{Answer}
use Rattle.pulse.specs.declared.calls.Call.{Call}
use Rattle.pulse.specs.declared.calls.Delivery.{Delivery}
use Rattle.pulse.specs.Rounds.{begin, waiting_for}
use Rattle.pulse.specs.States.{State, on, reading_of}
use Rattle.pulse.specs.Steps.{AnyCallsRun, Step, begin_refusal, end_of, hand_over_refusal, handed, has_line, load_refusal, loaded, next, read_refusal, report, set_refusal, with_reading, with_round}
use Rattle.pulse.proofs.Invariants.{passes}

refused_or_not : (o : Option Fault) → (o ≡ None) ⊎ ((v : Fault) × (o ≡ Some v))
refused_or_not None = inl refl
refused_or_not (Some v) = inr (v, refl)

some_message : {A : Type 0} (xs : List A) → 0 < length xs → (x : A) × (ys : List A) × (xs ≡ x ∷ ys)
some_message [] l = absurd (omega arith)
some_message (x ∷ xs) l = (x, xs, refl)

module _ {V W F : Type 0} (q : Sense V W F) (k : ℕ) (s : State V W) where
  -- the oldest message of the line can be picked
  picks : (i : ℕ) → hand_over_refusal s i ≡ None → (x : Message W) × (after : List (Message W)) × (on s i ≡ x ∷ after)
  picks i free =
      let lined = (passes s.fit _ _ free).1 in
      let some = (passes (has_line s i) _ _ lined).1 in
      some_message (on s i) (ltb-true 0 (length (on s i)) (passes (ltb 0 (length (on s i))) _ _ some).0)

  answered : (c : Call) → (a : Answer F) × (t : State V W) × Step q k s c a t
  answered Call.Begin =
      ⊎_elim
      (λ free. (Answer.Begin (Ok tt), with_round s (begin q s.plan.draft (reading_of s 0) s.round), (Ok tt, refl, (free, refl))))
      (λ no_way. (Answer.Begin (Err no_way.0), s, (Err no_way.0, refl, (no_way.1, refl))))
      (refused_or_not (begin_refusal q s))
  answered (Call.Load i) =
      ⊎_elim
      (λ free. let kind = kind_of (next (waiting_for s.round i)) in (Answer.Load (Ok kind), loaded s i, (Ok kind, refl, (free, refl, refl))))
      (λ no_way. (Answer.Load (Err no_way.0), s, (Err no_way.0, refl, (no_way.1, refl))))
      (refused_or_not (load_refusal k s i))
  answered (Call.HandOver i) =
      ⊎_elim
      (λ free.
      let pick = picks i free in
      let d : Delivery = record { kind = kind_of pick.0; house = end_of s i } in
      (Answer.HandOver (Ok d), handed q s i pick.0 pick.1, (Ok d, refl, (free, ([], pick.0, pick.1, pick.2, refl, refl)))))
      (λ no_way. (Answer.HandOver (Err no_way.0), s, (Err no_way.0, refl, (no_way.1, refl))))
      (refused_or_not (hand_over_refusal s i))
  answered (Call.Set h x) =
      ⊎_elim
      (λ free. (Answer.Set (Ok tt), with_reading s h x, (Ok tt, refl, (free, refl))))
      (λ no_way. (Answer.Set (Err no_way.0), s, (Err no_way.0, refl, (no_way.1, refl))))
      (refused_or_not (set_refusal s h x))
  answered Call.Read =
      ⊎_elim
      (λ free. (Answer.Read (Ok (report q s)), s, (Ok (report q s), refl, (free, refl, refl))))
      (λ no_way. (Answer.Read (Err no_way.0), s, (Err no_way.0, refl, (no_way.1, refl))))
      (refused_or_not (read_refusal q s))

pub any_calls_run : (V W F : Type 0) → AnyCallsRun V W F
any_calls_run V W F q k s [] = ([], s, refl, refl)
any_calls_run V W F q k s (c ∷ cs) =
    let first = answered {F = F} q k s c in
    let more = any_calls_run V W F q k first.1 cs in
    (record { call = c; answer = first.0 } ∷ more.0, more.1, ap (◌∷◌ c) more.2, (first.1, first.2, more.3))
