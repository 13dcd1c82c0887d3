-- A just made row whose carrier fits is where every run starts.
use Rattle.std.proofs.Common.{◌≡◌, ℕ, ◌<◌, Bool, true, List, [], length, get_or, replicate, MatchBool, sym, ap, ◌∙◌, arith}
use lib.ListN.{length-replicate}
use Rattle.std.proofs.lemmas.List.{get_or_default, get_or-replicate, same_lists}
use Rattle.std.proofs.lemmas.Bool.Decides.{when_true}
use Rattle.plan.specs.declared.plans.Plan.{Plan}
use Rattle.quantity.specs.declared.words.Word.{Word}
use Rattle.quantity.specs.Senses.{Sense}
use Rattle.carrier.specs.declared.messages.Message.{Message}
use Rattle.carrier.specs.Meanings.{Meaning}
use Rattle.pulse.specs.States.{just_made}
use Rattle.row.specs.Rows.{Fits, new_state}

empty_lists : (m : ℕ) (lists : List (List (Message Word))) → length lists ≡ m → ((i : ℕ) → i < length lists → get_or lists i [] ≡ []) → lists ≡ replicate m []
empty_lists m lists size none =
    same_lists lists (replicate m []) (size ∙ sym (length-replicate m []))
    (λ i d lt. get_or_default lists i d [] lt ∙ none i lt ∙ sym (get_or-replicate m i [] d (omega arith)))

pub started : {V F : Type 0} (q : Sense V Word F) (p : Plan) (b : Meaning Word) (fit : Bool) → MatchBool fit (Fits p b) (Fits p b → ⊥) → fit ≡ true → (b.capacity ≡ p.draft.capacity) × (just_made q p ≡ new_state q p fit b)
started q p b fit judged e =
    let fits = when_true (Fits p b) (Fits p b → ⊥) e judged in (
      fits.1,
      ap (λ x. new_state q p x record { capacity = b.capacity; lists = replicate p.draft.lines [] }) (sym e)
          ∙ ap (λ x. new_state q p fit record { capacity = b.capacity; lists = x }) (sym (empty_lists p.draft.lines b.lists fits.0 fits.2)),
    )
