-- What is done to a table, told of the meaning.
use Rattle.std.proofs.Common.{◌≡◌, ℕ, ◌*◌, ◌<◌, ◌≤◌, List, [], ◌∷◌, ◌++◌, length, get_or, set, Some, None, Ok, Err, Option, Result, sym, refl, ap, ◌∙◌, inl, inr, arith}
use borrow.Rule.Slice.PartMut.{put_mid, mid_of, put_same}
use Rattle.std.specs.Option.{ok_or}
use Rattle.std.proofs.lemmas.List.{get_or-set_same}
use Rattle.fault.specs.declared.causes.Cause.TheVariants.{LineFull, LineEmpty}
use Rattle.fault.specs.declared.faults.Fault.{Fault}
use Rattle.quantity.specs.declared.words.Word.{Word}
use Rattle.carrier.specs.declared.messages.Message.{Message}
use Rattle.carrier.specs.Makes.{Order, pick, Picks}
use Rattle.carrier.specs.Meanings.{Meaning, on, refusal_at, HasNoLine, PutAnswer, TakeAnswer, Picked}
use Rattle.carrier.specs.Picks.{pick_without}
use Rattle.carrier.specs.Places.{held, lists_of, TakenOut}
use Rattle.carrier.proofs.Lists.{length_lists, list_on, held_part, lists_written}

-- the meaning of m lines of capacity k with a table
abbrev pub meant : ℕ → ℕ → List (Option (Message Word)) → Meaning Word
meant k m ps = record { capacity = k; lists = lists_of m ps }

-- A LINE THAT IS NOT THERE

pub put_unknown :
    (k m : ℕ) (ps : List (Option (Message Word))) (i : ℕ) (x : Message Word) (v : Fault) → HasNoLine m i v →
    PutAnswer (meant k m ps) i x (Err v) (meant k m ps)
put_unknown k m ps i x v r = (inl (omega (arith, length_lists m ps, r.0), r.1), refl)

pub take_unknown :
    (k m : ℕ) (ps : List (Option (Message Word))) (i : ℕ) (v : Fault) → HasNoLine m i v →
    TakeAnswer (meant k m ps) i (Err v) (meant k m ps)
take_unknown k m ps i v r = (inl (omega (arith, length_lists m ps, r.0), r.1), refl)

-- A LINE WHOSE PLACES ARE THE n FROM PLACE a ON

module _ (k m : ℕ) (ps : List (Option (Message Word))) (i a n : ℕ) (start : a ≡ 4 * i) (four : n ≡ 4) (here : i < m) where
  on_part : on (meant k m ps) i ≡ held (mid_of a n ps)
  on_part = list_on m ps i here ∙ sym (held_part ps i a n start four)

  pub put_full :
      (x : Message Word) (v : Fault) → k ≤ length (held (mid_of a n ps)) → v ≡ refusal_at LineFull i →
      PutAnswer (meant k m ps) i x (Err v) (meant k m (put_mid a n ps (mid_of a n ps)))
  put_full x v full e = (
    inr (omega (arith, length_lists m ps, here), omega (arith, ap length on_part, full), e),
    ap (meant k m) (put_same a n ps),
  )

  module _ (ys : List (Option (Message Word))) (within : a ≤ length ps) (length_ys : length ys ≡ 4) where
    written : lists_of m (put_mid a n ps ys) ≡ set (lists_of m ps) i (held ys)
    written = lists_written ps ys i a n start four within length_ys m

    pub put_accepted :
        (x : Message Word) → length (held (mid_of a n ps)) < k → held ys ≡ held (mid_of a n ps) ++ (x ∷ []) →
        PutAnswer (meant k m ps) i x (Ok tt) (meant k m (put_mid a n ps ys))
    put_accepted x room added = (
      omega (arith, length_lists m ps, here),
      omega (arith, ap length on_part, room),
      ap (λ (ls : List (List (Message Word))). record { capacity = k; lists = ls })
          (written ∙ ap (set (lists_of m ps) i) (added ∙ ap (λ xs. xs ++ (x ∷ [])) (sym on_part))),
    )

    pub take_answered :
        (f : Order Word) (r : Option (Message Word)) (v : Fault) → v ≡ refusal_at LineEmpty i → TakenOut f (mid_of a n ps) r ys →
        TakeAnswer (meant k m ps) i (ok_or r v) (meant k m (put_mid a n ps ys))
    take_answered f None v e out = (
      inr (omega (arith, length_lists m ps, here), on_part ∙ out.0, e),
      ap (meant k m) (ap (put_mid a n ps) out.1 ∙ put_same a n ps),
    )
    take_answered f (Some x) v e out = (
      omega (arith, length_lists m ps, here),
      (
        held ys,
        pick_without f (on (meant k m ps) i) x (held ys) (ap (pick f) on_part ∙ out),
        ap (λ (ls : List (List (Message Word))). record { capacity = k; lists = ls }) written,
      ),
    )

    pub take_picked :
        (f : Order Word) (r : Option (Message Word)) (v : Fault) → TakenOut f (mid_of a n ps) r ys →
        Picked (Picks f) (meant k m ps) i (ok_or r v) (meant k m (put_mid a n ps ys))
    take_picked f None v out = tt
    take_picked f (Some x) v out =
        let left : on (meant k m (put_mid a n ps ys)) i ≡ held ys =
        ap (λ ls. get_or ls i []) written ∙ get_or-set_same (lists_of m ps) i (held ys) [] (omega (arith, length_lists m ps, here)) in
        ap (pick f) on_part ∙ out ∙ ap (λ (rest : List (Message Word)). Some record { message = x; rest = rest }) (sym left)

-- what is picked, in other words
pub take_told :
    (P Q : List (Message Word) → Message Word → List (Message Word) → Type 0) →
    ((xs : List (Message Word)) (x : Message Word) (rest : List (Message Word)) → P xs x rest → Q xs x rest) →
    (b c : Meaning Word) (i : ℕ) (a : Result (Message Word) Fault) → Picked P b i a c → Picked Q b i a c
take_told P Q told b c i (Ok x) picked = told (on b i) x (on c i) picked
take_told P Q told b c i (Err v) picked = tt
