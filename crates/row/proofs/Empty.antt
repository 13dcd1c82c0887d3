-- Lines that were looked at one after the other, and the messages on them.
use Rattle.std.proofs.Common.{◌≡◌, ℕ, ◌<◌, Bool, true, false, ◌≢◌, length, MatchBool, ap, ◌∙◌, subst, zero-add, arith}
use Rattle.std.specs.List.{AllWithin, HoldsAt, range_with_len}
use Rattle.std.proofs.lemmas.List.{nil_from_length}
use Rattle.std.proofs.lemmas.List.FromFn.{get_or-range_with_len, length-range_with_len}
use Rattle.quantity.specs.declared.words.Word.{Word}
use Rattle.carrier.specs.Meanings.{Meaning, on}
use Rattle.row.specs.Rows.{AllEmpty}

module _ (b : Meaning Word) where
  abbrev None_on : ℕ → Type 0
  None_on i = length (on b i) ≡ 0

  abbrev Some_on : ℕ → Type 0
  Some_on i = length (on b i) ≢ 0

  pub all_empty : (n : ℕ) (r : Bool) → n ≡ length b.lists → MatchBool r (AllWithin None_on (range_with_len 0 n) 0 (length (range_with_len 0 n))) ((k : ℕ) × (k < length (range_with_len 0 n)) × HoldsAt Some_on (range_with_len 0 n) k) → MatchBool r (AllEmpty b) (AllEmpty b → ⊥)
  all_empty n true size none = λ i lt.
      let within : i < n = omega arith in
      let k : i < length (range_with_len 0 n) = omega (arith, length-range_with_len 0 n) in
      nil_from_length (on b i) (subst None_on (get_or-range_with_len 0 n i 0 within ∙ zero-add i) (none i 0 (omega arith) k))
  all_empty n false size (k, lt, some) = λ empty.
      let within : k < n = omega (arith, length-range_with_len 0 n) in
      subst Some_on (get_or-range_with_len 0 n k 0 within ∙ zero-add k) (some 0) (ap length (empty k (omega arith)))
