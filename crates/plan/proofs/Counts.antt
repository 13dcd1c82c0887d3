-- A count of the elements that pass a test: it is a fold that adds one for each, and where it is at most one, the element
-- is the only one.
use Rattle.std.proofs.Common.{◌≡◌, ℕ, zero, suc, ◌+◌, ◌%◌, ◌^◌, ◌<◌, ◌≤◌, Bool, true, false, not, cond, fold, List, [], ◌∷◌, length, get_or, count_by, Some, None, refl, ap, ◌∙◌, ⊎_elim, arith}
use Rattle.std.proofs.lemmas.List.Sums.{get_or-le-sum_by, prefix_len_passes, sum_by-cons}
use Rattle.std.specs.List.{position, position_or_len}
use Rattle.std.proofs.lemmas.Bool.{cases_Bool, cases_lt, cond_both, cond-true, cond-false, lt-ltb, not-true}

pub untrue : (b : Bool) → (b ≡ true → ⊥) → b ≡ false
untrue true no_way = absurd (no_way refl)
untrue false no_way = refl

-- the fold adds modulo 2^64, which the count does not reach
pub folded : {X : Type 0} (p : X → Bool) (n : ℕ) (xs : List X) → n + length xs < 2 ^ 64 → fold (λ k x. cond (p x) ((k + 1) % 2 ^ 64) k) n xs ≡ n + count_by p xs
folded p n [] few = omega arith
folded p n (x ∷ xs) few =
    let one : cond (p x) 1 0 ≤ 1 = cond_both (p x) 1 0 (λ k. k ≤ 1) (λ _. omega arith) (λ _. omega arith) in
    let once : cond (p x) ((n + 1) % 2 ^ 64) n ≡ n + cond (p x) 1 0 =
    elim (p x) as (λ b. cond b ((n + 1) % 2 ^ 64) n ≡ n + cond b 1 0) [
      | true ↦ omega arith
      | false ↦ omega arith
    ] in
    let rest : fold (λ k y. cond (p y) ((k + 1) % 2 ^ 64) k) (n + cond (p x) 1 0) xs ≡ n + cond (p x) 1 0 + count_by p xs = folded p (n + cond (p x) 1 0) xs (omega arith) in
    ap (λ k. fold (λ k y. cond (p y) ((k + 1) % 2 ^ 64) k) k xs) once ∙ omega (arith, rest, sum_by-cons (λ y. cond (p y) 1 0) x xs)

module _ {X : Type 0} (p : X → Bool) (d : X) where
  pub counted : (xs : List X) (i : ℕ) → i < length xs → p (get_or xs i d) ≡ true → 1 ≤ count_by p xs
  counted xs i h e =
      let one : ◌≡◌ {A = ℕ} (cond (p (get_or xs i d)) 1 0) 1 = cond-true (p (get_or xs i d)) 1 0 e in
      omega (arith, one, get_or-le-sum_by (λ x. cond (p x) 1 0) xs i d h)

  pub sole : (xs : List X) (i j : ℕ) → count_by p xs ≤ 1 → i < length xs → j < length xs → p (get_or xs i d) ≡ true → p (get_or xs j d) ≡ true → i ≡ j
  sole [] i j few hi hj pi pj = omega arith
  sole (x ∷ xs) zero zero few hi hj pi pj = refl
  sole (x ∷ xs) zero (suc j) few hi hj pi pj =
      let one : ◌≡◌ {A = ℕ} (cond (p x) 1 0) 1 = cond-true (p x) 1 0 pi in
      omega (arith, one, sum_by-cons (λ y. cond (p y) 1 0) x xs, counted xs j (omega arith) pj)
  sole (x ∷ xs) (suc i) zero few hi hj pi pj =
      let one : ◌≡◌ {A = ℕ} (cond (p x) 1 0) 1 = cond-true (p x) 1 0 pj in
      omega (arith, one, sum_by-cons (λ y. cond (p y) 1 0) x xs, counted xs i (omega arith) pi)
  sole (x ∷ xs) (suc i) (suc j) few hi hj pi pj =
      let fewer : count_by p xs ≤ 1 = omega (arith, sum_by-cons (λ y. cond (p y) 1 0) x xs) in
      ap suc (sole xs i j fewer (omega arith) (omega arith) pi pj)

  pub none_counted : (xs : List X) → ((i : ℕ) → i < length xs → p (get_or xs i d) ≡ true → ⊥) → count_by p xs ≡ 0
  none_counted [] none = refl
  none_counted (x ∷ xs) none =
      let off : ◌≡◌ {A = ℕ} (cond (p x) 1 0) 0 = cond-false (p x) 1 0 (untrue (p x) (none 0 (omega arith))) in
      omega (arith, off, sum_by-cons (λ y. cond (p y) 1 0) x xs, none_counted xs (λ i h. none (suc i) (omega arith)))

  -- where no element is found, none is counted
  pub none_found : (xs : List X) → position p xs ≡ None → count_by p xs ≡ 0
  none_found xs none =
      ⊎_elim
      (λ lt. let found : position p xs ≡ Some (position_or_len p xs) = cond-true _ _ _ (lt-ltb (position_or_len p xs) (length xs) lt) in absurd cc)
      (λ ge. none_counted xs (λ i h here. let fails : p (get_or xs i d) ≡ false = not-true (p (get_or xs i d)) (prefix_len_passes (λ x. not (p x)) xs i d (omega arith)) in cc))
      (cases_lt (position_or_len p xs) (length xs))

  pub one_counted : (xs : List X) → ((i j : ℕ) → i < length xs → j < length xs → p (get_or xs i d) ≡ true → p (get_or xs j d) ≡ true → i ≡ j) → count_by p xs ≤ 1
  one_counted [] one = omega arith
  one_counted (x ∷ xs) one = ⊎_elim (λ e. first e) (λ e. later e (one_counted xs (λ i j hi hj pi pj. let s : suc i ≡ suc j = one (suc i) (suc j) (omega arith) (omega arith) pi pj in omega arith))) (cases_Bool (p x))
    where
      first : p x ≡ true → count_by p (x ∷ xs) ≤ 1
      first e =
          let on : ◌≡◌ {A = ℕ} (cond (p x) 1 0) 1 = cond-true (p x) 1 0 e in
          omega (arith, on, sum_by-cons (λ y. cond (p y) 1 0) x xs, none_counted xs (λ i h pi. let s : 0 ≡ suc i = one 0 (suc i) (omega arith) (omega arith) e pi in omega arith))

      later : p x ≡ false → count_by p xs ≤ 1 → count_by p (x ∷ xs) ≤ 1
      later e few =
          let off : ◌≡◌ {A = ℕ} (cond (p x) 1 0) 0 = cond-false (p x) 1 0 e in
          omega (arith, off, sum_by-cons (λ y. cond (p y) 1 0) x xs)
