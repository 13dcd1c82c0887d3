-- Depths below the number of houses: where every house of positive depth has one that is one less deep, every depth is
-- below n. The houses of depth below k are counted, and each level adds one.
use Rattle.std.proofs.Common.{◌≡◌, ℕ, zero, suc, ◌+◌, ◌-◌, ◌<◌, ◌≤◌, Bool, true, false, cond, ltb, refl, ◌∙◌, subst, ⊎_elim, add-zero, arith}
use Rattle.std.proofs.lemmas.Bool.{cases_eq, cond-true, cond-false, false≢true, le-ltb, lt-ltb, ltb-true}

-- how many numbers below n pass the test
tally : (ℕ → Bool) → ℕ → ℕ
tally f zero = 0
tally f (suc n) = tally f n + cond (f n) 1 0

one_at_most : (b : Bool) → cond b 1 0 ≤ 1
one_at_most true = omega arith
one_at_most false = omega arith

tally_within : (f : ℕ → Bool) (n : ℕ) → tally f n ≤ n
unfolding tally
tally_within f zero = omega arith
tally_within f (suc n) = omega (arith, tally_within f n, one_at_most (f n))

implied : (a b : Bool) → (a ≡ true → b ≡ true) → cond a 1 0 ≤ cond b 1 0
implied true true h = omega arith
implied true false h = absurd (false≢true (h refl))
implied false b h = omega arith

tally_le : (f g : ℕ → Bool) (n : ℕ) → ((k : ℕ) → k < n → f k ≡ true → g k ≡ true) → tally f n ≤ tally g n
unfolding tally
tally_le f g zero h = omega arith
tally_le f g (suc n) h = omega (arith, tally_le f g n (λ k lt. h k (omega arith)), implied (f n) (g n) (h n (omega arith)))

tally_more : (f g : ℕ → Bool) (n k : ℕ) → ((j : ℕ) → j < n → f j ≡ true → g j ≡ true) → k < n → f k ≡ false → g k ≡ true → tally f n + 1 ≤ tally g n
unfolding tally
tally_more f g zero k h lt no-f yes-g = absurd (omega arith)
tally_more f g (suc n) k h lt no-f yes-g =
    ⊎_elim
    (λ e.
    let off : ◌≡◌ {A = ℕ} (cond (f n) 1 0) 0 = cond-false (f n) 1 0 (subst (λ m. f m ≡ false) e no-f) in
    let on : ◌≡◌ {A = ℕ} (cond (g n) 1 0) 1 = cond-true (g n) 1 0 (subst (λ m. g m ≡ true) e yes-g) in
    omega (arith, off, on, tally_le f g n (λ j l. h j (omega arith))))
    (λ ne. omega (arith, tally_more f g n k (λ j l. h j (omega arith)) (omega arith) no-f yes-g, implied (f n) (g n) (h n (omega arith))))
    (cases_eq k n)

module _ (n : ℕ) (depth : ℕ → ℕ) (down : (h : ℕ) → h < n → (k : ℕ) → depth h ≡ suc k → (g : ℕ) × (g < n) × (depth g ≡ k)) where
  level : (j : ℕ) (h : ℕ) → h < n → (k : ℕ) → depth h ≡ k + j → (g : ℕ) × (g < n) × (depth g ≡ k)
  level zero h lt k e = (h, lt, e ∙ add-zero k)
  level (suc j) h lt k e =
      let above : depth h ≡ suc (k + j) = omega arith in
      let next = down h lt (k + j) above in
      level j next.0 next.1 k next.2

  filled : (h : ℕ) → h < n → (k : ℕ) → k ≤ suc (depth h) → k ≤ tally (λ g. ltb (depth g) k) n
  filled h lt zero le = omega arith
  filled h lt (suc k) le =
      let deep : depth h ≡ k + (depth h - k) = omega arith in
      let here = level (depth h - k) h lt k deep in
      let at : depth here.0 ≡ k = here.2 in
      omega (
        arith,
        filled h lt k (omega arith),
        tally_more (λ g. ltb (depth g) k) (λ g. ltb (depth g) (suc k)) n here.0
            (λ j _ below. lt-ltb (depth j) (suc k) (omega (arith, ltb-true (depth j) k below)))
            here.1
            (le-ltb (depth here.0) k (omega arith))
            (lt-ltb (depth here.0) (suc k) (omega arith)),
      )

  pub shallow : (h : ℕ) → h < n → depth h < n
  shallow h lt = omega (arith, filled h lt (suc (depth h)) (omega arith), tally_within (λ g. ltb (depth g) (suc (depth h))) n)
