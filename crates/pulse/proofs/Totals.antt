-- Totals over the numbers below n, in any commutative monoid, and sums of numbers.
use Rattle.std.proofs.Common.{◌≡◌, ℕ, zero, suc, ◌+◌, ◌<◌, ◌≤◌, Bool, true, false, cond, eqb, ◌≢◌, List, [], ◌∷◌, length, get_or, count_by, sym, refl, ap, ◌∙◌, subst, ⊎_elim, add_assoc, add_comm, zero-add, arith}
use Rattle.std.proofs.lemmas.List.Sums.{sum_by-cons}
use Rattle.std.proofs.lemmas.Bool.{cases_eq, cases_lt, cond-true, cond-false, eq-eqb, ne_eqb}
use Rattle.pulse.specs.Law.{total}

-- a commutative monoid
pub record Monoid (A : Type 0) (op : A → A → A) (e : A) : Type 0 where
  pub comm : (x y : A) → op x y ≡ op y x
  pub assoc : (x y z : A) → op (op x y) z ≡ op x (op y z)
  pub unit : (x : A) → op e x ≡ x

module _ {A : Type 0} (op : A → A → A) (e : A) (m : Monoid A op e) where
  pub left_comm : (x y z : A) → op x (op y z) ≡ op y (op x z)
  left_comm x y z = sym (m.assoc x y z) ∙ ap (λ u. op u z) (m.comm x y) ∙ m.assoc y x z

  pub right_unit : (x : A) → op x e ≡ x
  right_unit x = m.comm x e ∙ m.unit x

  pub total_same : (n : ℕ) (f g : ℕ → A) → ((i : ℕ) → i < n → f i ≡ g i) → total op e n f ≡ total op e n g
  total_same zero f g same = refl
  total_same (suc n) f g same =
      ap (λ x. op x (total op e n f)) (same n (omega arith))
      ∙ ap (op (g n)) (total_same n f g (λ i h. same i (omega arith)))

  -- where one part is more by x, so is the total
  pub total_more : (n : ℕ) (f g : ℕ → A) (i : ℕ) (x : A) → i < n → g i ≡ op x (f i) → ((j : ℕ) → j < n → j ≢ i → g j ≡ f j) → total op e n g ≡ op x (total op e n f)
  total_more zero f g i x lt more same = absurd (omega arith)
  total_more (suc n) f g i x lt more same =
      ⊎_elim
      (λ (here : i ≡ n).
      ap (λ y. op y (total op e n g)) (subst (λ k. g k ≡ op x (f k)) here more)
      ∙ ap (op (op x (f n))) (total_same n g f (λ j h. same j (omega arith) (λ z. omega arith)))
      ∙ m.assoc x (f n) (total op e n f))
      (λ ne.
      ap (λ y. op y (total op e n g)) (same n (omega arith) (λ z. ne (sym z)))
      ∙ ap (op (f n)) (total_more n f g i x (omega arith) more (λ j h. same j (omega arith)))
      ∙ left_comm (f n) x (total op e n f))
      (cases_eq i n)

  pub total_none : (n : ℕ) (f : ℕ → A) → ((i : ℕ) → i < n → f i ≡ e) → total op e n f ≡ e
  total_none zero f none = refl
  total_none (suc n) f none =
      ap (λ x. op x (total op e n f)) (none n (omega arith)) ∙ m.unit (total op e n f) ∙ total_none n f (λ i h. none i (omega arith))

  pub total_only : (n : ℕ) (f : ℕ → A) (i : ℕ) → i < n → ((j : ℕ) → j < n → j ≢ i → f j ≡ e) → total op e n f ≡ f i
  total_only n f i lt none =
      total_more n (λ _. e) f i (f i) lt (sym (right_unit (f i))) none
      ∙ ap (op (f i)) (total_none n (λ _. e) (λ j h. refl))
      ∙ right_unit (f i)

  pub total_both : (n : ℕ) (f g : ℕ → A) → total op e n (λ i. op (f i) (g i)) ≡ op (total op e n f) (total op e n g)
  total_both zero f g = sym (m.unit e)
  total_both (suc n) f g =
      ap (op (op (f n) (g n))) (total_both n f g)
      ∙ m.assoc (f n) (g n) (op (total op e n f) (total op e n g))
      ∙ ap (op (f n)) (left_comm (g n) (total op e n f) (total op e n g))
      ∙ sym (m.assoc (f n) (total op e n f) (op (g n) (total op e n g)))

  -- two totals in either order
  pub total_swap : (n k : ℕ) (f : ℕ → ℕ → A) → total op e n (λ i. total op e k (f i)) ≡ total op e k (λ j. total op e n (λ i. f i j))
  total_swap zero k f = sym (total_none k (λ _. e) (λ j h. refl))
  total_swap (suc n) k f = ap (op (total op e k (f n))) (total_swap n k f) ∙ sym (total_both k (f n) (λ j. total op e n (λ i. f i j)))

  -- the first part split off
  pub total_first : (n : ℕ) (f : ℕ → A) → total op e (suc n) f ≡ op (f 0) (total op e n (λ i. f (suc i)))
  total_first zero f = refl
  total_first (suc n) f = ap (op (f (suc n))) (total_first n f) ∙ left_comm (f (suc n)) (f 0) (total op e n (λ i. f (suc i)))

-- SUMS

abbrev pub sum : ℕ → (ℕ → ℕ) → ℕ
sum n f = total ◌+◌ 0 n f

pub adding : Monoid ℕ ◌+◌ 0
adding = record { comm = λ x y. add_comm x y; assoc = λ x y z. add_assoc x y z; unit = zero-add }

abbrev pub bit : Bool → ℕ
bit b = cond b 1 0

-- a number where the test holds, else 0
abbrev pub pick : Bool → ℕ → ℕ
pick b x = cond b x 0

pub pick_le : (b : Bool) (x y : ℕ) → x ≤ y → pick b x ≤ pick b y
pick_le true x y le = le
pick_le false x y le = omega arith

pub at_most : (n : ℕ) (f : ℕ → ℕ) → ((i : ℕ) → f i ≤ 1) → sum n f ≤ n
at_most zero f all = omega arith
at_most (suc n) f all = omega (arith, all n, at_most n f all)

pub sum_le : (n : ℕ) (f g : ℕ → ℕ) → ((i : ℕ) → i < n → f i ≤ g i) → sum n f ≤ sum n g
sum_le zero f g le = omega arith
sum_le (suc n) f g le = omega (arith, le n (omega arith), sum_le n f g (λ i h. le i (omega arith)))

-- parts that are no greater and have no smaller sum are equal
pub tight : (n : ℕ) (f g : ℕ → ℕ) → ((i : ℕ) → i < n → f i ≤ g i) → sum n g ≤ sum n f → (i : ℕ) → i < n → f i ≡ g i
tight zero f g le whole i lt = absurd (omega arith)
tight (suc n) f g le whole i lt =
    ⊎_elim
    (λ (here : i ≡ n). subst (λ k. f k ≡ g k) (sym here) (omega (arith, le n (omega arith), sum_le n f g (λ j h. le j (omega arith)))))
    (λ ne. tight n f g (λ j h. le j (omega arith)) (omega (arith, le n (omega arith))) i (omega arith))
    (cases_eq i n)

pub sum_less : (n : ℕ) (f g : ℕ → ℕ) (i : ℕ) → i < n → ((j : ℕ) → j < n → f j ≤ g j) → f i < g i → sum n f < sum n g
sum_less n f g i lt le less =
    ⊎_elim (λ h. h) (λ h. absurd (omega (arith, less, tight n f g le h i lt))) (cases_lt (sum n f) (sum n g))

-- parts gathered by a number below n that each has
pub regroup : (n m : ℕ) (at x : ℕ → ℕ) → ((i : ℕ) → i < m → at i < n) → sum n (λ h. sum m (λ i. pick (eqb (at i) h) (x i))) ≡ sum m x
regroup n m at x within =
    total_swap ◌+◌ 0 adding n m (λ h i. pick (eqb (at i) h) (x i))
    ∙ total_same ◌+◌ 0 adding m (λ i. sum n (λ h. pick (eqb (at i) h) (x i))) x
    (λ i h. total_only ◌+◌ 0 adding n (λ j. pick (eqb (at i) j) (x i)) (at i) (within i h) (λ j l ne. cond-false (eqb (at i) j) (x i) 0 (ne_eqb (at i) j (λ z. ne (sym z))))
    ∙ cond-true (eqb (at i) (at i)) (x i) 0 (eq-eqb (at i) (at i) refl))

-- a count of a list's elements, as a sum over its places
pub counted_by : {X : Type 0} (p : X → Bool) (d : X) (xs : List X) → count_by p xs ≡ sum (length xs) (λ i. bit (p (get_or xs i d)))
counted_by p d [] = refl
counted_by p d (x ∷ xs) =
    sum_by-cons (λ y. cond (p y) 1 0) x xs
    ∙ ap (λ k. bit (p x) + k) (counted_by p d xs)
    ∙ sym (total_first ◌+◌ 0 adding (length xs) (λ i. bit (p (get_or (x ∷ xs) i d))))
