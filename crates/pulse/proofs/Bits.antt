-- Tests as numbers: how the accounts of a line change, case by case.
use Rattle.std.proofs.Common.{◌≡◌, ℕ, ◌+◌, ◌≤◌, Bool, true, false, cond, ◌&&◌, eqb, ◌≢◌, is_some, Some, None, Option, sym, refl, ap, ◌∙◌, subst, ⊎_elim, arith}
use Rattle.std.proofs.lemmas.Bool.{cases_eq, cond-true, cond-false, eq-eqb, ne_eqb}
use Rattle.std.proofs.lemmas.Bool.Decides.{nat_tests}
use Rattle.pulse.specs.Traces.{at}
use Rattle.pulse.proofs.Totals.{bit}

pub at_same : {A : Type 0} (f : ℕ → A) (i : ℕ) (x : A) → at f i x i ≡ x
at_same f i x = cond-true (eqb i i) x (f i) (eq-eqb i i refl)

pub at_other : {A : Type 0} (f : ℕ → A) (i : ℕ) (x : A) (j : ℕ) → j ≢ i → at f i x j ≡ f j
at_other f i x j ne = cond-false (eqb j i) x (f j) (ne_eqb j i ne)

-- a change that a function does not see
pub at_alike : {A B : Type 0} (g : A → B) (f : ℕ → A) (i : ℕ) (x : A) → g x ≡ g (f i) → (j : ℕ) → g (at f i x j) ≡ g (f j)
at_alike g f i x same j =
    ⊎_elim
    (λ (e : j ≡ i). subst (λ k. g (at f i x k) ≡ g (f k)) (sym e) (ap g (at_same f i x) ∙ same))
    (λ ne. ap g (at_other f i x j ne))
    (cases_eq j i)

pub no_bit : (b : Bool) → bit b ≡ 0 → b ≡ false
no_bit b e = grind (arith, nat_tests)

pub off : (x y : Bool) → y ≡ false → bit (x && y) ≡ 0
off x y e = grind (arith, nat_tests)

pub few_bit : (b : Bool) → bit b ≤ 1
few_bit b = grind (arith, nat_tests)

pub bit_left : (x y : Bool) → bit (x && y) ≤ bit x
bit_left x y = grind (arith, nat_tests)

pub none_there : {W : Type 0} (o : Option W) → bit (is_some o) ≡ 0 → o ≡ None
none_there o e = grind (arith, nat_tests)

-- a request on a direct line: its start was called, its end was not, and it is the only one
pub one_request : (d end start : Bool) (k r : ℕ) → bit (d && end) + ((1 + k) + r) ≡ bit (d && start) → (d ≡ true) × (end ≡ false) × (start ≡ true) × (k ≡ 0) × (r ≡ 0)
one_request d end start k r e = grind (arith, nat_tests)

-- a response on a back line: its start has sent it, and it is the only one
pub one_response : (b start : Bool) (k r x : ℕ) → ((1 + k) + r) + x ≡ bit (b && start) → (b ≡ true) × (start ≡ true) × (k ≡ 0) × (r ≡ 0) × (x ≡ 0)
one_response b start k r x e = grind (arith, nat_tests)

-- a line's requests once a house was called: it lies at the end where `at-end`, at the start where `at-start`
pub requests_other : (d end start r at-end at-start : Bool) (k : ℕ) → bit (d && end) + (k + bit r) ≡ bit (d && start) → (d ≡ true → at-end ≡ false) → (at-start ≡ true → start ≡ false) → bit (d && cond at-end true end) + (k + bit (cond (d && at-start) true r)) ≡ bit (d && cond at-start true start)
requests_other d end start r at-end at-start k e sole new = grind (arith, nat_tests)

pub requests_here : (d end start r at-end at-start : Bool) (k : ℕ) → d ≡ true → start ≡ true → k ≡ 0 → bit r ≡ 0 → at-end ≡ true → at-start ≡ false → bit (d && cond at-end true end) + (k + bit (cond (d && at-start) true r)) ≡ bit (d && cond at-start true start)
requests_here d end start r at-end at-start k is-d is-start is-k is-r is-end is-away =
    rw (is-d, is-end, is-away, is-start) (omega arith)

-- a line's loads once a house was called
pub loads_called : (d start r at-start : Bool) (l k x y z : ℕ) → x + (k + bit r) ≡ bit (d && start) → (at-start ≡ true → start ≡ false) → l + (bit r + y) ≡ bit (d && start) + z → l + (bit (cond (d && at-start) true r) + y) ≡ bit (d && cond at-start true start) + z
loads_called d start r at-start l k x y z e new h = grind (arith, nat_tests)

-- a line's responses once a house has sent its own
pub responses_sent : {W : Type 0} (b start at-start : Bool) (o : Option W) (w : W) (k x : ℕ) → (k + bit (is_some o)) + x ≡ bit (b && start) → (at-start ≡ true → start ≡ false) → (k + bit (is_some (cond (b && at-start) (Some w) o))) + x ≡ bit (b && cond at-start true start)
responses_sent b start at-start o w k x e new = grind (arith, nat_tests)

pub loads_sent : {W : Type 0} (b start at-start : Bool) (o : Option W) (w : W) (l k x y z : ℕ) → (k + bit (is_some o)) + x ≡ bit (b && start) → (at-start ≡ true → start ≡ false) → l + (y + bit (is_some o)) ≡ z + bit (b && start) → l + (y + bit (is_some (cond (b && at-start) (Some w) o))) ≡ z + bit (b && cond at-start true start)
loads_sent b start at-start o w l k x y z e new h = grind (arith, nat_tests)
