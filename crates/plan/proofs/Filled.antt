-- An array that a closure filled: where no call changes the closure, the element at each index is what a call there gives.
use Rattle.std.proofs.Common.{◌≡◌, ℕ, zero, suc, ◌+◌, ◌<◌, ◌≤◌, List, get_or, sym, refl, ◌∙◌, subst, ⊎_elim, arith}
use Rattle.std.proofs.lemmas.Bool.{cases_eq}
use Rattle.std.specs.Array.{IsFromFnResult, IsFromFnResultFrom}
use Rattle.std.specs.Fn.{Called}
use denote.Param.Members.{Mut}

module _ {F B : Type 0} (g : Mut F (ℕ × Unit {0}) B) (v : ℕ → B) (f : F) (gives : (i : ℕ) (r : B) (q : F) → Called g f (i, tt) r q → (r ≡ v i) × (q ≡ f)) where
  filled_from : (ys : List B) (d : B) (n i : ℕ) (p : F) → p ≡ f → IsFromFnResultFrom g p ys i n → (j : ℕ) → i ≤ j → j < i + n → get_or ys j d ≡ v j
  filled_from ys d zero i p e each j ge lt = absurd (omega arith)
  filled_from ys d (suc n) i p e (q, y, at, called, rest) j ge lt =
      let given = gives i y q (subst (λ x. Called g x (i, tt) y q) e called) in
      ⊎_elim
      (λ same. subst (λ k. get_or ys k d ≡ v k) (sym same) (at.1 d ∙ given.0))
      (λ ne. filled_from ys d n (i + 1) q given.1 rest j (omega arith) (omega arith))
      (cases_eq j i)

  pub filled : (ys : List B) (d : B) (n : ℕ) → IsFromFnResult g f ys n → (j : ℕ) → j < n → get_or ys j d ≡ v j
  filled ys d n made j lt = filled_from ys d n 0 f refl made.each j (omega arith) (omega arith)
