-- Exchanges that lead from one row to another keep the law of runs.
use Rattle.std.proofs.Common.{◌≡◌, ℕ, zero, suc, ◌+◌, ◌<◌, ◌≤◌, List, [], ◌∷◌, ◌++◌, length, get_or, take, set, sym, refl, ap, ◌∙◌, subst, arith}
use Rattle.std.proofs.lemmas.List.{take_more_set}
use Rattle.quantity.specs.declared.words.Word.{Word}
use Rattle.quantity.specs.Senses.{Laws, Sense}
use Rattle.carrier.specs.Meanings.{Meaning}
use Rattle.pulse.specs.declared.calls.Exchange.{Exchange}
use Rattle.pulse.specs.Law.{Reached}
use Rattle.pulse.specs.States.{State, just_made}
use Rattle.pulse.specs.Steps.{Run, Step}
use Rattle.pulse.proofs.Lawfulness.{run_plan, runs_lawful}
use Rattle.row.specs.declared.rows.Row.{Row}
use Rattle.row.specs.Rows.{state_of}
use Rattle.row.specs.Runs.{calls_of, capacity_of, KeepsLaw}

module _ {V W F : Type 0} (q : Sense V W F) (k : ℕ) where
  -- one run after another
  pub run_on : (xs ys : List (Exchange F)) (s u t : State V W) → Run q k s xs u → Run q k u ys t → Run q k s (xs ++ ys) t
  run_on [] ys s u t e run = subst (λ x. Run q k x ys t) (sym e) run
  run_on (x ∷ xs) ys s u t (v, step, on) run = (v, step, run_on xs ys v u t on run)

  -- one more exchange, stored in its place
  pub run_more : (es : List (Exchange F)) (i : ℕ) (e : Exchange F) (s u t : State V W) → i < length es → Run q k s (take i es) u → Step q k u e.call e.answer t → Run q k s (take (i + 1) (set es i e)) t
  run_more es i e s u t lt run step =
      subst (λ xs. Run q k s xs t) (sym (take_more_set es i e lt)) (run_on (take i es) (e ∷ []) s u t run (t, step, refl))

  pub one_step : (e : Exchange F) (s t : State V W) → Step q k s e.call e.answer t → Run q k s (e ∷ []) t
  one_step e s t step = (t, step, refl)

-- a place written with an exchange of the same call
pub same_calls : {F : Type 0} (es : List (Exchange F)) (i : ℕ) (e d : Exchange F) → i < length es → e.call ≡ (get_or es i d).call → calls_of (set es i e) ≡ calls_of es
same_calls [] i e d lt same = absurd (omega arith)
same_calls (x ∷ es) zero e d lt same = ap (λ y. y ∷ calls_of es) same
same_calls (x ∷ es) (suc i) e d lt same = ap (λ ys. x.call ∷ ys) (same_calls es i e d (omega arith) same)

pub keeps_law : {Q C V F : Type 0} (q : Sense V Word F) → Laws V Word F q → (meaning : C → Meaning Word) (r : Row Q C V F) (es : List (Exchange F)) (t : Row Q C V F) → Run q (capacity_of meaning r) (state_of meaning r) es (state_of meaning t) → capacity_of meaning t ≡ capacity_of meaning r → KeepsLaw q meaning r es t
keeps_law {V = V} {F = F} q laws meaning r es t run capacity before (cap, reached) =
    let p = r.plan in
    let k = p.draft.capacity in
    let some : 1 ≤ k = p.draft.size.3 in
    let on = subst (λ x. Run q x (state_of meaning r) es (state_of meaning t)) cap run in
    let whole = run_on q k before es (just_made q p) (state_of meaning r) (state_of meaning t) reached on in
    let plan_is : t.plan ≡ p = run_plan q k es (state_of meaning r) (state_of meaning t) on in (
      (capacity ∙ cap ∙ ap (λ x. x.draft.capacity) (sym plan_is), subst (λ x. Reached q x.draft.capacity x (before ++ es) (state_of meaning t)) (sym plan_is) whole),
      runs_lawful V Word F q laws k some p (before ++ es) (state_of meaning t) whole,
      λ xs ys u _ led. runs_lawful V Word F q laws k some p xs u led,
    )
