-- Joins, limits and the coil.
use Rattle.std.proofs.Common.{◌≡◌, ℕ, zero, suc, ◌<◌, true, cond, ◌&&◌, [], ◌∷◌, pos, None, Ok, Err, Result, sym, refl, ap, ◌∙◌, ap₂, inl, inr, arith}
use lib.Count.{ones}
use Rattle.std.proofs.lemmas.Bool.{false≢true, true≢false, lt-ltb}
use Rattle.fault.specs.declared.causes.Cause.TheVariants.{NoHouse, Unfit, WrongReading}
use Rattle.fault.specs.declared.faults.Fault.{Fault}
use Rattle.fault.specs.Layers.{fault_at}
use Rattle.quantity.specs.declared.readings.Reading.{Reading}
use Rattle.quantity.specs.declared.flags.Sets.{Sets}
use Rattle.quantity.specs.declared.words.Word.{Word}
use Rattle.quantity.specs.Counts.{Counted, Refused, Within}
use Rattle.quantity.specs.Flags.{flags_sense, no_sets, or_no_sets, sets}
use Rattle.quantity.specs.Readings.{in_limits}
use Rattle.quantity.specs.Senses.{Sense, Laws}
use Rattle.quantity.specs.Same.{same_total}
use Rattle.pulse.specs.States.{State}
use Rattle.pulse.specs.Steps.{check, set_refusal}
use Rattle.worked.specs.Examples.{eight_and_twelve, with_flags, with_probe, Only, LoadWraps, ColdestTie, FlagsOfTwo, ProbeLimit, FaultyProbeAlone}

-- JOINS

pub load_wraps : LoadWraps
load_wraps = same_total _ _ refl refl

pub coldest_tie : ColdestTie
coldest_tie = (refl, refl, refl)

abbrev twice : ℕ → Sets
twice x = or_no_sets (sets x x)

given_flags : (x h : ℕ) → h < 48 → in_limits (with_flags x) ≡ true → flags_sense.given h (with_flags x) ≡ twice x
given_flags x h lt within = ap₂ (λ a b. cond (a && b) (twice x) no_sets) (lt-ltb h 48 lt) within

pub flags_of_two : FlagsOfTwo
unfolding ones
flags_of_two g h g-lt h-lt =
    let e : eight_and_twelve g h ≡ flags_sense.join (twice 8) (twice 12) = ap₂ flags_sense.join (given_flags 8 g g-lt refl) (given_flags 12 h h-lt refl) in
    (ap flags_sense.figures e, ap (λ x. (flags_sense.word x).bits) e)

-- LIMITS

module _ {V : Type 0} (s : State V Word) (h : ℕ) (fit : s.fit ≡ true) (lt : h < s.plan.draft.houses) where
  set_by_limits : (r : Reading) → set_refusal s h r ≡ check (in_limits r) (fault_at WrongReading h) None
  set_by_limits r =
      ap₂ (λ f b. check f (fault_at Unfit 0) (check b (fault_at NoHouse h) (check (in_limits r) (fault_at WrongReading h) None))) fit
      (lt-ltb h s.plan.draft.houses lt)

within : Within (with_probe (pos 900) ∷ [])
within zero lt = refl
within (suc i) lt = absurd (omega arith)

module _ {V F : Type 0} (q : Sense V Word F) (laws : Laws V Word F q) where
  by_itself : (x : V) → q.join x q.nothing ≡ x
  by_itself x = laws.commutative x q.nothing ∙ laws.unit x

  same_figures : q.figures (q.join (q.given 0 (with_probe (pos 900))) q.nothing) ≡ q.figures (q.given 0 (with_probe (pos 900)))
  same_figures = ap q.figures (by_itself (q.given 0 (with_probe (pos 900))))

  taken : Only (Counted q (with_probe (pos 900) ∷ [])) (Ok (q.figures (q.given 0 (with_probe (pos 900)))))
  taken = (((omega arith, within), sym same_figures), no_other)
    where
      no_refusal : (e : Fault) → Refused (with_probe (pos 900) ∷ []) e → ⊥
      no_refusal e (inl (many, _)) = omega arith
      no_refusal e (inr (_, (lt, out, _), _)) = true≢false (sym (within e.place lt) ∙ out)

      no_other : (r : Result F Fault) → Counted q (with_probe (pos 900) ∷ []) r → r ≡ Ok (q.figures (q.given 0 (with_probe (pos 900))))
      no_other (Ok f) (_, e) = ap Ok (e ∙ same_figures)
      no_other (Err e) refused = absurd (no_refusal e refused)

  beyond : Only (Counted q (with_probe (pos 901) ∷ [])) (Err (fault_at WrongReading 0))
  beyond = (inr (omega arith, (omega arith, refl, λ j lt. absurd (omega arith)), refl), no_other)
    where
      at_0 : (e : Fault) → Refused (with_probe (pos 901) ∷ []) e → e ≡ fault_at WrongReading 0
      at_0 e (inl (many, _)) = absurd (omega arith)
      at_0 e (inr (_, (lt, _, _), is)) = let first : e.place ≡ 0 = omega arith in is ∙ ap (fault_at WrongReading) first

      no_other : (r : Result F Fault) → Counted q (with_probe (pos 901) ∷ []) r → r ≡ Err (fault_at WrongReading 0)
      no_other (Ok f) ((_, all), _) = absurd (false≢true (all 0 (omega arith)))
      no_other (Err e) refused = ap Err (at_0 e refused)

pub probe_limit : (V F : Type 0) → ProbeLimit V F
probe_limit V F = (
  (λ s h fit lt. (set_by_limits s h fit lt (with_probe (pos 900)), set_by_limits s h fit lt (with_probe (pos 901)))),
  (λ q laws. (taken q laws, beyond q laws)),
)

-- THE COIL

pub faulty_probe_alone : FaultyProbeAlone
faulty_probe_alone = refl
