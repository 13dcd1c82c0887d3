-- The file of a plan is never refused.
use Rattle.std.proofs.Common.{◌≡◌, ℕ, zero, suc, ◌+◌, ◌*◌, ◌<◌, ◌≤◌, List, length, get_or, drop, Ok, Err, Result, refl, ap, ◌∙◌, subst, inl, inr, arith}
use mathlib.Core.Logic.{∥∥₁_elim}
use std.HLevel.{⊥_prop}
use Rattle.fault.specs.declared.causes.Cause.{Cause}
use Rattle.fault.specs.declared.causes.Cause.TheVariants.{FileShort, WrongMark, WrongVersion, BeyondLimits, WrongLength, WrongRecord, DirectIn, DirectWay, BackOut, BackWay, WrongCounter, NoWayFromHead, NoWayToHead, BufferShort, Unfit, NoLine, NothingWaits, LineFull, LineEmpty, NoHouse, WrongReading, RoundOpen, NoRound, NoAnswer, ManyReadings, NoForm}
use Rattle.fault.specs.declared.faults.Fault.{Fault}
use Rattle.fault.specs.Numbers.{number}
use Rattle.plan.specs.declared.drafts.Draft.{Draft}
use Rattle.plan.specs.declared.plans.Plan.{Plan}
use Rattle.plan.specs.Files.{file_of, houses_in, lines_in, RightRecord, IsWrongRecord, FirstWrong, MisjudgedFile, Flaw, Refused}
use Rattle.plan.specs.Judged.{Breaks}
use Rattle.lines.specs.Lines.{blank}
use Rattle.plan.specs.Readers.{ReadPlan}
use Rattle.plan.proofs.Bytes.{lines_are, record_of_line, one_draft}
use Rattle.plan.proofs.Files.{file_length}
use Rattle.plan.proofs.Records.{right}
use Rattle.plan.proofs.Same.{same_plan}

not_both : (n a b c j : ℕ) → RightRecord n a b c → IsWrongRecord n a b c j → ⊥
not_both n a b c zero ok wrong = omega arith
not_both n a b c (suc zero) ok (_, inl past) = omega arith
not_both n a b c (suc zero) ok (_, inr same) = ok.2 same
not_both n a b c (suc (suc zero)) ok wrong = omega arith
not_both n a b c (suc (suc (suc j))) ok wrong = wrong

module _ (d : Draft) where
  sized : length (file_of d) ≡ 9 + (3 * lines_in (file_of d) + houses_in (file_of d))
  sized = file_length d ∙ omega (arith, lines_are d)

  no_wrong : (i j : ℕ) → FirstWrong (houses_in (file_of d)) (lines_in (file_of d)) (drop 9 (file_of d)) i j → ⊥
  no_wrong i j (lt, _, wrong) =
      let here : i < d.lines = omega (arith, lines_are d) in
      not_both d.houses _ _ _ j (right (drop 9 (file_of d)) d.houses (3 * i) (get_or d.records i blank) (record_of_line d i here) (d.form i here)) wrong

  wrong_mark : (p : ℕ) → Flaw WrongMark (file_of d) p → ⊥
  wrong_mark zero (_, _, differs, _) = differs refl
  wrong_mark (suc zero) (_, _, differs, _) = differs refl
  wrong_mark (suc (suc zero)) (_, _, differs, _) = differs refl
  wrong_mark (suc (suc (suc p))) (_, lt, _, _) = omega arith

  beyond_limits : (p : ℕ) → Flaw BeyondLimits (file_of d) p → ⊥
  beyond_limits p (_, inl (_, out)) = out (omega arith, omega arith)
  beyond_limits p (_, inr (inl (_, _, out))) = omega (arith, lines_are d)
  beyond_limits p (_, inr (inr (_, _, _, out))) = out (omega arith, omega arith)

never_misjudged : (p : Plan) (v : Fault) → MisjudgedFile (file_of p.draft) v → ⊥
never_misjudged p v (d, same, (q, _, breaks, _)) =
    let e : d ≡ p.draft = one_draft d p.draft same in
    let broken : Breaks q p.draft v.place = subst (λ x. Breaks q x v.place) e breaks in
    ∥∥₁_elim (p.right q v.place broken.0) ⊥_prop broken.1

-- the file of a draft is in form
formed : (d : Draft) (k : Cause) (at : ℕ) → number k ≤ 6 → Flaw k (file_of d) at → ⊥
formed d FileShort at low flaw = omega (arith, flaw.0)
formed d WrongMark at low flaw = wrong_mark d at flaw
formed d WrongVersion at low flaw = flaw.2 refl
formed d BeyondLimits at low flaw = beyond_limits d at flaw
formed d WrongLength at low flaw = flaw.2 (sized d)
formed d WrongRecord at low flaw = no_wrong d flaw.3.0 flaw.3.1 flaw.3.3
formed d DirectIn at low flaw = omega arith
formed d DirectWay at low flaw = omega arith
formed d BackOut at low flaw = omega arith
formed d BackWay at low flaw = omega arith
formed d WrongCounter at low flaw = omega arith
formed d NoWayFromHead at low flaw = omega arith
formed d NoWayToHead at low flaw = omega arith
formed d BufferShort at low flaw = omega arith
formed d Unfit at low flaw = omega arith
formed d NoLine at low flaw = omega arith
formed d NothingWaits at low flaw = omega arith
formed d LineFull at low flaw = omega arith
formed d LineEmpty at low flaw = omega arith
formed d NoHouse at low flaw = omega arith
formed d WrongReading at low flaw = omega arith
formed d RoundOpen at low flaw = omega arith
formed d NoRound at low flaw = omega arith
formed d NoAnswer at low flaw = omega arith
formed d ManyReadings at low flaw = omega arith
formed d NoForm at low flaw = omega arith

pub never_malformed : (d : Draft) (v : Fault) → number v.cause ≤ 6 → Refused (file_of d) v → ⊥
never_malformed d v low (_, flaw) = formed d v.cause v.place low flaw

never : (p : Plan) (k : Cause) (at : ℕ) → Flaw k (file_of p.draft) at → ⊥
never p FileShort at flaw = formed p.draft FileShort at (omega arith) flaw
never p WrongMark at flaw = formed p.draft WrongMark at (omega arith) flaw
never p WrongVersion at flaw = formed p.draft WrongVersion at (omega arith) flaw
never p BeyondLimits at flaw = formed p.draft BeyondLimits at (omega arith) flaw
never p WrongLength at flaw = formed p.draft WrongLength at (omega arith) flaw
never p WrongRecord at flaw = formed p.draft WrongRecord at (omega arith) flaw
never p DirectIn at flaw = never_misjudged p _ flaw
never p DirectWay at flaw = never_misjudged p _ flaw
never p BackOut at flaw = never_misjudged p _ flaw
never p BackWay at flaw = never_misjudged p _ flaw
never p WrongCounter at flaw = never_misjudged p _ flaw
never p NoWayFromHead at flaw = flaw
never p NoWayToHead at flaw = flaw
never p BufferShort at flaw = flaw
never p Unfit at flaw = flaw
never p NoLine at flaw = flaw
never p NothingWaits at flaw = flaw
never p LineFull at flaw = flaw
never p LineEmpty at flaw = flaw
never p NoHouse at flaw = flaw
never p WrongReading at flaw = flaw
never p RoundOpen at flaw = flaw
never p NoRound at flaw = flaw
never p NoAnswer at flaw = flaw
never p ManyReadings at flaw = flaw
never p NoForm at flaw = flaw

pub never_refused : (p : Plan) (v : Fault) → Refused (file_of p.draft) v → ⊥
never_refused p v (_, flaw) = never p v.cause v.place flaw

-- the file of a plan gives that plan
pub read_own : (f : List ℕ) (r : Result Plan Fault) → ReadPlan f r → (p : Plan) → f ≡ file_of p.draft → r ≡ Ok p
read_own f (Ok q) reads p same = ap Ok (same_plan q p (one_draft q.draft p.draft (reads ∙ same)))
read_own f (Err v) refused p same = absurd (never_refused p v (subst (λ g. Refused g v) same refused))
