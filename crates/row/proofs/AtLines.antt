-- A change at each line that passes a test, line after line.
use Rattle.std.proofs.Common.{◌≡◌, ℕ, zero, suc, ◌+◌, ◌<◌, ◌≤◌, Bool, true, false, cond, List, [], ◌∷◌, length, get_or, take, set, ap, add-one, arith}
use Rattle.lines.specs.declared.lines.Line.{Line}
use Rattle.lines.specs.Lines.{blank}
use Rattle.pulse.specs.Rounds.{at_lines}

module _ {A : Type 0} (p : Line → Bool) (f : A → A) where
  changed : (d : A) (ls : List Line) (xs : List A) (i : ℕ) → i < length ls → length ls ≤ length xs → p (get_or ls i blank) ≡ true → at_lines p f (take (suc i) ls) xs ≡ set (at_lines p f (take i ls) xs) i (f (get_or (at_lines p f (take i ls) xs) i d))
  changed d [] xs i lt le e = absurd (omega arith)
  changed d (l ∷ ls) [] i lt le e = absurd (omega arith)
  changed d (l ∷ ls) (x ∷ xs) zero lt le e = rw e
  changed d (l ∷ ls) (x ∷ xs) (suc i) lt le e = ap (λ ys. cond (p l) (f x) x ∷ ys) (changed d ls xs i (omega arith) (omega arith) e)

  kept : (ls : List Line) (xs : List A) (i : ℕ) → i < length ls → length ls ≤ length xs → p (get_or ls i blank) ≡ false → at_lines p f (take (suc i) ls) xs ≡ at_lines p f (take i ls) xs
  kept [] xs i lt le e = absurd (omega arith)
  kept (l ∷ ls) [] i lt le e = absurd (omega arith)
  kept (l ∷ ls) (x ∷ xs) zero lt le e = rw e
  kept (l ∷ ls) (x ∷ xs) (suc i) lt le e = ap (λ ys. cond (p l) (f x) x ∷ ys) (kept ls xs i (omega arith) (omega arith) e)

  pub at_lines_changed : (d : A) (ls : List Line) (xs : List A) (i : ℕ) → i < length ls → length ls ≤ length xs → p (get_or ls i blank) ≡ true → at_lines p f (take (i + 1) ls) xs ≡ set (at_lines p f (take i ls) xs) i (f (get_or (at_lines p f (take i ls) xs) i d))
  at_lines_changed d ls xs i lt le e = rw add-one (changed d ls xs i lt le e)

  pub at_lines_kept : (ls : List Line) (xs : List A) (i : ℕ) → i < length ls → length ls ≤ length xs → p (get_or ls i blank) ≡ false → at_lines p f (take (i + 1) ls) xs ≡ at_lines p f (take i ls) xs
  at_lines_kept ls xs i lt le e = rw add-one (kept ls xs i lt le e)
