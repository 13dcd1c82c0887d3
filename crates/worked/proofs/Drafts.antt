-- A draft from its lines and counters alone.
use Rattle.std.proofs.Common.{◌≡◌, ℕ, zero, suc, ◌-◌, ◌<◌, ◌≤◌, List, [], ◌∷◌, ◌++◌, length, get_or, replicate, sym, refl, ◌∙◌, subst, arith}
use Rattle.std.proofs.lemmas.List.{get_or_past, length-append, length-replicate}
use Rattle.lines.specs.declared.lines.Line.{Line}
use Rattle.lines.specs.Lines.{blank, InForm}
use Rattle.plan.specs.declared.drafts.Draft.{Draft}
use Rattle.plan.proofs.Records.{all_alike}

-- a table of so many places that starts with those
abbrev pub table : {X : Type 0} → ℕ → X → List X → List X
table n x xs = xs ++ replicate (n - length xs) x

pub filled : {X : Type 0} (x : X) (m : ℕ) (xs : List X) (i : ℕ) → get_or (xs ++ replicate m x) i x ≡ get_or xs i x
filled x m [] i = all_alike x m i
filled x m (y ∷ ys) zero = refl
filled x m (y ∷ ys) (suc i) = filled x m ys i

pub table_length : {X : Type 0} (n : ℕ) (x : X) (xs : List X) → length xs ≤ n → length (table n x xs) ≡ n
table_length n x xs le = omega (arith, length-append xs (replicate (n - length xs) x), length-replicate (n - length xs) x)

pub beyond_table : {X : Type 0} (x : X) (m : ℕ) (xs : List X) (i : ℕ) → length xs ≤ i → get_or (xs ++ replicate m x) i x ≡ x
beyond_table x m xs i le = filled x m xs i ∙ get_or_past xs i x le

module _ (k : ℕ) (ls : List Line) (cs : List ℕ) where
  abbrev pub draft_of : (1 ≤ length cs) × (length cs ≤ 48) × (length ls ≤ 128) × (1 ≤ k) × (k ≤ 4) → ((i : ℕ) → i < length ls → InForm (length cs) (get_or ls i blank)) → ((h : ℕ) → get_or cs h 0 < 256) → Draft
  draft_of size form bytes =
      record {
        houses = length cs;
        lines = length ls;
        capacity = k;
        records = table 128 blank ls;
        counters = table 48 0 cs;
        size = size;
        tables = (table_length 128 blank ls size.2, table_length 48 0 cs size.1);
        form = λ i lt. subst (InForm (length cs)) (sym (filled blank (128 - length ls) ls i)) (form i lt);
        bytes = λ h. subst (λ (x : ℕ). x < 256) (sym (filled 0 (48 - length cs) cs h)) (bytes h);
        spare = λ i le. beyond_table blank (128 - length ls) ls i le;
        rest = λ h le. beyond_table 0 (48 - length cs) cs h le;
      }
