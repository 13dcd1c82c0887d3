-- Files with some bytes changed, cut or made longer.
use Rattle.std.specs.Prelude.{ℕ, ◌-◌, List, ◌++◌, length, take, replicate, slice_set}
use Rattle.std.specs.List.{fold}

-- the bytes with each of the places given its value; a place beyond them is left out
abbrev pub with_bytes : List (ℕ × ℕ) → List ℕ → List ℕ
with_bytes edits bytes = fold (λ xs e. slice_set xs e.0 e.1) bytes edits

-- the bytes at that length, with zeros for what is not there
abbrev pub sized : ℕ → List ℕ → List ℕ
sized n bytes = take n bytes ++ replicate (n - length bytes) 0
