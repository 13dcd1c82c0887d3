-- The digits of bytes in hexadecimal form, cut in pairs.
use Rattle.std.proofs.Common.{◌≡◌, ℕ, ◌*◌, List, [], ◌∷◌, length, map, sym, refl, ap, ◌∙◌, arith}
use Rattle.std.specs.Simd.{first_chunks}
use Rattle.words.specs.Hex.{pair_of, hex_of}

pub hex_length : (word bs : List ℕ) → hex_of bs ≡ word → length word ≡ 2 * length bs
hex_length word bs same = sym (ap length same) ∙ digits bs
  where
    digits : (cs : List ℕ) → length (hex_of cs) ≡ 2 * length cs
    digits [] = refl
    digits (c ∷ cs) = let more = digits cs in omega arith

pub pairs_of : (bs : List ℕ) → first_chunks 2 (length bs) (hex_of bs) ≡ map pair_of bs
pairs_of [] = refl
pairs_of (b ∷ bs) = ap (λ ps. pair_of b ∷ ps) (pairs_of bs)

two : (x y u v : ℕ) (xs ys : List ℕ) (ps qs : List (List ℕ)) → (x ∷ y ∷ []) ∷ ps ≡ (u ∷ v ∷ []) ∷ qs → (ps ≡ qs → xs ≡ ys) → x ∷ y ∷ xs ≡ u ∷ v ∷ ys
two x y u v xs ys ps qs same rest =
    let tail : ps ≡ qs = cc in
    let more : xs ≡ ys = rest tail in
    cc

pub from_pairs : (bs word : List ℕ) → length word ≡ 2 * length bs → map pair_of bs ≡ first_chunks 2 (length bs) word → hex_of bs ≡ word
from_pairs [] [] long same = refl
from_pairs [] (x ∷ word) long same = absurd (omega arith)
from_pairs (b ∷ bs) [] long same = absurd (omega arith)
from_pairs (b ∷ bs) (x ∷ []) long same = absurd (omega arith)
from_pairs (b ∷ bs) (x ∷ y ∷ word) long same = two _ _ x y (hex_of bs) word (map pair_of bs) (first_chunks 2 (length bs) word) same (from_pairs bs word (omega arith))
