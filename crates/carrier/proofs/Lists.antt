-- The lists of the lines of a table.
use Rattle.std.proofs.Common.{◌≡◌, ℕ, zero, suc, ◌+◌, ◌-◌, ◌*◌, ◌<◌, ◌≤◌, ◌≢◌, List, [], ◌++◌, length, get_or, take, drop, set, replicate, None, Option, sym, refl, ap, ap₂, ◌∙◌, subst₂, inl, inr, arith, length-set}
use borrow.Rule.Slice.PartMut.{put_mid, mid_of}
use Rattle.std.proofs.lemmas.List.FromFn.{length-map-range_with_len, get_or-map-range_with_len}
use Rattle.std.proofs.lemmas.List.{ext_get_or, get_or-set_other, get_or_past, take_at, drop_at, length-take-le, drop-take, drop-replicate, length-replicate, get_or-replicate}
use Rattle.std.proofs.lemmas.Slice.{take-put_mid_below, drop-put_mid}
use Rattle.std.proofs.lemmas.Grind.{get_or-set_at}
use Rattle.std.proofs.lemmas.Bool.{cases_eq, cases_lt}
use Rattle.carrier.specs.declared.messages.Message.{Message}
use Rattle.carrier.specs.Places.{held, on_line, lists_of}

pub length_lists : {W : Type 0} (m : ℕ) (ps : List (Option (Message W))) → length (lists_of m ps) ≡ m
length_lists m ps = length-map-range_with_len (on_line ps) 0 m

pub list_on : {W : Type 0} (m : ℕ) (ps : List (Option (Message W))) (i : ℕ) → i < m → get_or (lists_of m ps) i [] ≡ on_line ps i
list_on m ps i h = get_or-map-range_with_len (on_line ps) 0 m i i [] h (omega arith)

pub list_past : {W : Type 0} (m : ℕ) (ps : List (Option (Message W))) (i : ℕ) → m ≤ i → get_or (lists_of m ps) i [] ≡ []
list_past m ps i h = get_or_past (lists_of m ps) i [] (omega (arith, length_lists m ps))

-- ONE LINE'S PLACES ARE WRITTEN

-- its list changes
part_here :
    {X : Type 0} (a : ℕ) (xs ys : List X) → a ≤ length xs → length ys ≡ 4 → take 4 (drop a (put_mid a 4 xs ys)) ≡ ys
part_here a xs ys h l =
    ap (take 4) (drop_at (take a xs) (ys ++ drop 4 (drop a xs)) a (length-take-le a xs h)) ∙ take_at ys (drop 4 (drop a xs)) 4 l

-- no other does
part_apart :
    {X : Type 0} (xs ys : List X) (i j : ℕ) → 4 * i ≤ length xs → length ys ≡ 4 → j ≢ i →
    take 4 (drop (4 * j) (put_mid (4 * i) 4 xs ys)) ≡ take 4 (drop (4 * j) xs)
part_apart xs ys i j h l ne =
    elim (cases_lt j i) [
      | inl b ↦
          sym (drop-take (4 * j) 4 (put_mid (4 * i) 4 xs ys))
          ∙ ap (drop (4 * j)) (take-put_mid_below (4 * i) 4 xs ys (4 * j + 4) (omega arith) h)
          ∙ drop-take (4 * j) 4 xs
      | inr a ↦ ap (take 4) (drop-put_mid (4 * i) 4 xs ys (4 * j) (omega arith) h l)
    ]

list_written :
    {W : Type 0} (ps ys : List (Option (Message W))) (i : ℕ) → 4 * i ≤ length ps → length ys ≡ 4 → (m j : ℕ) → j < m →
    on_line (put_mid (4 * i) 4 ps ys) j ≡ get_or (set (lists_of m ps) i (held ys)) j []
list_written ps ys i h l m j b =
    let n = length_lists m ps in
    elim (cases_eq j i) [
      | inl e ↦
          ap (on_line (put_mid (4 * i) 4 ps ys)) e
          ∙ ap held (part_here (4 * i) ps ys h l)
          ∙ sym (get_or-set_at (lists_of m ps) i j (held ys) [] e (omega arith))
      | inr ne ↦
          ap held (part_apart ps ys i j h l ne)
          ∙ sym (get_or-set_other (lists_of m ps) i j (held ys) [] ne ∙ list_on m ps j b)
    ]

pub lists_written :
    {W : Type 0} (ps ys : List (Option (Message W))) (i a k : ℕ) → a ≡ 4 * i → k ≡ 4 → a ≤ length ps → length ys ≡ 4 → (m : ℕ) →
    lists_of m (put_mid a k ps ys) ≡ set (lists_of m ps) i (held ys)
lists_written ps ys i a k e f h l m =
    subst₂ (λ a k. lists_of m (put_mid a k ps ys) ≡ set (lists_of m ps) i (held ys)) (sym e) (sym f)
    (
    let qs = put_mid (4 * i) 4 ps ys in
    ext_get_or [] (lists_of m qs) (set (lists_of m ps) i (held ys))
    (length_lists m qs ∙ sym (length-set (lists_of m ps) i (held ys) ∙ length_lists m ps))
    (λ j b.
    let b' : j < m = omega (arith, length_lists m qs) in
    list_on m qs j b' ∙ list_written ps ys i (omega arith) l m j b')
    )

-- the places of one line, as a part of the table
pub held_part :
    {W : Type 0} (ps : List (Option (Message W))) (i a k : ℕ) → a ≡ 4 * i → k ≡ 4 → held (mid_of a k ps) ≡ on_line ps i
held_part ps i a k e f = ap₂ (λ a k. held (mid_of a k ps)) e f

-- A TABLE OF FREE PLACES

take_free : {W : Type 0} (k n : ℕ) → held {W = W} (take k (replicate n None)) ≡ []
take_free zero n = refl
take_free (suc k) zero = refl
take_free (suc k) (suc n) = take_free k n

pub lists_free : {W : Type 0} (m n : ℕ) → lists_of {W = W} m (replicate n None) ≡ replicate m []
lists_free {W} m n =
    ext_get_or [] (lists_of m (replicate n None)) (replicate m [])
    (length_lists m (replicate n None) ∙ sym (length-replicate m []))
    (λ j h.
    let l : j < m = omega (arith, length_lists {W = W} m (replicate n None)) in
    list_on m (replicate n None) j l
    ∙ ap (λ ps. held (take 4 ps)) (drop-replicate (4 * j) n None)
    ∙ take_free 4 (n - 4 * j)
    ∙ sym (get_or-replicate m j [] [] l))
