-- A text cut at its stops, part by part.
use Rattle.std.proofs.Common.{◌≡◌, ℕ, ◌+◌, ◌-◌, ◌<◌, ◌≤◌, Bool, true, false, cond, eqb, List, [], ◌∷◌, ◌++◌, length, take, drop, sym, refl, ap, ◌∙◌, subst, ap₂, arith, length-drop}
use Rattle.std.proofs.lemmas.List.{take_all, drop-drop, length-take-le}
use Rattle.std.proofs.lemmas.List.Sums.{prefix_len-le-length, fails_before_first}
use Rattle.std.proofs.lemmas.List.Splits.{slice_split_none, slice_split_first}
use Rattle.std.proofs.lemmas.Slice.{between_is}
use Rattle.std.specs.List.{onto_first}
use Rattle.words.specs.Parts.{front, parts, ended, lines}
use Rattle.words.specs.Placed.{placed}

pub front_within : (stop : ℕ) (xs : List ℕ) → front stop xs ≤ length xs
front_within stop xs = prefix_len-le-length _ xs

-- a part ends at the first stop, and the next starts behind it
pub cut_more : (stop at end : ℕ) (text : List ℕ) → end ≡ at + front stop (drop at text) → end < length text → placed at (parts stop (drop at text)) ≡ (at, drop at (take end text)) ∷ placed (end + 1) (parts stop (drop (end + 1) text))
cut_more stop at end text end_is more =
    let rest = drop at text in
    let n = front stop rest in
    let n_is : n ≡ end - at = omega (arith, end_is) in
    let some : n < length rest = omega (arith, end_is, length-drop at text) in
    let first : take n rest ≡ drop at (take end text) = ap (λ k. take k rest) n_is ∙ between_is text at end in
    let next : at + length (take n rest) + 1 ≡ end + 1 = omega (arith, end_is, length-take-le n rest (omega arith)) in
    let behind : drop (n + 1) rest ≡ drop (end + 1) text = drop-drop (n + 1) at text ∙ ap (λ k. drop k text) (omega (arith, end_is)) in
    ap (placed at) (slice_split_first (λ x. eqb x stop) rest 0 some)
    ∙ ap₂ (λ w ps. (at, w) ∷ ps) first (ap₂ (λ k xs. placed k (parts stop xs)) next behind)

pub cut_last : (stop at end : ℕ) (text : List ℕ) → end ≡ at + front stop (drop at text) → length text ≤ end → at ≤ length text → placed at (parts stop (drop at text)) ≡ (at, drop at (take end text)) ∷ []
cut_last stop at end text end_is last within =
    let rest = drop at text in
    let none : length rest ≤ front stop rest = omega (arith, end_is, length-drop at text) in
    ap (placed at) (slice_split_none (λ x. eqb x stop) rest (λ k d here. fails_before_first (λ x. eqb x stop) rest k d (omega (arith, none))))
    ∙ ap (λ xs. (at, drop at xs) ∷ []) (sym (take_all end text last))

some_part : (stop : ℕ) (xs : List ℕ) → (w : List ℕ) × (ws : List (List ℕ)) × (parts stop xs ≡ w ∷ ws)
some_part stop [] = ([], [], refl)
some_part stop (x ∷ xs) = first (eqb x stop) (parts stop xs)
  where
    first : (b : Bool) (ps : List (List ℕ)) → (w : List ℕ) × (ws : List (List ℕ)) × (cond b ([] ∷ ps) (onto_first x ps) ≡ w ∷ ws)
    first true ps = ([], ps, refl)
    first false [] = (x ∷ [], [], refl)
    first false (p ∷ ps) = (x ∷ p, ps, refl)

parts_ended : (xs : List ℕ) → parts 10 (xs ++ 10 ∷ []) ≡ parts 10 xs ++ ([] ∷ [])
parts_ended [] = refl
parts_ended (x ∷ xs) = let p = some_part 10 xs in ap (λ ps. cond (eqb x 10) ([] ∷ ps) (onto_first x ps)) (parts_ended xs) ∙ more (eqb x 10) (parts 10 xs) p.0 p.1 p.2
  where
    more : (b : Bool) (ps : List (List ℕ)) (w : List ℕ) (ws : List (List ℕ)) → ps ≡ w ∷ ws → cond b ([] ∷ (ps ++ ([] ∷ []))) (onto_first x (ps ++ ([] ∷ []))) ≡ cond b ([] ∷ ps) (onto_first x ps) ++ ([] ∷ [])
    more true ps w ws e = refl
    more false ps w ws e = subst (λ us. onto_first x (us ++ ([] ∷ [])) ≡ onto_first x us ++ ([] ∷ [])) (sym e) refl

ended_of : (ps : List (List ℕ)) → ended (ps ++ ([] ∷ [])) ≡ ps
ended_of [] = refl
ended_of (w ∷ []) = refl
ended_of (w ∷ v ∷ ps) = ap (λ us. w ∷ us) (ended_of (v ∷ ps))

-- the lines of a text that ends its last line
pub lines_closed : (xs : List ℕ) → lines (xs ++ 10 ∷ []) ≡ parts 10 xs
lines_closed xs = ap ended (parts_ended xs) ∙ ended_of (parts 10 xs)

-- and of one that does not
pub lines_open : (xs : List ℕ) (x : ℕ) → eqb x 10 ≡ false → lines (xs ++ x ∷ []) ≡ parts 10 (xs ++ x ∷ [])
lines_open [] x on = rw on
lines_open (y ∷ xs) x on = let p = some_part 10 (xs ++ x ∷ []) in more (eqb y 10) (parts 10 (xs ++ x ∷ [])) p.0 p.1 p.2 (lines_open xs x on)
  where
    tail : (w v : List ℕ) (vs us : List (List ℕ)) → w ∷ us ≡ w ∷ v ∷ vs → (y ∷ w) ∷ us ≡ (y ∷ w) ∷ v ∷ vs
    tail w v vs us e = let e' : us ≡ v ∷ vs = cc in ap (λ ts. (y ∷ w) ∷ ts) e'

    kept : (w : List ℕ) (ws : List (List ℕ)) → ended (w ∷ ws) ≡ w ∷ ws → ended ((y ∷ w) ∷ ws) ≡ (y ∷ w) ∷ ws
    kept w [] same = refl
    kept w (v ∷ vs) same = tail w v vs (ended (v ∷ vs)) same

    more : (b : Bool) (ps : List (List ℕ)) (w : List ℕ) (ws : List (List ℕ)) → ps ≡ w ∷ ws → ended ps ≡ ps → ended (cond b ([] ∷ ps) (onto_first y ps)) ≡ cond b ([] ∷ ps) (onto_first y ps)
    more true ps w ws e same = subst (λ us. ended us ≡ us → ended ([] ∷ us) ≡ [] ∷ us) (sym e) (λ h. ap (λ us. [] ∷ us) h) same
    more false ps w ws e same = subst (λ us. ended us ≡ us → ended (onto_first y us) ≡ onto_first y us) (sym e) (kept w ws) same
