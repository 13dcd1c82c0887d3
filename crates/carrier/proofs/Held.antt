-- What places hold.
use Rattle.std.proofs.Common.{◌≡◌, ℕ, zero, suc, ◌+◌, ◌-◌, ◌<◌, ◌≢◌, List, [], ◌∷◌, ◌++◌, length, count_by, is_some, cond, get_or, take, drop, set, Some, None, Option, sym, refl, ap, ◌∙◌, arith, length-set, get_or-set_same}
use borrow.Rule.Slice.PartMut.{put_mid, mid_of}
use Rattle.std.proofs.lemmas.Slice.{put_mid-rotated}
use Rattle.std.proofs.lemmas.List.Elements.{filter_map-append}
use Rattle.std.proofs.lemmas.List.Sums.{sum_by-cons}
use Rattle.std.specs.List.{cons_option, remove}
use Rattle.carrier.specs.declared.messages.Message.{Message}
use Rattle.carrier.specs.Places.{held}

-- without what stands in a free place the same is held
held_without :
    {W : Type 0} (ps : List (Option (Message W))) (i : ℕ) (q : Option (Message W)) → i < length ps → get_or ps i None ≡ None →
    held (remove (set ps i q) i) ≡ held ps
held_without [] i q h free = elim h [ ]
held_without (p ∷ ps) zero q h free = ap (λ r. cons_option r (held ps)) (sym free)
held_without (p ∷ ps) (suc i) q h free = ap (cons_option p) (held_without ps i q (omega arith) free)

-- a message takes a free place, and then moves behind the others
pub held_moved :
    {W : Type 0} (ps : List (Option (Message W))) (i : ℕ) (x : Message W) (ys : List (Option (Message W))) → i < length ps → get_or ps i None ≡ None →
    ys ≡ drop 1 (mid_of i (length (set ps i (Some x)) - i) (set ps i (Some x))) ++ take 1 (mid_of i (length (set ps i (Some x)) - i) (set ps i (Some x))) →
    held (put_mid i (length (set ps i (Some x)) - i) (set ps i (Some x)) ys) ≡ held ps ++ (x ∷ [])
held_moved ps i x ys h free e =
    let l : i < length (set ps i (Some x)) = omega (arith, length-set ps i (Some x)) in
    ap held (put_mid-rotated i (length (set ps i (Some x)) - i) (set ps i (Some x)) ys None l (omega arith) e)
    ∙ filter_map-append (λ p. p) (remove (set ps i (Some x)) i) (get_or (set ps i (Some x)) i None ∷ [])
    ∙ ap (λ xs. xs ++ held (get_or (set ps i (Some x)) i None ∷ [])) (held_without ps i (Some x) h free)
    ∙ ap (λ q. held ps ++ held (q ∷ [])) (get_or-set_same ps i (Some x) None h)

-- where no place is free there are as many messages as places
pub held_full :
    {W : Type 0} (ps : List (Option (Message W))) → ((k : ℕ) → k < length ps → get_or ps k None ≢ None) → length (held ps) ≡ length ps
held_full [] full = refl
held_full (None ∷ ps) full = absurd (full 0 (omega arith) refl)
held_full (Some x ∷ ps) full = ap suc (held_full ps (λ k h. full (suc k) (omega arith)))

-- the messages are as many as the places that are not free
pub held_count : {W : Type 0} (ps : List (Option (Message W))) → count_by is_some ps ≡ length (held ps)
held_count [] = refl
held_count (None ∷ ps) = held_count ps
held_count (Some x ∷ ps) = omega (arith, sum_by-cons (λ q. cond (is_some q) 1 0) (Some x) ps, held_count ps)
