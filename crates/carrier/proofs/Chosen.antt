-- The choice among places, from the last place to the first.
use Rattle.std.proofs.Common.{◌≡◌, ℕ, suc, ◌+◌, ◌<◌, true, false, cond, List, [], ◌∷◌, ◌++◌, reverse, length, set, Some, None, Option, sym, refl, ap, ap₂, ◌∙◌, subst, subst₂, arith}
use denote.Param.Members.{Mut}
use Rattle.std.specs.List.{filter_map, enumerate_from, reduce}
use Rattle.std.specs.Option.{option_map, MatchOption}
use Rattle.std.specs.Iterator.{ActsAsOnTwo, DrainsIf}
use Rattle.std.specs.Iterator.Adapters.{enumerate_source, enumerate_count, enumerate_steps_back, rev_source, rev_steps}
use Rattle.std.specs.Iterator.Runs.{WholeRun, IsReduceRun}
use Rattle.std.specs.Slice.Iter.{iter_rest, iter_steps_back}
use Rattle.std.proofs.iter.runs.Made.{took}
use Rattle.std.proofs.lemmas.Iterator.{YieldsList, items_from_drains}
use Rattle.std.proofs.lemmas.Iterator.Consumers.{YieldsList-from_shown}
use Rattle.std.proofs.lemmas.List.{append-nil, map-id, reverse-append, length-reverse}
use Rattle.std.proofs.lemmas.List.Elements.{filter_map-append}
use Rattle.std.proofs.lemmas.List.FromFn.{length-enumerate_from}
use Rattle.std.proofs.lemmas.List.Sums.{fold-append}
use Rattle.quantity.specs.declared.words.Word.{Word}
use Rattle.carrier.specs.declared.messages.Message.{Message}
use Rattle.carrier.specs.Makes.{Order, first_of, pick}
use Rattle.carrier.specs.Places.{held, Chosen}

-- of two messages with the numbers of their places, the one that is taken first
abbrev pub better : Order Word → ℕ × Message Word → ℕ × Message Word → ℕ × Message Word
better f later earlier = cond (f earlier.1 later.1) earlier later

abbrev pub numbered : ℕ × Option (Message Word) → Option (ℕ × Message Word)
numbered p = option_map (λ x. (p.0, x)) p.1

-- the choice among places whose numbers begin with n
abbrev pub choice : Order Word → ℕ → List (Option (Message Word)) → Option (ℕ × Message Word)
choice f n ps = reduce (better f) (filter_map numbered (reverse (enumerate_from n ps)))

-- one place more, in front
abbrev with_place : Order Word → ℕ → Option (Message Word) → Option (ℕ × Message Word) → Option (ℕ × Message Word)
with_place f n None c = c
with_place f n (Some x) None = Some (n, x)
with_place f n (Some x) (Some c) = Some (better f c (n, x))

reduce_more :
    (f : Order Word) (n : ℕ) (xs : List (ℕ × Message Word)) (x : Message Word) →
    reduce (better f) (xs ++ ((n, x) ∷ [])) ≡ with_place f n (Some x) (reduce (better f) xs)
reduce_more f n [] x = refl
reduce_more f n (y ∷ xs) x = ap (λ z. Some z) (fold-append (better f) y xs ((n, x) ∷ []))

last_first :
    (n : ℕ) (p : Option (Message Word)) (ps : List (Option (Message Word))) →
    filter_map numbered (reverse (enumerate_from n (p ∷ ps)))
    ≡ filter_map numbered (reverse (enumerate_from (n + 1) ps)) ++ filter_map numbered ((n, p) ∷ [])
last_first n p ps =
    ap (filter_map numbered) (reverse-append ((n, p) ∷ []) (enumerate_from (n + 1) ps))
    ∙ filter_map-append numbered (reverse (enumerate_from (n + 1) ps)) ((n, p) ∷ [])

choice_more :
    (f : Order Word) (n : ℕ) (p : Option (Message Word)) (ps : List (Option (Message Word))) →
    choice f n (p ∷ ps) ≡ with_place f n p (choice f (n + 1) ps)
choice_more f n None ps = ap (reduce (better f)) (last_first n None ps ∙ append-nil _)
choice_more f n (Some x) ps =
    ap (reduce (better f)) (last_first n (Some x) ps)
    ∙ reduce_more f n (filter_map numbered (reverse (enumerate_from (n + 1) ps))) x

-- `Chosen` of places whose numbers begin with n
abbrev ChosenFrom : Order Word → ℕ → List (Option (Message Word)) → Option (ℕ × Message Word) → Type 0
ChosenFrom f n ps None = held ps ≡ []
ChosenFrom f n ps (Some c) =
    (k : ℕ) × (c.0 ≡ n + k) × (k < length ps)
    × (pick f (held ps) ≡ Some record { message = c.1; rest = held (set ps k None) })

chosen_more :
    (f : Order Word) (n : ℕ) (p : Option (Message Word)) (ps : List (Option (Message Word))) (c : Option (ℕ × Message Word)) →
    ChosenFrom f (n + 1) ps c → ChosenFrom f n (p ∷ ps) (with_place f n p c)
chosen_more f n None ps None h = h
chosen_more f n None ps (Some c) (k, e, l, picks) = (suc k, omega arith, omega arith, picks)
chosen_more f n (Some x) ps None h =
    (0, omega arith, omega arith, ap (λ xs. first_of f x xs (pick f xs)) h ∙ ap (λ (rest : List (Message Word)). Some record { message = x; rest = rest }) (sym h))
chosen_more f n (Some x) ps (Some c) (k, e, l, picks) =
    elim (f x c.1) as (λ b. first_of f x (held ps) (pick f (held ps)) ≡ cond b (Some record { message = x; rest = held ps }) (Some record { message = c.1; rest = x ∷ held (set ps k None) }) → ChosenFrom f n (Some x ∷ ps) (Some (cond b (n, x) c))) [
      | true ↦ λ first. (0, omega arith, omega arith, first)
      | false ↦ λ first. (suc k, (let m : c.0 ≡ n + suc k = omega arith in m), omega arith, first)
    ] (ap (first_of f x (held ps)) picks)

chosen_from : (f : Order Word) (n : ℕ) (ps : List (Option (Message Word))) → ChosenFrom f n ps (choice f n ps)
chosen_from f n [] = refl
chosen_from f n (p ∷ ps) =
    subst (ChosenFrom f n (p ∷ ps)) (sym (choice_more f n p ps)) (chosen_more f n p ps (choice f (n + 1) ps) (chosen_from f (n + 1) ps))

chosen_at_first : (f : Order Word) (ps : List (Option (Message Word))) (r : Option (ℕ × Message Word)) → ChosenFrom f 0 ps r → Chosen f ps r
chosen_at_first f ps None h = h
chosen_at_first f ps (Some c) (k, e, l, picks) =
    let same : k ≡ c.0 = omega arith in
    subst (λ i. (i < length ps) × (pick f (held ps) ≡ Some record { message = c.1; rest = held (set ps i None) })) same (l, picks)

pub chosen_last : (f : Order Word) (ps : List (Option (Message Word))) (r : Option (ℕ × Message Word)) → r ≡ choice f 0 ps → Chosen f ps r
chosen_last f ps r e = chosen_at_first f ps r (subst (ChosenFrom f 0 ps) (sym e) (chosen_from f 0 ps))

-- WHAT THE CODE GOES THROUGH

enumerate_append : {A : Type 0} (n : ℕ) (xs : List A) (y : A) → enumerate_from n (xs ++ (y ∷ [])) ≡ enumerate_from n xs ++ ((n + length xs, y) ∷ [])
enumerate_append n [] y = ap (λ i. (i, y) ∷ []) (omega arith)
enumerate_append n (x ∷ xs) y =
    ap (λ ps. (n, x) ∷ ps) (enumerate_append (n + 1) xs y ∙ ap (λ i. enumerate_from (n + 1) xs ++ ((i, y) ∷ [])) (omega arith))

pub numbered_back :
    {A : Type 0} (left : _ → ℕ) → ((t : _) → left t ≡ length (iter_rest t)) → {s : _} (xs : List A) →
    enumerate_count (rev_source s) ≡ 0 → iter_rest (enumerate_source (rev_source s)) ≡ xs →
    YieldsList {B = ℕ × A} (rev_steps (enumerate_steps_back iter_steps_back left)) (λ p. (p.0, p.1.now)) s (reverse (enumerate_from 0 xs))
numbered_back left length_left {s} xs first rest =
    subst₂ (λ n ys. YieldsList (rev_steps (enumerate_steps_back iter_steps_back left)) (λ p. (p.0, p.1.now)) s (reverse (enumerate_from n ys))) first rest
    (
    YieldsList-from_shown (rev_steps (enumerate_steps_back iter_steps_back left)) (λ p. (p.0, p.1.now))
    (λ u. reverse (enumerate_from (enumerate_count (rev_source u)) (iter_rest (enumerate_source (rev_source u)))))
    (λ u t p. length-reverse _ ∙ length-enumerate_from _ _ ∙ p.1.0)
    (λ u x t p.
    let n = enumerate_count (rev_source u) in
    let ys = iter_rest (enumerate_source (rev_source t)) in
    ap (λ zs. reverse (enumerate_from n zs)) p.1.0
    ∙ ap reverse (enumerate_append n ys x.1.now)
    ∙ reverse-append (enumerate_from n ys) ((n + length ys, x.1.now) ∷ [])
    ∙ ap₂ (λ m l. (m, x.1.now) ∷ reverse (enumerate_from l ys)) (omega (arith, length_left (enumerate_source (rev_source t)), p.1.1)) (sym p.0))
    s
    )

reduce_none : {A : Type 0} (h : A → A → A) (xs : List A) → length xs ≡ 0 → None ≡ reduce h xs
reduce_none h [] e = refl
reduce_none h (x ∷ xs) e = absurd (omega arith)

pub reduced :
    {S A F : Type 0} {steps : S → Option A → S → Type 0} {s : S} {all : List A} (g : Mut F (A × (A × Unit {0})) A) (f : F) (h : A → A → A)
    (r : Option A) → WholeRun steps s (λ p. MatchOption r (p.len ≡ 0) (IsReduceRun p g f)) → ActsAsOnTwo g f h →
    YieldsList steps (λ y. y) s all → r ≡ reduce h all
reduced {steps = steps} {all = all} g f h r (p, from, whole, ran) acts road =
    let drains : DrainsIf steps (Unit {0}) p.from p.items = ((took p).0, (took p).1, λ _. (took p).2 whole) in
    let items : p.items ≡ all = sym (map-id p.items) ∙ items_from_drains p.items (subst (λ u. DrainsIf steps (Unit {0}) u p.items) from drains) road in
    elim r as (λ r. MatchOption r (p.len ≡ 0) (IsReduceRun p g f) → r ≡ reduce h all) [
      | None ↦ λ none. reduce_none h all (omega (arith, ap length items, p.long, none))
      | Some y ↦ λ (long, (x, xs, e, folded)). ap (λ z. Some z) (folded h acts) ∙ ap (reduce h) (sym e ∙ items)
    ] ran
