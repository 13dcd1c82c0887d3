-- A file put together again from what its readers took from it.
use Rattle.std.proofs.Common.{◌≡◌, ℕ, zero, suc, ◌+◌, ◌-◌, ◌*◌, ◌/◌, ◌%◌, ◌<◌, ◌≤◌, List, [], ◌∷◌, ◌++◌, length, get_or, take, drop, replicate, sym, refl, ap, ◌∙◌, subst, ap₂, arith}
use native.Mathlib.Numerals.{towards_suc}
use Rattle.std.proofs.lemmas.List.{get_or-drop, get_or_past, get_or-take, take_rest, append_assoc, take-append-drop, take_more, drop-drop, flat_map_more, length-append, length-replicate, length-drop, length-take-le, take_at, drop_at}
use Rattle.std.specs.List.{flat_map}
use borrow.Rule.Slice.PartMut.{put_mid}
use Rattle.plan.specs.declared.drafts.Draft.{Draft}
use Rattle.lines.specs.declared.lines.Line.{Line}
use Rattle.plan.specs.Files.{byte, mark, header, record_of, file_of, houses_in, lines_in, capacity_in, Versioned, Sized}
use Rattle.lines.specs.Lines.{blank}
use Rattle.plan.specs.Readers.{RecordAt, Records}
use Rattle.plan.specs.Rules.{lines_of}
use Rattle.plan.proofs.Forms.{length_lines}

-- THE HEADER

nine : (f : List ℕ) → 9 ≤ length f → take 9 f ≡ byte f 0 ∷ byte f 1 ∷ byte f 2 ∷ byte f 3 ∷ byte f 4 ∷ byte f 5 ∷ byte f 6 ∷ byte f 7 ∷ byte f 8 ∷ []
nine [] h = absurd (omega arith)
nine (_ ∷ []) h = absurd (omega arith)
nine (_ ∷ _ ∷ []) h = absurd (omega arith)
nine (_ ∷ _ ∷ _ ∷ []) h = absurd (omega arith)
nine (_ ∷ _ ∷ _ ∷ _ ∷ []) h = absurd (omega arith)
nine (_ ∷ _ ∷ _ ∷ _ ∷ _ ∷ []) h = absurd (omega arith)
nine (_ ∷ _ ∷ _ ∷ _ ∷ _ ∷ _ ∷ []) h = absurd (omega arith)
nine (_ ∷ _ ∷ _ ∷ _ ∷ _ ∷ _ ∷ _ ∷ []) h = absurd (omega arith)
nine (_ ∷ _ ∷ _ ∷ _ ∷ _ ∷ _ ∷ _ ∷ _ ∷ []) h = absurd (omega arith)
nine (_ ∷ _ ∷ _ ∷ _ ∷ _ ∷ _ ∷ _ ∷ _ ∷ _ ∷ _) h = refl

mark_byte : (f : List ℕ) (i : ℕ) → i < 3 → take 3 f ≡ mark → byte f i ≡ byte mark i
mark_byte f i h e = sym (get_or-take 3 f i 0 h) ∙ ap (λ xs. byte xs i) e

pub header_is : (f : List ℕ) → Versioned f → byte f 7 < 256 → header (houses_in f) (lines_in f) (capacity_in f) ≡ take 9 f
header_is f versioned small =
    let e₀ : byte f 0 ≡ 0x52 = mark_byte f 0 (omega arith) versioned.1 in
    let e₁ : byte f 1 ≡ 0x4F = mark_byte f 1 (omega arith) versioned.1 in
    let e₂ : byte f 2 ≡ 0x57 = mark_byte f 2 (omega arith) versioned.1 in
    let e₃ : byte f 3 ≡ 0 = omega (arith, versioned.2) in
    let e₄ : byte f 4 ≡ 1 = omega (arith, versioned.2) in
    let e₆ : lines_in f / 256 ≡ byte f 6 = omega arith in
    let e₇ : lines_in f % 256 ≡ byte f 7 = omega arith in
    let all = nine f versioned.0 in
    cc

-- THE RECORDS

three : (xs : List ℕ) (a : ℕ) → a + 3 ≤ length xs → take (a + 3) xs ≡ take a xs ++ (byte xs a ∷ byte xs (a + 1) ∷ byte xs (a + 2) ∷ [])
three xs zero h = front xs (omega arith)
  where
    front : (ys : List ℕ) → 3 ≤ length ys → take 3 ys ≡ byte ys 0 ∷ byte ys 1 ∷ byte ys 2 ∷ []
    front [] h = absurd (omega arith)
    front (_ ∷ []) h = absurd (omega arith)
    front (_ ∷ _ ∷ []) h = absurd (omega arith)
    front (_ ∷ _ ∷ _ ∷ _) h = refl
three [] (suc a) h = absurd (omega arith)
three (x ∷ xs) (suc a) h = simp towards_suc (ap (λ ys. x ∷ ys) (simp towards_suc at (three xs a (omega arith))))

record_bytes : (xs : List ℕ) (p : ℕ) (l : Line) → RecordAt xs p l → record_of l ≡ byte xs p ∷ byte xs (p + 1) ∷ byte xs (p + 2) ∷ []
record_bytes xs p l at = cc

pub records_are : (xs : List ℕ) (n m : ℕ) (ls : List Line) → 3 * m ≤ length xs → m ≤ length ls → Records xs n m ls → flat_map record_of (take m ls) ≡ take (3 * m) xs
records_are xs n zero ls long enough right = refl
records_are xs n (suc m) ls long enough right =
    let l = get_or ls m blank in
    let at : RecordAt xs (3 * m) l = (right m (omega arith)).0 in
    let bytes : record_of l ≡ byte xs (3 * m) ∷ byte xs (3 * m + 1) ∷ byte xs (3 * m + 2) ∷ [] = record_bytes xs (3 * m) l at in
    let longer : 3 * m + 3 ≡ 3 * suc m = omega arith in
    ap (flat_map record_of) (simp towards_suc at (take_more ls m blank (omega arith)))
    ∙ sym (flat_map_more record_of [] (take m ls) l)
    ∙ ap₂ ◌++◌ (records_are xs n m ls (omega arith) (omega arith) (λ i h. right i (omega arith))) bytes
    ∙ sym (three xs (3 * m) (omega arith))
    ∙ ap (λ k. take k xs) longer

-- THE COUNTERS

padded : (xs : List ℕ) (k h : ℕ) → get_or (xs ++ replicate k 0) h 0 ≡ get_or xs h 0
padded [] zero h = refl
padded [] (suc k) zero = refl
padded [] (suc k) (suc h) = padded [] k h
padded (x ∷ xs) k zero = refl
padded (x ∷ xs) k (suc h) = padded xs k h

-- the file from byte a on, and 0 for what no house has
abbrev pub Counters : List ℕ → ℕ → List ℕ → Type 0
Counters f a cs = cs ≡ drop a f ++ replicate (48 - length (drop a f)) 0

pub counters_are : (f : List ℕ) (a : ℕ) (cs : List ℕ) → cs ≡ take (length f - a) (drop a f) ++ replicate (48 - length (take (length f - a) (drop a f))) 0 → Counters f a cs
counters_are f a cs e = e ∙ ap (λ xs. xs ++ replicate (48 - length xs) 0) (take_rest f a)

module _ (f : List ℕ) (a : ℕ) (cs : List ℕ) (cs-is : Counters f a cs) where
  pub counters_table : length (drop a f) ≤ 48 → length cs ≡ 48
  counters_table few =
      ap length cs-is ∙ length-append (drop a f) _ ∙ ap (λ k. length (drop a f) + k) (length-replicate (48 - length (drop a f)) 0) ∙ omega arith

  counter_at : (h : ℕ) → get_or cs h 0 ≡ get_or (drop a f) h 0
  counter_at h = ap (λ xs. get_or xs h 0) cs-is ∙ padded (drop a f) _ h

  pub counters_small : ((i : ℕ) → byte f i < 256) → (h : ℕ) → get_or cs h 0 < 256
  counters_small small h = subst (λ x. x < 256) (sym (counter_at h ∙ get_or-drop a f h 0)) (small (a + h))

  pub counters_rest : (n : ℕ) → length (drop a f) ≡ n → (h : ℕ) → n ≤ h → get_or cs h 0 ≡ 0
  counters_rest n long h past = counter_at h ∙ get_or_past (drop a f) h 0 (omega arith)

-- THE WHOLE

module _ (f : List ℕ) (n m k : ℕ) (n-is : n ≡ houses_in f) (m-is : m ≡ lines_in f) (k-is : k ≡ capacity_in f) (versioned : Versioned f) (sized : Sized f) where
  pub counters_length : length (drop (9 + 3 * m) f) ≡ n
  counters_length = length-drop (9 + 3 * m) f ∙ omega arith

  pub restored : byte f 7 < 256 → (ls : List Line) (cs : List ℕ) → length ls ≡ 128 → m ≤ 128 → Records (drop 9 f) n m ls → Counters f (9 + 3 * m) cs → header n m k ++ (flat_map record_of (take m ls) ++ take n cs) ≡ f
  restored small ls cs table few right cs-is =
      let head : header n m k ≡ take 9 f = rw (n-is, m-is, k-is) (header_is f versioned small) in
      let body : flat_map record_of (take m ls) ≡ take (3 * m) (drop 9 f) = records_are (drop 9 f) n m ls (rw length-drop (omega arith)) (omega arith) right in
      let tail : take n cs ≡ drop (9 + 3 * m) f = ap (take n) cs-is ∙ take_at (drop (9 + 3 * m) f) _ n counters_length in
      ap₂ ◌++◌ head (ap₂ ◌++◌ body (tail ∙ sym (drop-drop (3 * m) 9 f)) ∙ take-append-drop (3 * m) (drop 9 f))
      ∙ take-append-drop 9 f

-- THE LENGTH

pub records_length : (ls : List Line) → length (flat_map record_of ls) ≡ 3 * length ls
records_length [] = refl
records_length (l ∷ ls) = let more = records_length ls in omega arith

pub file_length : (d : Draft) → length (file_of d) ≡ 9 + 3 * d.lines + d.houses
file_length d =
    let body = records_length (lines_of d) in
    let all = length-append (flat_map record_of (lines_of d)) (take d.houses d.counters) in
    omega (arith, length_lines d, length-take-le d.houses d.counters (omega arith))

-- WRITING PART AFTER PART

-- the part after the front is overwritten
pub put_next : (xs front rest ys : List ℕ) (a k : ℕ) → xs ≡ front ++ rest → length front ≡ a → length ys ≡ k → put_mid a k xs ys ≡ (front ++ ys) ++ drop k rest
put_next xs front rest ys a k e at long =
    ap (λ zs. put_mid a k zs ys) e
    ∙ ap₂ (λ u v. u ++ (ys ++ drop k v)) (take_at front rest a at) (drop_at front rest a at)
    ∙ sym (append_assoc front ys (drop k rest))

pub put_parts : (b h r t : List ℕ) (m n : ℕ) → length h ≡ 9 → length r ≡ m → length t ≡ n → put_mid (9 + m) n (put_mid 9 m (put_mid 0 9 b h) r) t ≡ (h ++ (r ++ t)) ++ drop (9 + m + n) b
put_parts b h r t m n lh lr lt =
    let one = put_next b [] b h 0 9 refl refl lh in
    let two = put_next (put_mid 0 9 b h) h (drop 9 b) r 9 m one lh lr in
    let three = put_next (put_mid 9 m (put_mid 0 9 b h) r) (h ++ r) (drop m (drop 9 b)) t (9 + m) n two (length-append h r ∙ omega arith) lt in
    three
    ∙ ap₂ ◌++◌ (append_assoc h r t) (ap (drop n) (drop-drop m 9 b) ∙ drop-drop n (9 + m) b)
