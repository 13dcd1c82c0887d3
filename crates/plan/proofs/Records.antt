-- Records in a part of a file, and the table of their lines.
use Rattle.std.proofs.Common.{◌≡◌, ℕ, zero, suc, ◌+◌, ◌*◌, ◌/◌, ◌<◌, ◌≤◌, ◌≢◌, List, [], length, get_or, take, drop, set, replicate, sym, refl, ap, ◌∙◌, subst, add-zero, arith, below_more}
use mathlib.Core.Path.{subst₃}
use Rattle.std.proofs.lemmas.List.{get_or-take, get_or-drop, get_or-set_same, get_or-set_other, drop-drop}
use Rattle.std.specs.Simd.{first_chunks}
use Rattle.lines.specs.declared.lines.Line.{Line}
use Rattle.lines.specs.declared.lines.Marks.{Marks}
use Rattle.plan.specs.Files.{byte, RightRecord, IsWrongRecord}
use Rattle.lines.specs.Lines.{blank, marks_number, InForm}
use Rattle.plan.specs.Readers.{RecordAt, Records}

pub all_alike : {X : Type 0} (x : X) (n i : ℕ) → get_or (replicate n x) i x ≡ x
all_alike x zero i = refl
all_alike x (suc n) zero = refl
all_alike x (suc n) (suc i) = all_alike x n i

-- the part of record i
part_of : (k : ℕ) (xs : List ℕ) (i : ℕ) → i < k → get_or (first_chunks 3 k xs) i [] ≡ take 3 (drop (3 * i) xs)
part_of zero xs i h = absurd (omega arith)
part_of (suc k) xs zero h = refl
part_of (suc k) xs (suc i) h =
    let e : 3 + 3 * i ≡ 3 * suc i = omega arith in
    part_of k (drop 3 xs) i (omega arith) ∙ ap (take 3) (drop-drop (3 * i) 3 xs ∙ ap (λ j. drop j xs) e)

pub part_is : (parts : List (List ℕ)) (xs : List ℕ) (m i : ℕ) → parts ≡ first_chunks 3 (length xs / 3) xs → 3 * m ≤ length xs → i < m → get_or (take m parts) i [] ≡ take 3 (drop (3 * i) xs)
part_is parts xs m i are h lt = get_or-take m parts i [] lt ∙ ap (λ ps. get_or ps i []) are ∙ part_of (length xs / 3) xs i (omega arith)

module _ (xs : List ℕ) (a : ℕ) where
  -- a byte of a three-byte part
  cut : (j : ℕ) → j < 3 → byte (take 3 (drop a xs)) j ≡ byte xs (a + j)
  cut j h = get_or-take 3 (drop a xs) j 0 h ∙ get_or-drop a xs j 0

  first : byte (take 3 (drop a xs)) 0 ≡ byte xs a
  first = cut 0 (omega arith) ∙ ap (byte xs) (add-zero a)

  pub record_cut : (l : Line) → RecordAt (take 3 (drop a xs)) 0 l → RecordAt xs a l
  record_cut l r = (r.0 ∙ first, r.1 ∙ cut 1 (omega arith), r.2 ∙ cut 2 (omega arith))

  pub wrong_cut : (n j : ℕ) → IsWrongRecord n (byte (take 3 (drop a xs)) 0) (byte (take 3 (drop a xs)) 1) (byte (take 3 (drop a xs)) 2) j → IsWrongRecord n (byte xs a) (byte xs (a + 1)) (byte xs (a + 2)) j
  wrong_cut n j = subst₃ (λ x y z. IsWrongRecord n x y z j) first (cut 1 (omega arith)) (cut 2 (omega arith))

marks_few : (l : Line) → marks_number l.marks ≤ 3
marks_few l = elim l.marks as (λ m. marks_number m ≤ 3) [ Marks.Neither ↦ omega arith | Marks.Direct ↦ omega arith | Marks.Back ↦ omega arith | Marks.Both ↦ omega arith ]

-- a line in form comes from a right record
pub right : (xs : List ℕ) (n p : ℕ) (l : Line) → RecordAt xs p l → InForm n l → RightRecord n (byte xs p) (byte xs (p + 1)) (byte xs (p + 2))
right xs n p l at form = (
  subst (λ x. x < n) at.0 form.0,
  subst (λ x. x < n) at.1 form.1,
  (λ e. form.2 (at.1 ∙ e ∙ sym at.0)),
  subst (λ x. x ≤ 3) at.2 (marks_few l),
)

module _ (xs : List ℕ) (n i : ℕ) (ls : List Line) (l : Line) where
  pub records_more : i < length ls → Records xs n i ls → RecordAt xs (3 * i) l × InForm n l → Records xs n (i + 1) (set ls i l)
  records_more h below here =
      below_more _ i
      (λ k lt. let ne : k ≢ i = omega arith in subst (λ y. RecordAt xs (3 * k) y × InForm n y) (sym (get_or-set_other ls i k l blank ne)) (below k lt))
      (subst (λ y. RecordAt xs (3 * i) y × InForm n y) (sym (get_or-set_same ls i l blank h)) here)

  pub spare_more : ((j : ℕ) → i ≤ j → get_or ls j blank ≡ blank) → (j : ℕ) → i + 1 ≤ j → get_or (set ls i l) j blank ≡ blank
  spare_more rest j h = let ne : j ≢ i = omega arith in get_or-set_other ls i j l blank ne ∙ rest j (omega arith)
