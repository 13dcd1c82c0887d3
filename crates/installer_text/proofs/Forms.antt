-- The words of a line and the lines of the input, each with its place, held against their forms.
use Rattle.std.proofs.Common.{◌≡◌, ℕ, ◌+◌, List, [], ◌∷◌, ◌++◌, length, sym, ap, ◌∙◌, subst, inl, inr}
use Rattle.words.specs.Hex.{Bytes, NoBytes}
use Rattle.words.specs.Placed.{placed}
use Rattle.installer_text.specs.Answers.{Answered, AnsweredFile, AnsweredWords, Asked, HasNoForm, Printed}
use Rattle.installer_text.specs.Commands.{name_of}
use Rattle.installer_text.specs.declared.commands.Command.{Command}

first : (at : ℕ) (ws : List (List ℕ)) (a : ℕ) (w : List ℕ) (rest : List (ℕ × List ℕ)) → placed at ws ≡ (a, w) ∷ rest → (us : List (List ℕ)) × ((ws ≡ w ∷ us) × (at ≡ a) × (placed (a + length w + 1) us ≡ rest))
first at [] a w rest e = cc
first at (v ∷ us) a w rest e =
    let here : ◌≡◌ {A = ℕ × List ℕ} (at, v) (a, w) = cc in
    let behind : placed (at + length v + 1) us ≡ rest = cc in
    (us, (ap (λ p. p.1 ∷ us) here, ap (λ p. p.0) here, subst (λ p. placed (p.0 + length p.1 + 1) us ≡ rest) here behind))

-- a line whose first two words are known, and of which `behind` is left
module _ (k : Command) (at end : ℕ) (ws : List (List ℕ)) {a b : ℕ} {w h : List ℕ} {all rest behind : List (ℕ × List ℕ)} (placed_is : all ≡ placed at ws) (name : all ≡ (a, w) ∷ rest) (hex : rest ≡ (b, h) ∷ behind) (named : w ≡ name_of k) where
  two : (t : List ℕ) → ((vs : List (List ℕ)) → placed (b + length h + 1) vs ≡ behind → AnsweredFile k b end (h ∷ vs) t) → AnsweredWords at end ws t
  two t answered =
      let p = first at ws a w rest (sym placed_is ∙ name) in
      let q = first (a + length w + 1) p.0 b h behind (p.1.2 ∙ hex) in
      let File : ℕ → List (List ℕ) → Type 0 = λ n us. AnsweredFile k n end us t in
      let place : b ≡ at + length w + 1 = sym q.1.1 ∙ ap (λ n. n + length w + 1) (sym p.1.1) in
      let file : File (at + length w + 1) p.0 = subst (File (at + length w + 1)) (sym q.1.0) (subst (λ n. File n (h ∷ q.0)) place (answered q.0 q.1.2)) in
      subst (λ us. AnsweredWords at end us t) (sym p.1.0) (inl (k, named, file))

  pub no_bytes : (t : List ℕ) → NoBytes h → HasNoForm b t → AnsweredWords at end ws t
  no_bytes t none refused = two t file
    where
      file : (vs : List (List ℕ)) → placed (b + length h + 1) vs ≡ behind → AnsweredFile k b end (h ∷ vs) t
      file [] _ = inr (none, refused)
      file (x ∷ vs) _ = inr (none, refused)

  pub one_more : {e : ℕ} {x : List ℕ} {more : List (ℕ × List ℕ)} → behind ≡ (e, x) ∷ more → (f t : List ℕ) → Bytes h f → HasNoForm e t → AnsweredWords at end ws t
  one_more {e} {x} {more} extra f t bytes refused = two t (λ vs is.
      let p = first (b + length h + 1) vs e x more (is ∙ extra) in
      subst (λ us. AnsweredFile k b end (h ∷ us) t) (sym p.1.0) (inl ((f, bytes), subst (λ n. HasNoForm n t) (sym p.1.1) refused)))

  pub just_two : behind ≡ [] → (f t : List ℕ) → Bytes h f → Asked k f t → AnsweredWords at end ws t
  just_two none f t bytes asked = two t file
    where
      file : (vs : List (List ℕ)) → placed (b + length h + 1) vs ≡ behind → AnsweredFile k b end (h ∷ vs) t
      file [] _ = inl (f, bytes, asked)
      file (x ∷ vs) is = cc

-- what is printed for lines with their places
abbrev pub PrintedLines : List (ℕ × List ℕ) → List ℕ → Type 0
PrintedLines [] t = t ≡ []
PrintedLines (l ∷ ls) t = (u : List ℕ) × (v : List ℕ) × Answered l.0 l.1 u × PrintedLines ls v × (t ≡ u ++ v)

pub printed : (at : ℕ) (ls : List (List ℕ)) (t : List ℕ) → PrintedLines (placed at ls) t → Printed at ls t
printed at [] t h = h
printed at (l ∷ ls) t (u, v, answered, rest, is) = (u, v, answered, printed (at + length l + 1) ls v rest, is)
