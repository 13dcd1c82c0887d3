-- The tables of a round, read as functions: what each change does to the view.
use Rattle.std.proofs.Common.{◌≡◌, ℕ, zero, suc, ◌<◌, ◌≤◌, Bool, true, false, cond, eqb, List, [], ◌∷◌, length, get_or, set, sym, refl, ap, ◌∙◌, subst, ⊎_elim, arith}
use Rattle.std.proofs.lemmas.List.{get_or_past, get_or-set_other, get_or-set_same, get_or-take, length-set}
use Rattle.std.proofs.lemmas.Bool.{cases_eq, cases_lt, cond-false, cond-true, eq-eqb, ne_eqb}
use Rattle.lines.specs.declared.lines.End.{End}
use Rattle.lines.specs.declared.lines.Line.{Line}
use Rattle.lines.specs.declared.lines.Way.{Way}
use Rattle.lines.specs.Lines.{blank, meets}
use Rattle.plan.specs.declared.plans.Plan.{Plan}
use Rattle.plan.specs.Rules.{lines_of}
use Rattle.plan.proofs.Forms.{length_lines}
use Rattle.quantity.specs.declared.readings.Reading.{Reading}
use Rattle.quantity.specs.Senses.{Sense}
use Rattle.carrier.specs.declared.messages.Message.{Message}
use Rattle.pulse.specs.declared.rounds.Round.{Round}
use Rattle.pulse.specs.declared.rounds.Standing.{Standing}
use Rattle.pulse.specs.declared.rounds.Waiting.{Waiting}
use Rattle.pulse.specs.Rounds.{at_lines, call, idle, none_waits, receive, respond, standing, value_of, waiting_for, with_message}
use Rattle.pulse.specs.Traces.{at}
use Rattle.pulse.proofs.Arrivals.{called_view, received_view, sent_view}
use Rattle.pulse.proofs.Bits.{at_alike}
use Rattle.pulse.proofs.Sound.{View, view}
use Rattle.pulse.proofs.Trees.{line}

-- a table after one write, as a function
pub read_set : {A : Type 0} (xs : List A) (i : ℕ) (x d : A) → i < length xs → (j : ℕ) → get_or (set xs i x) j d ≡ at (λ k. get_or xs k d) i x j
read_set xs i x d lt j =
    ⊎_elim
    (λ (e : j ≡ i). subst (λ k. get_or (set xs i x) k d ≡ at (λ l. get_or xs l d) i x k) (sym e) (get_or-set_same xs i x d lt ∙ sym (cond-true (eqb i i) x (get_or xs i d) (eq-eqb i i refl))))
    (λ ne. get_or-set_other xs i j x d ne ∙ sym (cond-false (eqb j i) x (get_or xs j d) (ne_eqb j i ne)))
    (cases_eq j i)

pub length_at_lines : {A : Type 0} (p : Line → Bool) (f : A → A) (ls : List Line) (xs : List A) → length (at_lines p f ls xs) ≡ length xs
length_at_lines p f [] xs = refl
length_at_lines p f (l ∷ ls) [] = refl
length_at_lines p f (l ∷ ls) (x ∷ xs) = ap suc (length_at_lines p f ls xs)

pub read_at_lines : {A : Type 0} (p : Line → Bool) (f : A → A) (d : A) → p blank ≡ false → (ls : List Line) (xs : List A) → length ls ≤ length xs → (j : ℕ) → get_or (at_lines p f ls xs) j d ≡ cond (p (get_or ls j blank)) (f (get_or xs j d)) (get_or xs j d)
read_at_lines p f d off [] xs le j = sym (cond-false (p blank) (f (get_or xs j d)) (get_or xs j d) off)
read_at_lines p f d off (l ∷ ls) [] le j = absurd (omega arith)
read_at_lines p f d off (l ∷ ls) (x ∷ xs) le zero = refl
read_at_lines p f d off (l ∷ ls) (x ∷ xs) le (suc j) = read_at_lines p f d off ls xs (omega arith) j

-- a line of a plan's list, or blank beyond it
listed : (p : Plan) (j : ℕ) → get_or (lines_of p.draft) j blank ≡ line p.draft j
listed p j =
    ⊎_elim
    (λ lt. get_or-take p.draft.lines p.draft.records j blank lt)
    (λ le. get_or_past (lines_of p.draft) j blank (omega (arith, length_lines p.draft)) ∙ sym (p.draft.spare j le))
    (cases_lt j p.draft.lines)

pub field : {A B : Type 0} (f : A → B) (b : Bool) (x y : A) → f (cond b x y) ≡ cond b (f x) (f y)
field f true x y = refl
field f false x y = refl

pub alike : {A : Type 0} (b : Bool) (x : A) → cond b x x ≡ x
alike true x = refl
alike false x = refl

-- views with the same parts are the same
pub same_view : {V W : Type 0} (v w : View V W) → ((h : ℕ) → v.called h ≡ w.called h) → ((h : ℕ) → v.awaited h ≡ w.awaited h) → ((h : ℕ) → v.holding h ≡ w.holding h) → ((i : ℕ) → v.request i ≡ w.request i) → ((i : ℕ) → v.response i ≡ w.response i) → ((i : ℕ) → v.on_line i ≡ w.on_line i) → v ≡ w
same_view v w a b c d e f = λ i. record {
  called = λ h. a h i;
  awaited = λ h. b h i;
  holding = λ h. c h i;
  request = λ l. d l i;
  response = λ l. e l i;
  on_line = λ l. f l i;
}

-- the tables are as long as they should be
abbrev pub Shaped : {V W : Type 0} → Round V W → Type 0
Shaped r = (length r.houses ≡ 48) × (length r.waiting ≡ 128)

module _ {V W F : Type 0} (q : Sense V W F) (p : Plan) (r : Round V W) (shaped : Shaped r) (h : ℕ) (lt : h < 48) where
  in_table : h < length r.houses
  in_table = omega (arith, shaped.0)

  long_enough : length (lines_of p.draft) ≤ length r.waiting
  long_enough = omega (arith, length_lines p.draft, p.draft.size.2, shaped.1)

  -- a change of where house h stands
  part : {B : Type 0} (f : Standing V → B) (x : Standing V) (g : ℕ) → f (get_or (set r.houses h x) g (idle q 0)) ≡ at (λ k. f (standing q r k)) h (f x) g
  part f x g = ap f (read_set r.houses h x (idle q 0) in_table g) ∙ field f (eqb g h) x (standing q r g)

  part_kept : {B : Type 0} (f : Standing V → B) (x : Standing V) → f x ≡ f (standing q r h) → (g : ℕ) → f (get_or (set r.houses h x) g (idle q 0)) ≡ f (standing q r g)
  part_kept f x same g = ap f (read_set r.houses h x (idle q 0) in_table g) ∙ at_alike f (standing q r) h x same g

  -- a change of what waits for some lines
  line_part : {B : Type 0} (f : Waiting W → B) (test : Line → Bool) (change : Waiting W → Waiting W) → test blank ≡ false → (j : ℕ) → f (get_or (at_lines test change (lines_of p.draft) r.waiting) j none_waits) ≡ cond (test (line p.draft j)) (f (change (waiting_for r j))) (f (waiting_for r j))
  line_part f test change off j =
      ap f (read_at_lines test change none_waits off (lines_of p.draft) r.waiting long_enough j ∙ ap (λ l. cond (test l) (change (waiting_for r j)) (waiting_for r j)) (listed p j))
      ∙ field f (test (line p.draft j)) (change (waiting_for r j)) (waiting_for r j)

  pub view_called : (reading : Reading) (lists : List (List (Message W))) (on : ℕ → List (Message W)) → ((i : ℕ) → get_or lists i [] ≡ on i) → (before : List (List (Message W))) → view q (call q p.draft h reading r) lists ≡ called_view q p (view q r before) h (q.given h reading) on
  view_called reading lists on same before =
      same_view (view q (call q p.draft h reading r) lists) (called_view q p (view q r before) h (q.given h reading) on)
      (part (λ x. x.called) _)
      (part_kept (λ x. x.awaited) _ refl)
      (part (λ x. x.holding) _)
      (line_part (λ x. x.request) (meets Way.Direct End.From h) (with_message Message.Request) refl)
      (λ j. line_part (λ x. x.response) (meets Way.Direct End.From h) (with_message Message.Request) refl j ∙ alike (meets Way.Direct End.From h (line p.draft j)) (waiting_for r j).response)
      same

  pub view_received : (w : W) (lists : List (List (Message W))) (on : ℕ → List (Message W)) → ((i : ℕ) → get_or lists i [] ≡ on i) → (before : List (List (Message W))) → view q (receive q h w r) lists ≡ received_view q (view q r before) h (value_of q w) on
  view_received w lists on same before =
      same_view (view q (receive q h w r) lists) (received_view q (view q r before) h (value_of q w) on)
      (part_kept (λ x. x.called) _ refl)
      (part (λ x. x.awaited) _)
      (part (λ x. x.holding) _)
      (λ j. refl)
      (λ j. refl)
      same

  pub view_sent : (lists : List (List (Message W))) → view q (respond q p.draft h r) lists ≡ sent_view q p (view q r lists) h
  view_sent lists =
      same_view (view q (respond q p.draft h r) lists) (sent_view q p (view q r lists) h)
      (part_kept (λ x. x.called) _ refl)
      (part_kept (λ x. x.awaited) _ refl)
      (part (λ x. x.holding) _)
      (λ j. line_part (λ x. x.request) (meets Way.Back End.From h) (with_message (Message.Response _)) refl j ∙ alike (meets Way.Back End.From h (line p.draft j)) (waiting_for r j).request)
      (line_part (λ x. x.response) (meets Way.Back End.From h) (with_message (Message.Response _)) refl)
      (λ j. refl)

  pub shaped_called : (reading : Reading) → Shaped (call q p.draft h reading r)
  shaped_called reading = (length-set r.houses h _ ∙ shaped.0, length_at_lines (meets Way.Direct End.From h) (with_message Message.Request) (lines_of p.draft) r.waiting ∙ shaped.1)

  pub shaped_received : (w : W) → Shaped (receive q h w r)
  shaped_received w = (length-set r.houses h _ ∙ shaped.0, shaped.1)

  pub shaped_sent : Shaped (respond q p.draft h r)
  shaped_sent = (length-set r.houses h _ ∙ shaped.0, length_at_lines (meets Way.Back End.From h) (with_message (Message.Response (q.word (standing q r h).holding))) (lines_of p.draft) r.waiting ∙ shaped.1)
