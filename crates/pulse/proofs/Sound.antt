-- The invariant of a run: how the state and the account of the trace hang together, line by line and house by house.
use Rattle.std.proofs.Common.{◌≡◌, ℕ, suc, ◌+◌, ◌<◌, ◌≤◌, Bool, true, ◌&&◌, eqb, ◌≢◌, List, [], ◌∷◌, ◌++◌, map, get_or, is_some, Option, refl, ap, ◌∙◌, arith}
use Rattle.lines.specs.declared.lines.Way.{Way}
use Rattle.plan.specs.declared.drafts.Draft.{Draft}
use Rattle.quantity.specs.Senses.{Sense, Laws}
use Rattle.quantity.specs.Joins.{joined, join_of}
use Rattle.carrier.specs.declared.messages.Message.{Message}
use Rattle.pulse.specs.Law.{message_value, over, waiting_value}
use Rattle.pulse.specs.Rounds.{standing, waiting_for}
use Rattle.pulse.specs.declared.rounds.Round.{Round}
use Rattle.pulse.specs.Traces.{Account, times}
use Rattle.pulse.proofs.Totals.{Monoid, bit, left_comm, pick, sum}
use Rattle.pulse.proofs.Trees.{in_tree, line}

-- how many requests, and how many responses, are in a list
abbrev pub requests_in : {W : Type 0} → List (Message W) → ℕ
requests_in [] = 0
requests_in (Message.Request ∷ xs) = suc (requests_in xs)
requests_in (Message.Response w ∷ xs) = requests_in xs

abbrev pub responses_in : {W : Type 0} → List (Message W) → ℕ
responses_in [] = 0
responses_in (Message.Request ∷ xs) = responses_in xs
responses_in (Message.Response w ∷ xs) = suc (responses_in xs)

-- what a line's messages carry
abbrev pub carried : {V W F : Type 0} → Sense V W F → List (Message W) → V
carried q xs = joined q (map (message_value q) xs)

-- a state as functions of the house and of the line
pub record View (V W : Type 0) : Type 0 where
  pub called : ℕ → Bool
  pub awaited : ℕ → ℕ
  pub holding : ℕ → V
  pub request : ℕ → Bool
  pub response : ℕ → Option W
  pub on_line : ℕ → List (Message W)

abbrev pub view : {V W F : Type 0} → Sense V W F → Round V W → List (List (Message W)) → View V W
view q r lists = record {
  called = λ h. (standing q r h).called;
  awaited = λ h. (standing q r h).awaited;
  holding = λ h. (standing q r h).holding;
  request = λ i. (waiting_for r i).request;
  response = λ i. (waiting_for r i).response;
  on_line = λ i. get_or lists i [];
}

-- for a direct line whose start was called, and for a back line whose start has sent its response: 1, else 0
abbrev pub asked : {V W : Type 0} → Draft → View V W → ℕ → ℕ
asked d v i = bit (in_tree Way.Direct d i && v.called (line d i).from)

abbrev pub replied : Draft → (ℕ → Bool) → ℕ → ℕ
replied d sent i = bit (in_tree Way.Back d i && sent (line d i).from)

-- The messages and the account, where `sent` says which houses have sent their response and `arrived` how many responses
-- each line has handed over in this round.
pub record Sound (V W F : Type 0) (q : Sense V W F) (d : Draft) (v : View V W) (sent : ℕ → Bool) (arrived : ℕ → ℕ) (a : Account) : Type 0 where
  -- a request that a called house made for a direct line waits, travels or has called the house at the end
  pub requests : (i : ℕ) → i < d.lines → bit (in_tree Way.Direct d i && v.called (line d i).to) + (requests_in (v.on_line i) + bit (v.request i)) ≡ asked d v i
  -- a response that a house made for its back line waits, travels or has arrived
  pub responses : (i : ℕ) → i < d.lines → (responses_in (v.on_line i) + bit (is_some (v.response i))) + arrived i ≡ replied d sent i
  pub awaits : v.called 0 ≡ true → (h : ℕ) → h < d.houses → v.awaited h + sum d.lines (λ i. pick (eqb (line d i).to h) (arrived i)) ≡ get_or d.counters h 0
  pub sends : (h : ℕ) → h < d.houses → sent h ≡ true → (h ≢ 0) × (v.called h ≡ true) × (v.awaited h ≡ 0) × (v.holding h ≡ q.nothing)
  pub begins : a.begun ≡ v.called 0
  pub hands : a.hand_overs + bit (v.called 0) ≡ sum d.houses (λ h. bit (v.called h)) + sum d.lines arrived
  pub loads : (i : ℕ) → i < d.lines → a.loads i + (bit (v.request i) + bit (is_some (v.response i))) ≡ asked d v i + replied d sent i
  pub takes : (h : ℕ) → h < d.houses → times h a.taken ≡ bit (v.called h)
  pub strangers : (h : ℕ) → d.houses ≤ h → times h a.taken ≡ 0
  pub conserves : q.join (over q d.houses v.holding) (q.join (over q d.lines (λ i. waiting_value q (v.response i))) (over q d.lines (λ i. carried q (v.on_line i)))) ≡ join_of q a.taken

-- every house but the head that was called and awaits no response has sent its own
abbrev pub Settled : {V W : Type 0} → Draft → View V W → (ℕ → Bool) → (ℕ → Type 0) → Type 0
Settled d v sent but =
    (h : ℕ) → h < d.houses → (but h → ⊥) → h ≢ 0 → v.called h ≡ true → v.awaited h ≡ 0 → sent h ≡ true

-- a quantity's join is a commutative monoid
pub monoid : {V W F : Type 0} (q : Sense V W F) → Laws V W F q → Monoid V q.join q.nothing
monoid q laws = record { comm = laws.commutative; assoc = laws.associative; unit = laws.unit }

-- LISTS OF MESSAGES

module _ {V W F : Type 0} (q : Sense V W F) (laws : Laws V W F q) where
  -- one request or response among others
  pub requests_among : (xs : List (Message W)) (x : Message W) (ys : List (Message W)) → requests_in (xs ++ (x ∷ ys)) ≡ requests_in (x ∷ []) + requests_in (xs ++ ys)
  requests_among [] Message.Request ys = omega arith
  requests_among [] (Message.Response w) ys = omega arith
  requests_among (Message.Request ∷ xs) x ys = omega (arith, requests_among xs x ys)
  requests_among (Message.Response w ∷ xs) x ys = requests_among xs x ys

  pub responses_among : (xs : List (Message W)) (x : Message W) (ys : List (Message W)) → responses_in (xs ++ (x ∷ ys)) ≡ responses_in (x ∷ []) + responses_in (xs ++ ys)
  responses_among [] Message.Request ys = omega arith
  responses_among [] (Message.Response w) ys = omega arith
  responses_among (Message.Request ∷ xs) x ys = responses_among xs x ys
  responses_among (Message.Response w ∷ xs) x ys = omega (arith, responses_among xs x ys)

  pub carried_among : (xs : List (Message W)) (x : Message W) (ys : List (Message W)) → carried q (xs ++ (x ∷ ys)) ≡ q.join (message_value q x) (carried q (xs ++ ys))
  carried_among [] x ys = refl
  carried_among (y ∷ xs) x ys =
      ap (q.join (message_value q y)) (carried_among xs x ys)
      ∙ left_comm q.join q.nothing (monoid q laws) (message_value q y) (message_value q x) (carried q (xs ++ ys))

  pub empty : (xs : List (Message W)) → requests_in xs ≡ 0 → responses_in xs ≡ 0 → xs ≡ []
  empty [] r s = refl
  empty (Message.Request ∷ xs) r s = absurd (omega arith)
  empty (Message.Response w ∷ xs) r s = absurd (omega arith)
