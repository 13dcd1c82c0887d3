-- What is picked, in the subject's words.
use Rattle.std.specs.Prelude.{◌≡◌, true, false, cond, ◌≢◌, List, [], ◌∷◌, ◌++◌, Some, None, Option, refl}
use Rattle.std.proofs.Common.{sym, ap, subst}
use Rattle.carrier.specs.declared.messages.Kind.{Kind}
use Rattle.carrier.specs.declared.messages.Message.{Message}
use Rattle.carrier.specs.declared.messages.Message.TheVariants.{Request, Response}
use Rattle.carrier.specs.Messages.{kind_of}
use Rattle.carrier.specs.Makes.{Order, wire_order, radio_order, Taken, first_of, pick, Picks, TakesEarliest, NoneOf, TakesLatest}
use Rattle.carrier.specs.Meanings.{Without}

-- a relation holds of what is picked
abbrev Holds : {W : Type 0} → (List (Message W) → Message W → List (Message W) → Type 0) → List (Message W) → Option (Taken W) → Type 0
Holds P xs None = xs ≡ []
Holds P xs (Some t) = P xs t.message t.rest

-- it is enough that it holds with one more message in front
by_front :
    {W : Type 0} (P : List (Message W) → Message W → List (Message W) → Type 0) (f : Order W) →
    ((x : Message W) (xs : List (Message W)) (t : Option (Taken W)) → Holds P xs t → Holds P (x ∷ xs) (first_of f x xs t)) →
    (xs : List (Message W)) → Holds P xs (pick f xs)
by_front P f front [] = refl
by_front P f front (x ∷ xs) = front x xs (pick f xs) (by_front P f front xs)

picked :
    {W : Type 0} (P : List (Message W) → Message W → List (Message W) → Type 0) (f : Order W) →
    ((x : Message W) (xs : List (Message W)) (t : Option (Taken W)) → Holds P xs t → Holds P (x ∷ xs) (first_of f x xs t)) →
    (xs : List (Message W)) (x : Message W) (rest : List (Message W)) → Picks f xs x rest → P xs x rest
picked P f front xs x rest e = subst (Holds P xs) e (by_front P f front xs)

-- ANY ORDER

without_front :
    {W : Type 0} (f : Order W) (x : Message W) (xs : List (Message W)) (t : Option (Taken W)) → Holds Without xs t →
    Holds Without (x ∷ xs) (first_of f x xs t)
without_front f x xs None h = ([], xs, refl, refl)
without_front f x xs (Some t) h =
    elim (f x t.message) as (λ b. Holds Without (x ∷ xs) (cond b (Some record { message = x; rest = xs }) (Some record { message = t.message; rest = x ∷ t.rest }))) [
      | true ↦ ([], xs, refl, refl)
      | false ↦ (x ∷ h.0, h.1, ap (λ ys. x ∷ ys) h.2, ap (λ ys. x ∷ ys) h.3)
    ]

pub pick_without :
    {W : Type 0} (f : Order W) (xs : List (Message W)) (x : Message W) (rest : List (Message W)) → Picks f xs x rest → Without xs x rest
pick_without f = picked Without f (without_front f)

-- THE WIRE

earliest_front :
    {W : Type 0} (x : Message W) (xs : List (Message W)) (t : Option (Taken W)) → Holds TakesEarliest xs t →
    Holds TakesEarliest (x ∷ xs) (first_of wire_order x xs t)
earliest_front x xs None h = refl
earliest_front x xs (Some t) h = refl

pub wire_takes :
    {W : Type 0} (xs : List (Message W)) (x : Message W) (rest : List (Message W)) → Picks wire_order xs x rest → TakesEarliest xs x rest
wire_takes = picked TakesEarliest wire_order earliest_front

-- THE RADIO

none_between :
    {W : Type 0} (k : Kind) (before after : List (Message W)) (x : Message W) → kind_of x ≢ k → NoneOf k (before ++ after) →
    NoneOf k (before ++ (x ∷ after))
none_between k [] after x ne h = (ne, h)
none_between k (y ∷ before) after x ne h = (h.0, none_between k before after x ne h.1)

latest_two :
    {W : Type 0} (x y : Message W) (xs rest : List (Message W)) → TakesLatest xs y rest →
    Holds TakesLatest (x ∷ xs) (first_of radio_order x xs (Some record { message = y; rest = rest }))
latest_two Request y xs rest (before, after, e, f, first, latest) = (
  Request ∷ before,
  after,
  ap (λ ys. Request ∷ ys) e,
  ap (λ ys. Request ∷ ys) f,
  (λ r. ((λ s. cc), first r)),
  latest,
)
latest_two (Response w) Request xs rest (before, after, e, f, first, latest) = (
  [],
  xs,
  refl,
  refl,
  (λ r. cc),
  subst (NoneOf Kind.Response) (sym e) (none_between Kind.Response before after Request (λ s. cc) (subst (NoneOf Kind.Response) f (first refl))),
)
latest_two (Response w) (Response v) xs rest (before, after, e, f, first, latest) = (
  Response w ∷ before,
  after,
  ap (λ ys. Response w ∷ ys) e,
  ap (λ ys. Response w ∷ ys) f,
  (λ r. cc),
  latest,
)

latest_front :
    {W : Type 0} (x : Message W) (xs : List (Message W)) (t : Option (Taken W)) → Holds TakesLatest xs t →
    Holds TakesLatest (x ∷ xs) (first_of radio_order x xs t)
latest_front x xs None h = (
  [],
  xs,
  refl,
  refl,
  (λ _. subst (NoneOf Kind.Response) (sym h) tt),
  subst (NoneOf (kind_of x)) (sym h) tt,
)
latest_front x xs (Some t) h = latest_two x t.message xs t.rest h

pub radio_takes :
    {W : Type 0} (xs : List (Message W)) (x : Message W) (rest : List (Message W)) → Picks radio_order xs x rest → TakesLatest xs x rest
radio_takes = picked TakesLatest radio_order latest_front
