-- Which message of a line a make of carrier takes.
use Rattle.std.specs.Prelude.{◌≡◌, Bool, true, false, cond, ◌≢◌, List, [], ◌∷◌, ◌++◌, Some, None, Option}
use Rattle.carrier.specs.declared.messages.Kind.{Kind}
use Rattle.carrier.specs.declared.messages.Message.{Message}
use Rattle.carrier.specs.declared.messages.Message.TheVariants.{Request, Response}
use Rattle.carrier.specs.Messages.{kind_of}

-- a make's order: of two messages on a line, whether the one put earlier is taken first
abbrev pub Order : Type 0 → Type 0
Order W = Message W → Message W → Bool

-- the wire's order
abbrev pub wire_order : {W : Type 0} → Order W
wire_order x y = true

-- the radio's order
abbrev pub radio_order : {W : Type 0} → Order W
radio_order Request y = false
radio_order (Response w) Request = true
radio_order (Response w) (Response v) = false

-- a message taken off a line, and the messages that remain
pub record Taken (W : Type 0) : Type 0 where
  pub message : Message W
  pub rest : List (Message W)

-- the choice between the oldest message of a line and what would be taken of the later ones
abbrev pub first_of : {W : Type 0} → Order W → Message W → List (Message W) → Option (Taken W) → Option (Taken W)
first_of f x xs None = Some record { message = x; rest = xs }
first_of f x xs (Some t) =
    cond (f x t.message) (Some record { message = x; rest = xs }) (Some record { message = t.message; rest = x ∷ t.rest })

-- what is taken by an order of the messages on a line, oldest first: none of none
abbrev pub pick : {W : Type 0} → Order W → List (Message W) → Option (Taken W)
pick f [] = None
pick f (x ∷ xs) = first_of f x xs (pick f xs)

-- the pick by an order, which the messages on the line fix: the one that is taken, and the rest
abbrev pub Picks : {W : Type 0} → Order W → List (Message W) → Message W → List (Message W) → Type 0
Picks f xs x rest = pick f xs ≡ Some record { message = x; rest = rest }

-- THE SAME IN THE SUBJECT'S WORDS

-- the wire takes the earliest put
abbrev pub TakesEarliest : {W : Type 0} → List (Message W) → Message W → List (Message W) → Type 0
TakesEarliest xs x rest = xs ≡ x ∷ rest

-- no message is of that kind
abbrev pub NoneOf : {W : Type 0} → Kind → List (Message W) → Type 0
NoneOf k [] = Unit {0}
NoneOf k (x ∷ xs) = (kind_of x ≢ k) × NoneOf k xs

-- the radio takes a response before a request: where a request is taken, no response remains; and among equals the
-- latest put: what was put later is of the other kind
abbrev pub TakesLatest : {W : Type 0} → List (Message W) → Message W → List (Message W) → Type 0
TakesLatest xs x rest =
    (before : List (Message _)) × (after : List (Message _))
    × (xs ≡ before ++ (x ∷ after)) × (rest ≡ before ++ after)
    × (kind_of x ≡ Kind.Request → NoneOf Kind.Response rest)
    × NoneOf (kind_of x) after
