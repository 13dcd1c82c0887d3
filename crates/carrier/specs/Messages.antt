-- Messages: a request, or a response with a word.
use Rattle.std.specs.Prelude.{ℕ, List, codes}
use Rattle.carrier.specs.declared.messages.Kind.{Kind}
use Rattle.carrier.specs.declared.messages.Message.{Message}
use Rattle.carrier.specs.declared.messages.Message.TheVariants.{Request, Response}

-- the number of a kind
abbrev pub kind_number : Kind → ℕ
kind_number Kind.Request = 1
kind_number Kind.Response = 2

-- the word that is printed for a kind
abbrev pub kind_word : Kind → List ℕ
kind_word Kind.Request = codes "req"
kind_word Kind.Response = codes "resp"

-- the kind of a message
abbrev pub kind_of : {W : Type 0} → Message W → Kind
kind_of Request = Kind.Request
kind_of (Response w) = Kind.Response
