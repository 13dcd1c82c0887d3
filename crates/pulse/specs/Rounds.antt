-- A round: one question put to the whole row, and what a message that comes to a house does to it.
use Rattle.std.specs.Prelude.{ℕ, ◌+◌, ◌-◌, ◌^◌, min, Bool, true, false, cond, not, ◌&&◌, List, [], ◌∷◌, map, Some, None, ◌==◌, slice_index_or, slice_set}
use Rattle.std.specs.Option.{unwrap_or}
use Rattle.lines.specs.declared.lines.End.{End}
use Rattle.lines.specs.declared.lines.Line.{Line}
use Rattle.lines.specs.declared.lines.Way.{Way}
use Rattle.lines.specs.Lines.{meets}
use Rattle.plan.specs.declared.drafts.Draft.{Draft}
use Rattle.plan.specs.Rules.{lines_of}
use Rattle.quantity.specs.declared.readings.Reading.{Reading}
use Rattle.quantity.specs.Senses.{Sense}
use Rattle.carrier.specs.declared.messages.Message.{Message}
use Rattle.pulse.specs.declared.rounds.Round.{Round}
use Rattle.pulse.specs.declared.rounds.Standing.{Standing}
use Rattle.pulse.specs.declared.rounds.Waiting.{Waiting}

-- a house that was not called, awaits so many responses and holds nothing
abbrev pub idle : {V W F : Type 0} → Sense V W F → ℕ → Standing V
idle q awaited = record { called = false; awaited = awaited; holding = q.nothing }

-- where house h stands in the round
abbrev pub standing : {V W F : Type 0} → Sense V W F → Round V W → ℕ → Standing V
standing q r h = slice_index_or r.houses h (idle q 0)

-- a house that stands so was called and awaits no response
abbrev pub done : {V : Type 0} → Standing V → Bool
done x = x.called && x.awaited == 0

-- nothing waits for a line
abbrev pub none_waits : {W : Type 0} → Waiting W
none_waits = record { request = false; response = None }

-- what waits for a line
abbrev pub waiting_for : {V W : Type 0} → Round V W → ℕ → Waiting W
waiting_for r i = slice_index_or r.waiting i none_waits

-- what waits for a line once a message has come to wait for it too; the message replaces one of its kind that waits there
abbrev pub with_message : {W : Type 0} → Message W → Waiting W → Waiting W
with_message Message.Request x = record x { request = true }
with_message (Message.Response w) x = record x { response = Some w }

-- requests go out along direct lines, responses come home along back lines
abbrev pub way_of : {W : Type 0} → Message W → Way
way_of Message.Request = Way.Direct
way_of (Message.Response w) = Way.Back

-- a table with a place for each line: the change is made at each line that passes the test, and at no other
abbrev pub at_lines : {A : Type 0} → (Line → Bool) → (A → A) → List Line → List A → List A
at_lines p f [] xs = xs
at_lines p f (l ∷ ls) [] = []
at_lines p f (l ∷ ls) (x ∷ xs) = cond (p l) (f x) x ∷ at_lines p f ls xs

-- what waits for the lines once a message has come to wait for each line of its tree that leaves house h: a request for each
-- direct line, a response for the back line
abbrev pub sends : {W : Type 0} → Draft → ℕ → Message W → List (Waiting W) → List (Waiting W)
sends d h x waiting = at_lines (meets (way_of x) End.From h) (with_message x) (lines_of d) waiting

-- the value that a word gives back; a word of no value counts as nothing
abbrev pub value_of : {V W F : Type 0} → Sense V W F → W → V
value_of q w = unwrap_or (q.back w) q.nothing

-- house h is called: it takes its reading, whose value joins its holding, and a request waits for each direct line that
-- leaves it
abbrev pub call : {V W F : Type 0} → Sense V W F → Draft → ℕ → Reading → Round V W → Round V W
call q d h reading r = record r {
  houses = slice_set r.houses h (record (standing q r h) {
    called = true;
    holding = q.join (standing q r h).holding (q.given h reading);
  });
  waiting = sends d h Message.Request r.waiting;
}

-- house h answers: its holding moves, as a word, into a response that waits for its back line, and it then holds nothing
abbrev pub respond : {V W F : Type 0} → Sense V W F → Draft → ℕ → Round V W → Round V W
respond q d h r = record r {
  houses = slice_set r.houses h (record (standing q r h) { holding = q.nothing });
  waiting = sends d h (Message.Response (q.word (standing q r h).holding)) r.waiting;
}

-- a house other than the head answers as soon as it is called and awaits no response
abbrev pub settle : {V W F : Type 0} → Sense V W F → Draft → ℕ → Round V W → Round V W
settle q d h r = cond (not (h == 0) && done (standing q r h)) (respond q d h r) r

-- house h receives a response: the value of the word joins its holding, and it awaits one less, called or not
abbrev pub receive : {V W F : Type 0} → Sense V W F → ℕ → W → Round V W → Round V W
receive q h w r = record r {
  houses = slice_set r.houses h (record (standing q r h) {
    awaited = (standing q r h).awaited - 1;
    holding = q.join (standing q r h).holding (value_of q w);
  });
}

-- a message comes to house h, which has that reading, over whichever line: a request calls it, and a response is received;
-- then the house answers if it can. A request to a called house and a response that is not awaited do nothing
abbrev pub deliver : {V W F : Type 0} → Sense V W F → Draft → ℕ → Reading → Message W → Round V W → Round V W
deliver q d h reading Message.Request r = cond (standing q r h).called r (settle q d h (call q d h reading r))
deliver q d h reading (Message.Response w) r = cond ((standing q r h).awaited == 0) r (settle q d h (receive q h w r))

-- one more hand-over, up to the greatest number of 32 bits
abbrev pub counted : {V W : Type 0} → Round V W → Round V W
counted r = record r { hand_overs = min (r.hand_overs + 1) (2 ^ 32 - 1) }

-- a round begins: every house is not called, awaits its counter and holds nothing; then the head is called, which has that
-- reading. What waits for the lines stays
abbrev pub begin : {V W F : Type 0} → Sense V W F → Draft → Reading → Round V W → Round V W
begin q d reading r =
    call q d 0 reading (record r { houses = map (idle q) d.counters; hand_overs = 0 })

-- the round was begun: its head was called
abbrev pub begun : {V W F : Type 0} → Sense V W F → Round V W → Bool
begun q r = (standing q r 0).called

-- the round has its answer: its head awaits none
abbrev pub answered : {V W F : Type 0} → Sense V W F → Round V W → Bool
answered q r = done (standing q r 0)

-- the answer is what the head holds
abbrev pub answer : {V W F : Type 0} → Sense V W F → Round V W → V
answer q r = (standing q r 0).holding
