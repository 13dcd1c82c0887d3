-- Lines, their marks, and what a line is to a house.
use Rattle.std.specs.Prelude.{◌≡◌, ℕ, ◌<◌, Bool, true, false, ◌&&◌, ◌≢◌, ◌==◌, MatchResult, Result}
use Rattle.lines.specs.declared.lines.End.{End}
use Rattle.lines.specs.declared.lines.Line.{Line}
use Rattle.lines.specs.declared.lines.Marks.{Marks}
use Rattle.lines.specs.declared.lines.NoMarks.{NoMarks}
use Rattle.lines.specs.declared.lines.Way.{Way}

-- the number that a file has for the marks
abbrev pub marks_number : Marks → ℕ
marks_number Marks.Neither = 0
marks_number Marks.Direct = 1
marks_number Marks.Back = 2
marks_number Marks.Both = 3

-- the marks of that number, or that number where it is above 3
abbrev pub Numbered : ℕ → Result Marks NoMarks → Type 0
Numbered number r = MatchResult r (λ marks. marks_number marks ≡ number) (λ e. (e.0 ≡ number) × (3 < number))

-- the marks of a line that is direct or not, and back or not
abbrev pub marks_of : Bool → Bool → Marks
marks_of false false = Marks.Neither
marks_of true false = Marks.Direct
marks_of false true = Marks.Back
marks_of true true = Marks.Both

-- whether a line of these marks belongs to that tree
abbrev pub marked : Way → Marks → Bool
marked Way.Direct Marks.Neither = false
marked Way.Direct Marks.Direct = true
marked Way.Direct Marks.Back = false
marked Way.Direct Marks.Both = true
marked Way.Back Marks.Neither = false
marked Way.Back Marks.Direct = false
marked Way.Back Marks.Back = true
marked Way.Back Marks.Both = true

-- the house at an end of a line
abbrev pub house_at : End → Line → ℕ
house_at End.From l = l.from
house_at End.To l = l.to

-- the end at which a line serves a house: a direct line serves the one that it enters, a back line the one that it
-- leaves
abbrev pub near : Way → End
near Way.Direct = End.To
near Way.Back = End.From

-- the other end, towards the head
abbrev pub beyond : Way → End
beyond Way.Direct = End.From
beyond Way.Back = End.To

-- the line belongs to the tree and has the house at that end
abbrev pub meets : Way → End → ℕ → Line → Bool
meets w e h l = marked w l.marks && house_at e l == h

-- a direct line that enters the house, or a back line that leaves it
abbrev pub serves : Way → ℕ → Line → Bool
serves w = meets w (near w)

-- a place of the table that no line has
abbrev pub blank : Line
blank = record { from = 0; to = 0; marks = Marks.Neither }

-- in a row of n houses the line leads from one house to another
abbrev pub InForm : ℕ → Line → Type 0
InForm n l = (l.from < n) × (l.to < n) × (l.to ≢ l.from)
