-- The plan file: its bytes, and what can be wrong with them.
use Rattle.std.specs.Prelude.{◌≡◌, ℕ, zero, suc, ◌+◌, ◌*◌, ◌/◌, ◌%◌, ◌<◌, ◌≤◌, ◌≢◌, ◌⊎◌, List, [], ◌∷◌, ◌++◌, length, take, drop, slice_index}
use Rattle.std.specs.List.{flat_map}
use Rattle.fault.specs.declared.causes.Cause.{Cause}
use Rattle.fault.specs.declared.causes.Cause.TheVariants.{FileShort, WrongMark, WrongVersion, BeyondLimits, WrongLength, WrongRecord, DirectIn, DirectWay, BackOut, BackWay, WrongCounter, NoWayFromHead, NoWayToHead, BufferShort, Unfit, NoLine, NothingWaits, LineFull, LineEmpty, NoHouse, WrongReading, RoundOpen, NoRound, NoAnswer, ManyReadings, NoForm}
use Rattle.fault.specs.declared.faults.Fault.{Fault}
use Rattle.fault.specs.Layers.{fault_at}
use Rattle.plan.specs.declared.drafts.Draft.{Draft}
use Rattle.lines.specs.declared.lines.Line.{Line}
use Rattle.plan.specs.Judged.{Misjudged}
use Rattle.lines.specs.Lines.{marks_number}
use Rattle.plan.specs.Rules.{lines_of}

-- THE FORMAT

-- the three bytes of the mark
abbrev pub mark : List ℕ
mark = 0x52 ∷ 0x4F ∷ 0x57 ∷ []

-- the nine bytes of the header: mark, version 1, n, m and k, with m's high byte first
abbrev pub header : ℕ → ℕ → ℕ → List ℕ
header n m k = 0x52 ∷ 0x4F ∷ 0x57 ∷ 0 ∷ 1 ∷ n ∷ m / 256 ∷ m % 256 ∷ k ∷ []

-- the three bytes of a line: from, to, marks
abbrev pub record_of : Line → List ℕ
record_of l = l.from ∷ l.to ∷ marks_number l.marks ∷ []

-- the file of a draft, and of the plan that it becomes: the header, a record for each line, a counter for each house
abbrev pub file_of : Draft → List ℕ
file_of d = header d.houses d.lines d.capacity ++ (flat_map record_of (lines_of d) ++ take d.houses d.counters)

-- THE HEADER OF ANY BYTES

abbrev pub byte : List ℕ → ℕ → ℕ
byte f i = slice_index f i

abbrev pub houses_in : List ℕ → ℕ
houses_in f = byte f 5

abbrev pub lines_in : List ℕ → ℕ
lines_in f = byte f 6 * 256 + byte f 7

abbrev pub capacity_in : List ℕ → ℕ
capacity_in f = byte f 8

abbrev pub Within : ℕ → ℕ → ℕ → Type 0
Within low high x = (low ≤ x) × (x ≤ high)

-- nine bytes at least, of which the first three are the mark and the next two the version 1
abbrev pub Versioned : List ℕ → Type 0
Versioned f = (9 ≤ length f) × (take 3 f ≡ mark) × (byte f 3 * 256 + byte f 4 ≡ 1)

-- n, m and k within their limits
abbrev pub InLimits : ℕ → ℕ → ℕ → Type 0
InLimits n m k = Within 1 48 n × (m ≤ 128) × Within 1 4 k

abbrev pub Limited : List ℕ → Type 0
Limited f = InLimits (houses_in f) (lines_in f) (capacity_in f)

-- as long as its header says
abbrev pub Sized : List ℕ → Type 0
Sized f = length f ≡ 9 + (3 * lines_in f + houses_in f)

-- THE RECORDS OF ANY BYTES

-- in a row of n houses: the bytes of a line from one house to another, with marks of 0 to 3
abbrev pub RightRecord : ℕ → ℕ → ℕ → ℕ → Type 0
RightRecord n from to marks = (from < n) × (to < n) × (to ≢ from) × (marks ≤ 3)

-- the byte j of a record is its first that is wrong
abbrev pub IsWrongRecord : ℕ → ℕ → ℕ → ℕ → ℕ → Type 0
IsWrongRecord n from to marks zero = n ≤ from
IsWrongRecord n from to marks (suc zero) = (from < n) × ((n ≤ to) ⊎ (to ≡ from))
IsWrongRecord n from to marks (suc (suc zero)) = (from < n) × (to < n) × (to ≢ from) × (3 < marks)
IsWrongRecord n from to marks (suc (suc (suc j))) = ⊥

-- of m records in a row, that of line i is the first with a wrong byte, and its byte j is the first
abbrev pub FirstWrong : ℕ → ℕ → List ℕ → ℕ → ℕ → Type 0
FirstWrong n m xs i j =
    (i < m)
    × ((a : ℕ) → a < i → RightRecord n (byte xs (3 * a)) (byte xs (3 * a + 1)) (byte xs (3 * a + 2)))
    × IsWrongRecord n (byte xs (3 * i)) (byte xs (3 * i + 1)) (byte xs (3 * i + 2)) j

-- THE REFUSALS

-- the place of the first of n, m and k that is beyond its limits
abbrev pub Beyond : ℕ → ℕ → ℕ → ℕ → Type 0
Beyond n m k p =
    ((p ≡ 5) × (Within 1 48 n → ⊥))
    ⊎ (((p ≡ 6) × Within 1 48 n × (128 < m))
    ⊎ ((p ≡ 8) × Within 1 48 n × (m ≤ 128) × (Within 1 4 k → ⊥)))

-- the file is in form, and its marks or counters have a fault
abbrev pub MisjudgedFile : List ℕ → Fault → Type 0
MisjudgedFile f v = (d : Draft) × (file_of d ≡ f) × Misjudged d v

-- the cause applies to the file at the place, and none of a lower number does
abbrev pub Flaw : Cause → List ℕ → ℕ → Type 0
Flaw FileShort f p = (length f < 9) × (p ≡ length f)
Flaw WrongMark f p = (9 ≤ length f) × (p < 3) × (byte f p ≢ byte mark p) × (take p f ≡ take p mark)
Flaw WrongVersion f p = (9 ≤ length f) × (take 3 f ≡ mark) × (byte f 3 * 256 + byte f 4 ≢ 1) × (p ≡ 3)
Flaw BeyondLimits f p = Versioned f × Beyond (houses_in f) (lines_in f) (capacity_in f) p
Flaw WrongLength f p = Versioned f × Limited f × (Sized f → ⊥) × (p ≡ length f)
Flaw WrongRecord f p =
    Versioned f × Limited f × Sized f
    × ((i : ℕ) × (j : ℕ) × (p ≡ 9 + (3 * i + j)) × FirstWrong (houses_in f) (lines_in f) (drop 9 f) i j)
Flaw DirectIn f p = MisjudgedFile f (fault_at DirectIn p)
Flaw DirectWay f p = MisjudgedFile f (fault_at DirectWay p)
Flaw BackOut f p = MisjudgedFile f (fault_at BackOut p)
Flaw BackWay f p = MisjudgedFile f (fault_at BackWay p)
Flaw WrongCounter f p = MisjudgedFile f (fault_at WrongCounter p)
Flaw NoWayFromHead f p = ⊥
Flaw NoWayToHead f p = ⊥
Flaw BufferShort f p = ⊥
Flaw Unfit f p = ⊥
Flaw NoLine f p = ⊥
Flaw NothingWaits f p = ⊥
Flaw LineFull f p = ⊥
Flaw LineEmpty f p = ⊥
Flaw NoHouse f p = ⊥
Flaw WrongReading f p = ⊥
Flaw RoundOpen f p = ⊥
Flaw NoRound f p = ⊥
Flaw NoAnswer f p = ⊥
Flaw ManyReadings f p = ⊥
Flaw NoForm f p = ⊥

-- the file is refused by this fault
abbrev pub Refused : List ℕ → Fault → Type 0
Refused f v = (v ≡ fault_at v.cause v.place) × Flaw v.cause f v.place
