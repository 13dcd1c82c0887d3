-- The layer that refuses for each cause. A missing line and a missing house are the row's refusals,
-- unless a carrier or a file is asked by itself: the fault's own field says who refused.
use Rattle.std.specs.Prelude.{ℕ}
use Rattle.fault.specs.declared.causes.Cause.{Cause}
use Rattle.fault.specs.declared.causes.Cause.TheVariants.{FileShort, WrongMark, WrongVersion, BeyondLimits, WrongLength, WrongRecord, DirectIn, DirectWay, BackOut, BackWay, WrongCounter, NoWayFromHead, NoWayToHead, BufferShort, Unfit, NoLine, NothingWaits, LineFull, LineEmpty, NoHouse, WrongReading, RoundOpen, NoRound, NoAnswer, ManyReadings, NoForm}
use Rattle.fault.specs.declared.causes.Layer.{Layer}
use Rattle.fault.specs.declared.causes.Layer.TheVariants.{File, Marking, Carrier, Row, Bench}
use Rattle.fault.specs.declared.faults.Fault.{Fault}

abbrev pub refuser : Cause → Layer
refuser FileShort = File
refuser WrongMark = File
refuser WrongVersion = File
refuser BeyondLimits = File
refuser WrongLength = File
refuser WrongRecord = File
refuser DirectIn = Marking
refuser DirectWay = Marking
refuser BackOut = Marking
refuser BackWay = Marking
refuser WrongCounter = Marking
refuser NoWayFromHead = Marking
refuser NoWayToHead = Marking
refuser BufferShort = File
refuser Unfit = Row
refuser NoLine = Row
refuser NothingWaits = Row
refuser LineFull = Carrier
refuser LineEmpty = Carrier
refuser NoHouse = Row
refuser WrongReading = Row
refuser RoundOpen = Row
refuser NoRound = Row
refuser NoAnswer = Row
refuser ManyReadings = Row
refuser NoForm = Bench

-- the fault of a cause at a place, by the layer that has that cause
abbrev pub fault_at : Cause → ℕ → Fault
fault_at c p = record { cause = c; place = p; layer = refuser c }
