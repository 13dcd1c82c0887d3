-- The table of refusals: the number of each cause.
use Rattle.std.specs.Prelude.{ℕ}
use Rattle.fault.specs.declared.causes.Cause.{Cause}
use Rattle.fault.specs.declared.causes.Cause.TheVariants.{FileShort, WrongMark, WrongVersion, BeyondLimits, WrongLength, WrongRecord, DirectIn, DirectWay, BackOut, BackWay, WrongCounter, NoWayFromHead, NoWayToHead, BufferShort, Unfit, NoLine, NothingWaits, LineFull, LineEmpty, NoHouse, WrongReading, RoundOpen, NoRound, NoAnswer, ManyReadings, NoForm}

abbrev pub number : Cause → ℕ
number FileShort = 1
number WrongMark = 2
number WrongVersion = 3
number BeyondLimits = 4
number WrongLength = 5
number WrongRecord = 6
number DirectIn = 7
number DirectWay = 8
number BackOut = 9
number BackWay = 10
number WrongCounter = 11
number NoWayFromHead = 12
number NoWayToHead = 13
number BufferShort = 14
number Unfit = 20
number NoLine = 21
number NothingWaits = 22
number LineFull = 23
number LineEmpty = 24
number NoHouse = 25
number WrongReading = 26
number RoundOpen = 27
number NoRound = 28
number NoAnswer = 29
number ManyReadings = 30
number NoForm = 40
