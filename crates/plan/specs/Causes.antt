-- The cause of a refusal by each rule of right marks.
use Rattle.fault.specs.declared.causes.Cause.{Cause}
use Rattle.fault.specs.declared.causes.Cause.TheVariants.{DirectIn, DirectWay, BackOut, BackWay, WrongCounter}
use Rattle.lines.specs.declared.lines.Way.{Way}
use Rattle.plan.specs.declared.rules.Rule.{Rule}

abbrev pub cause_of : Rule → Cause
cause_of (Rule.Single Way.Direct) = DirectIn
cause_of (Rule.Leading Way.Direct) = DirectWay
cause_of (Rule.Single Way.Back) = BackOut
cause_of (Rule.Leading Way.Back) = BackWay
cause_of Rule.Counters = WrongCounter
