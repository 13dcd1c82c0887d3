-- How a call is printed: its letter and what it is given; and its answer: ok and what was answered, or the refusal. Words
-- are parted by one space.
use Rattle.std.specs.Prelude.{ℕ, List, ◌++◌, ℤ, Some, None, Ok, Err, codes, decimal, Option, Result, option_map}
use Rattle.std.specs.Fmt.{signed_decimal}
use Rattle.fault.specs.declared.faults.Fault.{Fault}
use Rattle.fault.specs.Shown.{refusal}
use Rattle.quantity.specs.declared.readings.Reading.{Reading}
use Rattle.carrier.specs.declared.messages.Kind.{Kind}
use Rattle.carrier.specs.Messages.{kind_word}
use Rattle.pulse.specs.declared.calls.Answer.{Answer}
use Rattle.pulse.specs.declared.calls.Call.{Call}
use Rattle.pulse.specs.declared.calls.Delivery.{Delivery}
use Rattle.pulse.specs.declared.calls.Report.{Report}

-- a temperature, or - where there is none
abbrev pub clamp_shown : Option ℤ → List ℕ
clamp_shown None = codes "-"
clamp_shown (Some t) = signed_decimal t

-- probe, clamp, watts, flags
abbrev pub reading_shown : Reading → List ℕ
reading_shown r =
    signed_decimal r.probe ++ (codes " " ++ (clamp_shown r.clamp ++ (codes " " ++ (decimal r.watts ++ (codes " " ++ decimal r.flags)))))

-- a call: its letter, and what it is given
abbrev pub call_shown : Call → List ℕ
call_shown Call.Begin = codes "B"
call_shown (Call.Load i) = codes "L " ++ decimal i
call_shown (Call.HandOver i) = codes "H " ++ decimal i
call_shown (Call.Set h r) = codes "S " ++ (decimal h ++ (codes " " ++ reading_shown r))
call_shown Call.Read = codes "R"

-- ok and nothing more
abbrev pub done_shown : Result (Unit {0}) Fault → List ℕ
done_shown (Ok _) = codes "ok"
done_shown (Err v) = refusal v

-- ok and the kind
abbrev pub kind_shown : Result Kind Fault → List ℕ
kind_shown (Ok kind) = codes "ok " ++ kind_word kind
kind_shown (Err v) = refusal v

-- ok, the kind and the house
abbrev pub delivery_shown : Result Delivery Fault → List ℕ
delivery_shown (Ok d) = codes "ok " ++ (kind_word d.kind ++ (codes " " ++ decimal d.house))
delivery_shown (Err v) = refusal v

-- ok, the figures as they are printed, and the number of hand-overs
abbrev pub report_shown : {F : Type 0} → (F → Option (List ℕ)) → Result (Report F) Fault → Option (List ℕ)
report_shown shown (Ok x) = option_map (λ figures. codes "ok " ++ (figures ++ (codes " " ++ decimal x.hand_overs))) (shown x.figures)
report_shown shown (Err v) = Some (refusal v)

abbrev pub answer_shown : {F : Type 0} → (F → Option (List ℕ)) → Answer F → Option (List ℕ)
answer_shown shown (Answer.Begin r) = Some (done_shown r)
answer_shown shown (Answer.Load r) = Some (kind_shown r)
answer_shown shown (Answer.HandOver r) = Some (delivery_shown r)
answer_shown shown (Answer.Set r) = Some (done_shown r)
answer_shown shown (Answer.Read r) = report_shown shown r
