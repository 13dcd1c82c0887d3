-- Readings: their limits, and the rules of the coil and of the gap. Temperatures are in tenths of a degree.
use Rattle.std.specs.Prelude.{ℕ, Bool, true, false, not, ◌&&◌, ℤ, pos, ◌-ℤ◌, neg_ℤ, Some, None, Option, ◌==◌, bit_and, int_le, nat_le, nat_lt, unsigned_abs}
use Rattle.std.specs.Int.{int_min}
use Rattle.quantity.specs.declared.readings.Reading.{Reading}

-- a house that was given no reading
abbrev pub blank_reading : Reading
blank_reading = record { probe = pos 0; clamp = None; watts = 0; flags = 0 }

-- a temperature is at least −600 and at most 900
abbrev pub temperate : ℤ → Bool
temperate t = int_le (neg_ℤ (pos 600)) t && int_le t (pos 900)

-- so is a clamp's, where there is a clamp
abbrev pub clamp_temperate : Option ℤ → Bool
clamp_temperate None = true
clamp_temperate (Some t) = temperate t

-- a reading whose every part is in its limits
abbrev pub in_limits : Reading → Bool
in_limits r = temperate r.probe && (clamp_temperate r.clamp && (nat_le r.watts 20000 && nat_le r.flags 65535))

-- a house that a row can have, and its reading in limits
abbrev pub usable : ℕ → Reading → Bool
usable h r = nat_lt h 48 && in_limits r

-- the flag bit of value 8: the probe is at fault
abbrev pub faulty : Reading → Bool
faulty r = not (bit_and r.flags 8 == 0)

-- a coil temperature: without a clamp the probe's, with the probe's fault the clamp's, otherwise the lower
abbrev pub coil_rule : ℤ → Option ℤ → Bool → ℤ
coil_rule probe None fault = probe
coil_rule probe (Some clamp) true = clamp
coil_rule probe (Some clamp) false = int_min probe clamp

-- the difference of probe and clamp without sign; none without a clamp
abbrev pub gap_rule : ℤ → Option ℤ → Option ℕ
gap_rule probe None = None
gap_rule probe (Some clamp) = Some (unsigned_abs (probe -ℤ clamp))

-- the coil temperature of a reading
abbrev pub coil : Reading → ℤ
coil r = coil_rule r.probe r.clamp (faulty r)

-- the gap of a reading
abbrev pub gap : Reading → Option ℕ
gap r = gap_rule r.probe r.clamp
