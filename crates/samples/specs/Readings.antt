-- Readings drawn from a source: each definition gives what is drawn from a state, and the state afterwards.
use Rattle.std.specs.Prelude.{ℕ, ℤ, pos, ◌-ℤ◌, Option, Some, None, ◌==◌, if◌then◌else◌, bit_or}
use Rattle.quantity.specs.declared.readings.Reading.{Reading}
use Rattle.samples.specs.declared.readings.Spread.{Spread}
use Rattle.samples.specs.Draws.{next, drawn}

-- a temperature: 901, or near 0, or anywhere in limits
abbrev pub temperature_of : Spread → ℕ → ℤ × ℕ
temperature_of spread s =
    if drawn spread.seldom (next s) == 0 then (pos 901, next s)
    else if spread.near then (pos (drawn 8 (next (next s))) -ℤ pos 4, next (next s))
    else (pos (drawn 1501 (next (next s))) -ℤ pos 600, next (next s))

-- a clamp's temperature, or no clamp
abbrev pub clamp_of : Spread → ℕ → Option ℤ × ℕ
clamp_of spread s =
    if drawn 4 (next s) == 0 then (None, next s)
    else (Some (temperature_of spread (next s)).0, (temperature_of spread (next s)).1)

-- a reading: probe, clamp, watts and flags
abbrev pub reading_of : Spread → ℕ → Reading × ℕ
reading_of spread s =
    let probe = temperature_of spread s in
    let clamp = clamp_of spread probe.1 in
    let watts = next clamp.1 in
    (record { probe = probe.0; clamp = clamp.0; watts = drawn 20001 watts; flags = bit_or (drawn spread.flags (next watts)) 0x30 }, next watts)
