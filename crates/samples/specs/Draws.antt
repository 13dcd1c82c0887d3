-- The source of pseudo-random numbers.
use Rattle.std.specs.Prelude.{ℕ, ◌+◌, ◌*◌, ◌/◌, ◌%◌, ◌^◌, ◌==◌, if◌then◌else◌}

-- the state that follows a state
abbrev pub next : ℕ → ℕ
next state = (state * 6364136223846793005 + 1442695040888963407) % 2 ^ 64

-- the number below a limit that a state gives
abbrev pub drawn : ℕ → ℕ → ℕ
drawn limit state = if limit == 0 then 0 else state / 2 ^ 48 % limit
