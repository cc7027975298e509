-- The limits of a group: how many processes it may have, and the greatest clock that a tag of it can bear.
use Rattle.std.specs.Prelude.{ℕ, ◌^◌}

-- how many processes a group may have
abbrev pub most_processes : ℕ
most_processes = 16

-- the greatest clock that a tag can bear
abbrev pub most_clock : ℕ
most_clock = 2 ^ 62
