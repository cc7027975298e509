-- How many bytes of its input a session may read, before a line ends it and at once.
use Rattle.std.specs.Prelude.{ℕ}

-- how many bytes of its input a session may read before a line ends it
abbrev pub most_input : ℕ
most_input = 16777216

-- how many bytes of its input a session reads at once
abbrev pub most_piece : ℕ
most_piece = 4096
