-- The limits of a line of the debugger.
use Rattle.std.specs.Prelude.{ℕ}

-- how many bytes a line has at most
abbrev pub most_line_bytes : ℕ
most_line_bytes = 4096

-- how many bytes of a memory one line shows at most
abbrev pub most_shown_bytes : ℕ
most_shown_bytes = 256

-- the greatest number of a thread
abbrev pub greatest_thread : ℕ
greatest_thread = 63

-- how many events one line shows at most
abbrev pub most_shown_events : ℕ
most_shown_events = 1000
