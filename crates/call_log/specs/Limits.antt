-- How long a log may be, and how short an entry.
use Rattle.std.specs.Prelude.{ℕ}

-- how many bytes a log has at most
abbrev pub most_log : ℕ
most_log = 33554432

-- how many bytes an entry has at least: each of its length, clock, thread, kind, signal and reply takes one
abbrev pub least_entry : ℕ
least_entry = 6
