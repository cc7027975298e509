-- The limit of a call: how many bytes it may name.
use Rattle.std.specs.Prelude.{ℕ}

-- how many bytes a call may name, which it sends, prints, draws or has room for
abbrev pub most_call_bytes : ℕ
most_call_bytes = 60000
