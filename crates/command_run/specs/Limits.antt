-- How many bytes the file of a module has at most.
use Rattle.std.specs.Prelude.{ℕ}

abbrev pub most_module : ℕ
most_module = 4194304
