-- The limit of a memory: how many pages it may have.
use Rattle.std.specs.Prelude.{ℕ}

-- how many pages of 65,536 bytes a memory may have
abbrev pub most_pages : ℕ
most_pages = 256
