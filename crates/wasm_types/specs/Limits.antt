-- The limits of a module that runs, and how large a thread of one may be.
use Rattle.std.specs.Prelude.{ℕ}

-- with how many pages a memory may begin
abbrev pub most_first_pages : ℕ
most_first_pages = 256

-- how many elements a table may have
abbrev pub most_elements : ℕ
most_elements = 65536

-- how many parameters and locals a function may have
abbrev pub most_locals : ℕ
most_locals = 4096

-- how many operands, locals and labels a thread may have
abbrev pub most_thread_size : ℕ
most_thread_size = 16384
