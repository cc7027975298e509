-- What may name a process.
use Rattle.std.specs.Prelude.{ℕ, Bool, ◌&&◌, ◌||◌, ◌==◌, nat_le, List, length}
use Rattle.std.specs.List.{list_all}
use Rattle.std.specs.Int.{is_in_range}

-- a letter from a to z, a digit or an underscore
abbrev pub is_name_byte : ℕ → Bool
is_name_byte b = is_in_range 97 122 b || is_in_range 48 57 b || (b == 95)

-- 1 to 32 of these
abbrev pub is_name : List ℕ → Bool
is_name word = nat_le 1 (length word) && nat_le (length word) 32 && list_all is_name_byte word
