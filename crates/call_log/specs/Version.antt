-- How a version of the format spells the numbers of an entry.
use Rattle.std.specs.Prelude.{ℕ, ◌+◌, ◌-◌, ◌%◌, ◌^◌, ◌==◌, nat_lt, if◌then◌else◌, List, Option, Some, None, option_and_then, option_map}
use Rattle.std.specs.Int.{Width, w64, byte_len, to_le_bytes}
use Rattle.fri_bytes.specs.Reading.{le_at}
use Rattle.fri_bytes.specs.Short.{short_at, short_bytes}
use Rattle.call_log.specs.declared.version.Version.{Version}
use Rattle.call_log.specs.declared.version.Version.TheVariants.{One, Two}

-- the number of the version, as it is in the head
abbrev pub version_number : Version → ℕ
version_number One = 1
version_number Two = 2

-- the version with this number
abbrev pub version_numbered : ℕ → Option Version
version_numbered n = if n == 1 then Some One else (if n == 2 then Some Two else None)

-- ---- how a number is spelled

-- in all bytes of the width, or in as few as possible
abbrev pub number_bytes : Version → Width → ℕ → List ℕ
number_bytes One w n = to_le_bytes w n
number_bytes Two w n = short_bytes n

-- how far the clock is above that of the entry before, modulo 2 ^ 64
abbrev pub clock_gap : ℕ → ℕ → ℕ
clock_gap last clock = (clock + (2 ^ 64 - last % 2 ^ 64)) % 2 ^ 64

-- the clock itself, or how far it is above that of the entry before
abbrev pub clock_bytes : Version → ℕ → ℕ → List ℕ
clock_bytes One last clock = to_le_bytes w64 clock
clock_bytes Two last clock = short_bytes (clock_gap last clock)

-- ---- reading from the front: the number and the bytes after it, or nothing

-- what was read, where it is below the limit
abbrev pub if_below : ℕ → Option (ℕ × List ℕ) → Option (ℕ × List ℕ)
if_below limit found = option_and_then (λ x. if nat_lt x.0 limit then Some x else None) found

-- a number within the width
abbrev pub number_at : Version → Width → List ℕ → Option (ℕ × List ℕ)
number_at One w bytes = le_at w bytes
number_at Two w bytes = if_below (256 ^ byte_len w) (short_at bytes)

-- the clock that is so far above that of the entry before
abbrev pub clock_above : ℕ → ℕ → ℕ
clock_above last gap = (last + gap) % 2 ^ 64

abbrev pub clock_at : Version → ℕ → List ℕ → Option (ℕ × List ℕ)
clock_at One last bytes = le_at w64 bytes
clock_at Two last bytes = option_map (λ x. (clock_above last x.0, x.1)) (short_at bytes)
