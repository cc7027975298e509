-- Short numbers: numbers below 2 ^ 64 in the shortest unsigned LEB128 spelling, seven bits a byte and the lowest
-- first, where a byte from 128 on is not the last.
use Rattle.std.specs.Prelude.{◌≡◌, ℕ, zero, suc, ◌+◌, ◌-◌, ◌*◌, ◌/◌, ◌%◌, ◌^◌, ◌<◌, ◌≤◌, ◌==◌, ◌||◌, List, [], ◌∷◌, Option, Some, None, nat_lt, nat_le, if◌then◌else◌, option_and_then}

-- The bytes spell the number, and no byte could be left out: what follows a byte from 128 on is not 0.
abbrev pub IsShortest : List ℕ → ℕ → Type 0
IsShortest [] n = ⊥
IsShortest (b ∷ []) n = (b < 128) × (n ≡ b)
IsShortest (b ∷ c ∷ bs) n = (128 ≤ b) × (b < 256) × (high : ℕ) × (1 ≤ high) × (n ≡ 128 * high + (b - 128)) × IsShortest (c ∷ bs) high

-- the bytes are the short spelling of the number, which takes 10 bytes at most
pub record IsShort (bytes : List ℕ) (n : ℕ) : Type 0 where
  pub small : n < 2 ^ 64
  pub shortest : IsShortest bytes n

-- ---- writing

-- the short spelling, of at most so many bytes
abbrev pub short_within : ℕ → ℕ → List ℕ
short_within zero n = []
short_within (suc more) n = if nat_lt n 128 then n ∷ [] else (128 + n % 128) ∷ short_within more (n / 128)

-- the short spelling of a number below 2 ^ 64
unfoldable pub short_bytes : ℕ → List ℕ
short_bytes n = short_within 10 n

-- ---- reading from the front: the number and the bytes after it, or nothing

-- seven bits and those of the bytes after them, which are not 0 and fit
abbrev pub longer_short : ℕ → ℕ × List ℕ → Option (ℕ × List ℕ)
longer_short b x = if (x.0 == 0) || nat_le (2 ^ 57) x.0 then None else Some (128 * x.0 + (b - 128), x.1)

-- the number in at most so many bytes
abbrev pub short_within_at : ℕ → List ℕ → Option (ℕ × List ℕ)
short_within_at zero bytes = None
short_within_at (suc more) [] = None
short_within_at (suc more) (b ∷ bytes) =
    if nat_lt b 128 then Some (b, bytes) else (if nat_lt b 256 then option_and_then (longer_short b) (short_within_at more bytes) else None)

-- the short number at the front of the bytes
unfoldable pub short_at : List ℕ → Option (ℕ × List ℕ)
short_at bytes = short_within_at 10 bytes
