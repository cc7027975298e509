-- What holds of the readers, whatever the bytes are.
use Rattle.std.specs.Prelude.{◌≡◌, ℕ, ◌^◌, ◌<◌, List, ◌++◌, length, slice_index, Some}
use Rattle.std.specs.Int.{Width, byte_len, to_le_bytes}
use Rattle.fri_bytes.specs.Leb.{IsUnsigned, IsSigned, unsigned_at, signed_at}
use Rattle.fri_bytes.specs.Reading.{Reads, IsLe, le_at, piece_at}
use Rattle.fri_bytes.specs.Short.{IsShort, short_at, short_bytes}

-- a piece of n bytes is its own spelling
abbrev pub IsPiece : ℕ → List ℕ → List ℕ → Type 0
IsPiece n spelling piece = (length piece ≡ n) × (spelling ≡ piece)

-- each item of the list is a byte
abbrev pub AreBytes : List ℕ → Type 0
AreBytes list = (i : ℕ) → slice_index list i < 256

-- Each reader gives exactly what the spellings say. A number that fits is read from the bytes that writing
-- it appends, whatever follows, and one that is read fits and stands there as writing it appends it.
pub record ExactReaders : Type 0 where
  pub piece : (n : ℕ) → Reads (IsPiece n) (piece_at n)
  pub number : (w : Width) → Reads (IsLe w) (le_at w)
  pub unsigned : (limit : ℕ) → Reads (IsUnsigned limit) (unsigned_at limit)
  pub signed : (limit : ℕ) → Reads (IsSigned limit) (signed_at limit)
  pub short : Reads IsShort short_at
  pub reads_written : (w : Width) (n : ℕ) (rest : List ℕ) → n < 256 ^ byte_len w → le_at w (to_le_bytes w n ++ rest) ≡ Some (n, rest)
  pub rewritten : (w : Width) (bytes : List ℕ) (n : ℕ) (rest : List ℕ) → AreBytes bytes → le_at w bytes ≡ Some (n, rest)
      → (n < 256 ^ byte_len w) × (bytes ≡ to_le_bytes w n ++ rest)
  pub reads_short : (n : ℕ) (rest : List ℕ) → n < 2 ^ 64 → short_at (short_bytes n ++ rest) ≡ Some (n, rest)
  pub short_rewritten : (bytes : List ℕ) (n : ℕ) (rest : List ℕ) → short_at bytes ≡ Some (n, rest) → (n < 2 ^ 64) × (bytes ≡ short_bytes n ++ rest)
