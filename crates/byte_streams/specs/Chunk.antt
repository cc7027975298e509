-- A piece of a stream, as the payload of a datagram spells it.
use Rattle.std.specs.Prelude.{◌≡◌, ℕ, ◌^◌, ◌<◌, ◌&&◌, List, ◌++◌, length, drop, codes, nat_eq, nat_le, Option, Some, None, if◌then◌else◌}
use Rattle.std.specs.List.{starts_with}
use Rattle.std.specs.Int.{w16, w64, to_le_bytes, from_le_bytes}

-- of a stream: its number, how many bytes of it come before, and the bytes
pub record StreamPiece : Type 0 where
  pub stream : ℕ
  pub offset : ℕ
  pub bytes : List ℕ

-- the bytes that each chunk begins with
abbrev pub chunk_magic : List ℕ
chunk_magic = codes "STRM"

-- a chunk: the magic bytes, the stream's number in two bytes and the offset in eight, the lowest byte of a number first, and
-- then the piece's own bytes
unfoldable pub chunk_bytes : StreamPiece → List ℕ
chunk_bytes piece = chunk_magic ++ to_le_bytes w16 piece.stream ++ to_le_bytes w64 piece.offset ++ piece.bytes

-- the payload is the chunk of this piece
pub record IsChunk (payload : List ℕ) (piece : StreamPiece) : Type 0 where
  pub spelled : payload ≡ chunk_bytes piece
  pub stream : piece.stream < 2 ^ 16
  pub offset : piece.offset < 2 ^ 64

-- it is a chunk of no piece
abbrev pub IsNoChunk : List ℕ → Type 0
IsNoChunk payload = (piece : StreamPiece) → IsChunk payload piece → ⊥

-- what stands where a chunk has its numbers and its bytes
unfoldable pub piece_in : List ℕ → StreamPiece
piece_in payload = record { stream = from_le_bytes w16 (drop 4 payload); offset = from_le_bytes w64 (drop 6 payload); bytes = drop 14 payload }

-- the piece that the payload is a chunk of, or nothing where it is none
unfoldable pub chunk_at : List ℕ → Option StreamPiece
chunk_at payload = if nat_le 14 (length payload) && starts_with nat_eq payload chunk_magic then Some (piece_in payload) else None
