-- The byte at a covered position of a stream: the send that brought it, and the receive that took it.
use Rattle.std.specs.Prelude.{◌≡◌, ℕ, ◌-◌, ◌<◌, ◌≤◌, true, List, ◌∷◌, ◌++◌, Some, slice_get}
use Rattle.byte_streams.specs.declared.mark.PayloadMark.TheVariants.{Counted}
use Rattle.byte_streams.specs.Chunk.{StreamPiece, chunk_at}
use Rattle.byte_streams.specs.Traffic.{ReceivedPayload, Received, SentPayload, Sent, StreamName, SendOrReceive, is_covered_position, mark_of_receive, mark_of_send, read_count, stream_of, written_stream}

-- the piece has this byte over this position of its stream
pub record HasByteOver (i byte : ℕ) (piece : StreamPiece) : Type 0 where
  pub from : piece.offset ≤ i
  pub has : slice_get piece.bytes (i - piece.offset) ≡ Some byte

-- this send to the stream counts, and has the byte there
pub record BringsByte (name : StreamName) (i byte : ℕ) (s : SentPayload) (early : List SendOrReceive) : Type 0 where
  pub piece : StreamPiece
  pub chunk : chunk_at s.payload ≡ Some piece
  pub stream : stream_of s piece ≡ name
  pub over : HasByteOver i byte piece
  pub counts : mark_of_send s early ≡ Counted

abbrev pub stream_taken : ReceivedPayload → StreamPiece → StreamName
stream_taken r piece = record { from = r.tag.sender; to = r.by; number = piece.stream }

-- this receive of the stream counts, and has the byte there
pub record TakesByte (name : StreamName) (i byte : ℕ) (r : ReceivedPayload) (early : List SendOrReceive) : Type 0 where
  pub piece : StreamPiece
  pub chunk : chunk_at r.payload ≡ Some piece
  pub stream : stream_taken r piece ≡ name
  pub over : HasByteOver i byte piece
  pub counts : mark_of_receive r early ≡ Counted

-- the byte that stands at this position was taken, and before that it was brought
pub record WasBrought (name : StreamName) (i : ℕ) (traffic : List SendOrReceive) : Type 0 where
  pub byte : ℕ
  pub stands : slice_get (written_stream name traffic) i ≡ Some byte
  pub taken : ReceivedPayload
  pub sent : SentPayload
  pub later : List SendOrReceive
  pub between : List SendOrReceive
  pub early : List SendOrReceive
  pub order : traffic ≡ later ++ Received taken ∷ (between ++ Sent sent ∷ early)
  pub takes : TakesByte name i byte taken (between ++ Sent sent ∷ early)
  pub brings : BringsByte name i byte sent early

-- what is covered was written: so are the bytes that are read
abbrev pub CoveredWasWritten : Type 0
CoveredWasWritten = (name : StreamName) (i : ℕ) (traffic : List SendOrReceive) → is_covered_position name traffic i ≡ true → WasBrought name i traffic

abbrev pub ReadIsCovered : Type 0
ReadIsCovered = (name : StreamName) (i : ℕ) (traffic : List SendOrReceive) → i < read_count name traffic → is_covered_position name traffic i ≡ true
