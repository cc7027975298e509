-- What holds of the streams that are kept, whatever was sent and received.
use Rattle.std.specs.Prelude.{◌≡◌, ℕ, ◌<◌, ◌≤◌, ◌==◌, ◌&&◌, Bool, false, List, ◌∷◌, ◌++◌, length, take, Some, None}
use Rattle.std.specs.FinMap as map
use Rattle.std.specs.List.{AllByRecursion}
use Rattle.byte_streams.specs.declared.mark.PayloadMark.TheVariants.{Plain, Counted, Strange}
use Rattle.byte_streams.specs.Chunk.{chunk_at}
use Rattle.byte_streams.specs.Keys.{StreamContents, stream_key_of}
use Rattle.byte_streams.specs.Lines.{covered_front, read_of}
use Rattle.byte_streams.specs.Stands.{KeptTraffic, StandsFor}
use Rattle.byte_streams.specs.Traffic.{ReceivedPayload, Received, SentPayload, Sent, StreamName, SendOrReceive, WrittenPiece, counted_send, mark_of_receive, mark_of_send, read_bytes, read_count, written_stream}

-- this is a send of the process at this clock
abbrev pub is_send_at : ℕ → ℕ → SendOrReceive → Bool
is_send_at from clock (Sent s) = (s.from == from) && (s.clock == clock)
is_send_at from clock (Received r) = false

-- none of these is
abbrev pub IsUnsent : ℕ → ℕ → List SendOrReceive → Type 0
IsUnsent from clock traffic = AllByRecursion (λ t. is_send_at from clock t ≡ false) traffic

abbrev pub NoSendIsAbsent : Type 0
NoSendIsAbsent =
    (kept : KeptTraffic) (traffic : List SendOrReceive) (from clock : ℕ) → StandsFor kept traffic → IsUnsent from clock traffic
    → map.get kept.sends (from, clock) ≡ None

-- what is read of a stream that is kept is what was read of it: a front of what was written
pub record IsReadOf (c : StreamContents) (name : StreamName) (traffic : List SendOrReceive) : Type 0 where
  pub bytes : read_of c ≡ read_bytes name traffic
  pub count : covered_front c ≡ read_count name traffic
  pub within : read_count name traffic ≤ length (written_stream name traffic)
  pub written : c.written ≡ written_stream name traffic

abbrev pub ReadMatchesTraffic : Type 0
ReadMatchesTraffic =
    (kept : KeptTraffic) (traffic : List SendOrReceive) (name : StreamName) (c : StreamContents) → StandsFor kept traffic
    → map.get kept.streams (stream_key_of name) ≡ Some c → IsReadOf c name traffic

-- the payload is the front, so many bytes long, of what the send that the tag names brought to this process
pub record IsFrontOf (r : ReceivedPayload) (early : List SendOrReceive) (count : ℕ) : Type 0 where
  pub sent : WrittenPiece
  pub payload : List ℕ
  pub counted : counted_send r.tag.sender r.tag.clock early ≡ Some sent
  pub chunk : chunk_at payload ≡ Some sent.piece
  pub to : sent.to ≡ r.by
  pub front : r.payload ≡ take count payload

-- such a front counts where it has room for a chunk
abbrev pub TruncatedChunksCount : Type 0
TruncatedChunksCount = (r : ReceivedPayload) (early : List SendOrReceive) (count : ℕ) → IsFrontOf r early count → 14 ≤ length r.payload → mark_of_receive r early ≡ Counted

-- and what has none is plain
abbrev pub ShortIsPlain : Type 0
ShortIsPlain = (r : ReceivedPayload) (early : List SendOrReceive) → length r.payload < 14 → mark_of_receive r early ≡ Plain

-- the front of a payload that is no chunk is plain too
abbrev pub PlainFronts : Type 0
PlainFronts = (r : ReceivedPayload) (early : List SendOrReceive) (payload : List ℕ) (count : ℕ) → chunk_at payload ≡ None → r.payload ≡ take count payload → mark_of_receive r early ≡ Plain

-- a process took a front of what this send brought to it, and its sender made no later one at that clock
pub record IsTakenOf (r : ReceivedPayload) (s : SentPayload) (later : List SendOrReceive) (count : ℕ) : Type 0 where
  pub sender : r.tag.sender ≡ s.from
  pub clock : r.tag.clock ≡ s.clock
  pub by : r.by ≡ s.to
  pub front : r.payload ≡ take count s.payload
  pub unsent : IsUnsent s.from s.clock later

-- such a receive is strange only where the send is
abbrev pub StrangeBySend : Type 0
StrangeBySend =
    (r : ReceivedPayload) (s : SentPayload) (later early : List SendOrReceive) (count : ℕ) → IsTakenOf r s later count
    → mark_of_receive r (later ++ Sent s ∷ early) ≡ Strange → mark_of_send s early ≡ Strange
