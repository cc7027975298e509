-- The sends and receives of a group, and the streams that they make. All lists of them have the latest first.
use Rattle.std.specs.Prelude.{ℕ, zero, suc, ◌+◌, ◌==◌, ◌&&◌, ◌||◌, Bool, false, nat_eq, nat_lt, nat_le, bytes_eq, if◌then◌else◌, List, [], ◌∷◌, ◌++◌, length, take, drop, Option, Some, None}
use Rattle.std.specs.List.{starts_with, take_while}
use Rattle.lamport_tag.specs.declared.Tag.{Tag}
use Rattle.byte_streams.specs.declared.mark.PayloadMark.{PayloadMark}
use Rattle.byte_streams.specs.declared.mark.PayloadMark.TheVariants.{Plain, Counted, Strange}
use Rattle.byte_streams.specs.Chunk.{StreamPiece, chunk_at}

-- a process sent a payload to another at this clock
pub record SentPayload : Type 0 where
  pub from : ℕ
  pub clock : ℕ
  pub to : ℕ
  pub payload : List ℕ

-- a process took a payload after this tag
pub record ReceivedPayload : Type 0 where
  pub by : ℕ
  pub tag : Tag
  pub payload : List ℕ

pub data SendOrReceive : Type 0 where
  Sent : (s : SentPayload) → SendOrReceive
  Received : (r : ReceivedPayload) → SendOrReceive

-- a stream: the processes that write it and read it, and its number
pub record StreamName : Type 0 where
  pub from : ℕ
  pub to : ℕ
  pub number : ℕ

abbrev pub is_stream : StreamName → ℕ → ℕ → ℕ → Bool
is_stream name from to number = (name.from == from) && ((name.to == to) && (name.number == number))

-- ---- what was written

-- the bytes that a send adds after those that were written to the stream before
abbrev pub added_stream_bytes : StreamName → SentPayload → Option StreamPiece → List ℕ → List ℕ
added_stream_bytes name s None before = []
added_stream_bytes name s (Some piece) before = if is_stream name s.from s.to piece.stream && (piece.offset == length before) then piece.bytes else []

abbrev pub written_stream : StreamName → List SendOrReceive → List ℕ
written_stream name [] = []
written_stream name (Received r ∷ early) = written_stream name early
written_stream name (Sent s ∷ early) = written_stream name early ++ added_stream_bytes name s (chunk_at s.payload) (written_stream name early)

-- ---- what a send is

-- the piece lies within these bytes and is what is there
abbrev pub piece_stands_in : StreamPiece → List ℕ → Bool
piece_stands_in piece bytes = nat_le (piece.offset + length piece.bytes) (length bytes) && bytes_eq piece.bytes (take (length piece.bytes) (drop piece.offset bytes))

-- it begins at the end of what was written before, or repeats a part of it
abbrev pub continues_or_repeats : StreamPiece → List ℕ → Bool
continues_or_repeats piece before = (piece.offset == length before) || piece_stands_in piece before

abbrev pub stream_of : SentPayload → StreamPiece → StreamName
stream_of s piece = record { from = s.from; to = s.to; number = piece.stream }

abbrev pub send_mark : SentPayload → Option StreamPiece → List SendOrReceive → PayloadMark
send_mark s None early = Plain
send_mark s (Some piece) early = if continues_or_repeats piece (written_stream (stream_of s piece) early) then Counted else Strange

-- after the traffic before it
abbrev pub mark_of_send : SentPayload → List SendOrReceive → PayloadMark
mark_of_send s early = send_mark s (chunk_at s.payload) early

-- ---- the sends that count

-- of a send: the process that it goes to, and its piece
pub record WrittenPiece : Type 0 where
  pub to : ℕ
  pub piece : StreamPiece

-- the send where it counts
abbrev pub send_that_counts : SentPayload → Option StreamPiece → List SendOrReceive → Option WrittenPiece
send_that_counts s None early = None
send_that_counts s (Some piece) early = if continues_or_repeats piece (written_stream (stream_of s piece) early) then Some (record { to = s.to; piece = piece }) else None

-- the latest of these, or of what was before
abbrev pub latest_written : Option WrittenPiece → Option WrittenPiece → Option WrittenPiece
latest_written None before = before
latest_written (Some w) before = Some w

-- the send of a process at this clock, where one counts
abbrev pub counted_send : ℕ → ℕ → List SendOrReceive → Option WrittenPiece
counted_send from clock [] = None
counted_send from clock (Received r ∷ early) = counted_send from clock early
counted_send from clock (Sent s ∷ early) =
    if (s.from == from) && (s.clock == clock) then latest_written (send_that_counts s (chunk_at s.payload) early) (counted_send from clock early) else counted_send from clock early

-- some send to the stream counts
abbrev pub is_to_stream : StreamName → SentPayload → Option WrittenPiece → Bool
is_to_stream name s None = false
is_to_stream name s (Some w) = is_stream name s.from w.to w.piece.stream

abbrev pub is_listed_stream : StreamName → List SendOrReceive → Bool
is_listed_stream name [] = false
is_listed_stream name (Received r ∷ early) = is_listed_stream name early
is_listed_stream name (Sent s ∷ early) = is_to_stream name s (send_that_counts s (chunk_at s.payload) early) || is_listed_stream name early

-- ---- what a receive is

-- the piece is the front of what this send, which counts, wrote for the process
abbrev pub is_front_of : ℕ → StreamPiece → Option WrittenPiece → Bool
is_front_of by piece None = false
is_front_of by piece (Some w) =
    (w.to == by) && ((w.piece.stream == piece.stream) && ((w.piece.offset == piece.offset) && starts_with nat_eq w.piece.bytes piece.bytes))

abbrev pub receive_mark : ReceivedPayload → Option StreamPiece → List SendOrReceive → PayloadMark
receive_mark r None early = Plain
receive_mark r (Some piece) early = if is_front_of r.by piece (counted_send r.tag.sender r.tag.clock early) then Counted else Strange

-- after the traffic before it
abbrev pub mark_of_receive : ReceivedPayload → List SendOrReceive → PayloadMark
mark_of_receive r early = receive_mark r (chunk_at r.payload) early

-- ---- what was read

-- a receive that counts has its bytes over this position of the stream
abbrev pub covers_position : StreamName → ℕ → ReceivedPayload → Option StreamPiece → List SendOrReceive → Bool
covers_position name i r None early = false
covers_position name i r (Some piece) early =
    is_stream name r.tag.sender r.by piece.stream
    && (is_front_of r.by piece (counted_send r.tag.sender r.tag.clock early)
    && (nat_le piece.offset i && nat_lt i (piece.offset + length piece.bytes)))

-- some receive has
abbrev pub is_covered_position : StreamName → List SendOrReceive → ℕ → Bool
is_covered_position name [] i = false
is_covered_position name (Sent s ∷ early) i = is_covered_position name early i
is_covered_position name (Received r ∷ early) i = covers_position name i r (chunk_at r.payload) early || is_covered_position name early i

-- the numbers below this one
abbrev pub numbers_below : ℕ → List ℕ
numbers_below zero = []
numbers_below (suc n) = numbers_below n ++ n ∷ []

-- how many positions at the front of what was written are covered
abbrev pub read_count : StreamName → List SendOrReceive → ℕ
read_count name traffic = length (take_while (is_covered_position name traffic) (numbers_below (length (written_stream name traffic))))

-- the bytes that were read: the longest front of those written that is covered
abbrev pub read_bytes : StreamName → List SendOrReceive → List ℕ
read_bytes name traffic = take (read_count name traffic) (written_stream name traffic)
