-- What a send and a receive change in what is kept.
use Rattle.std.specs.FinMap as map
use Rattle.std.specs.Prelude.{ℕ, ◌+◌, ◌==◌, ◌&&◌, nat_le, Bool, true, false, if◌then◌else◌, List, [], ◌++◌, length, take, drop, replicate, Option, Some, None}
use Rattle.byte_streams.specs.Chunk.{StreamPiece}
use Rattle.byte_streams.specs.Keys.{StreamContents, ContentsByStream, StreamKey}
use Rattle.byte_streams.specs.Traffic.{continues_or_repeats, piece_stands_in}
use Rattle.byte_streams.specs.declared.send_map.SentChunk.{SentChunk}

-- ---- of one stream

-- nothing was written
abbrev pub empty_contents : StreamContents
empty_contents = record { written = []; covered = [] }

-- bytes at the end, which no receive covers
abbrev pub with_written : List ℕ → StreamContents → StreamContents
with_written bytes c = record { written = c.written ++ bytes; covered = c.covered ++ replicate (length bytes) false }

-- a piece that was sent: only one that begins at the end adds its bytes
abbrev pub with_sent_piece : StreamPiece → StreamContents → StreamContents
with_sent_piece piece c = if piece.offset == length c.written then with_written piece.bytes c else c

-- so many positions, from this one on, are covered
abbrev pub cover : ℕ → ℕ → List Bool → List Bool
cover offset count covered = take offset covered ++ (replicate count true ++ drop (offset + count) covered)

-- a piece that was taken covers its positions
abbrev pub with_cover : StreamPiece → StreamContents → StreamContents
with_cover piece c = record { written = c.written; covered = cover piece.offset (length piece.bytes) c.covered }

-- ---- of all streams

-- nothing is kept of a stream before its first send that counts
abbrev pub contents_or_empty : Option StreamContents → StreamContents
contents_or_empty None = empty_contents
contents_or_empty (Some c) = c

abbrev pub kept_contents_of : StreamKey → ContentsByStream → StreamContents
kept_contents_of key streams = contents_or_empty (map.get streams key)

-- a piece is sent to a stream
abbrev pub is_written_to : StreamKey → StreamPiece → ContentsByStream → Bool
is_written_to key piece streams = continues_or_repeats piece (kept_contents_of key streams).written

abbrev pub with_stream_sent : StreamKey → StreamPiece → ContentsByStream → ContentsByStream
with_stream_sent key piece streams = map.insert streams key (with_sent_piece piece (kept_contents_of key streams))

-- a piece is taken of a stream, which is there
abbrev pub piece_stands_among : StreamPiece → Option StreamContents → Bool
piece_stands_among piece None = false
piece_stands_among piece (Some c) = piece_stands_in piece c.written

abbrev pub is_taken_of : StreamKey → StreamPiece → ContentsByStream → Bool
is_taken_of key piece streams = piece_stands_among piece (map.get streams key)

abbrev pub with_taken : StreamKey → StreamPiece → ContentsByStream → ContentsByStream
with_taken key piece streams = map.insert streams key (with_cover piece (kept_contents_of key streams))

-- ---- of the sends that count

-- the piece begins where this send's does, in the same stream, for the same process, and is not longer
abbrev pub is_front_of_sent : ℕ → StreamPiece → Option SentChunk → Bool
is_front_of_sent by piece None = false
is_front_of_sent by piece (Some sent) =
    (sent.to == by) && ((sent.stream == piece.stream) && ((sent.offset == piece.offset) && nat_le (length piece.bytes) sent.count))
