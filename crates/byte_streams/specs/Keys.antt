-- How streams and sends are found.
use Rattle.std.specs.Coded.{Coded, code_by, coded×, coded_bool, coded_list, coded_ℕ}
use Rattle.std.specs.FinMap as map
use Rattle.std.specs.Ordering.{nat_cmp, ordering_then}
use Rattle.std.specs.Prelude.{ℕ, Bool, List, length, refl}
use Rattle.std.specs.declared.cmp.Ordering.{Ordering}
use Rattle.byte_streams.specs.Traffic.{StreamName, WrittenPiece}
use Rattle.byte_streams.specs.declared.send_map.SentChunk.{SentChunk}

-- by the process that writes, by the one that reads, and by number
abbrev pub StreamKey : Type 0
StreamKey = ℕ × (ℕ × ℕ)

abbrev pub stream_key_of : StreamName → StreamKey
stream_key_of name = (name.from, (name.to, name.number))

abbrev pub by_stream : StreamKey → StreamKey → Ordering
by_stream x y = ordering_then (nat_cmp x.0 y.0) (ordering_then (nat_cmp x.1.0 y.1.0) (nat_cmp x.1.1 y.1.1))

-- what was written to a stream, and which of its positions are covered
pub record StreamContents : Type 0 where
  pub written : List ℕ
  pub covered : List Bool

abbrev pub contents_code : Coded StreamContents
contents_code =
    code_by (List ℕ × List Bool) (coded× (coded_list coded_ℕ) (coded_list coded_bool))
    (λ c. (c.written, c.covered))
    (λ p. record { written = p.0; covered = p.1 })
    (λ _. refl)

abbrev pub ContentsByStream : Type 0
ContentsByStream = map.FinMap by_stream StreamContents

abbrev pub streams_code : Coded ContentsByStream
streams_code = map.code (coded× coded_ℕ (coded× coded_ℕ coded_ℕ)) contents_code

-- of a send that counts: where it goes to, its stream, its offset and how many bytes it has, which are part of what was written
abbrev pub chunk_of : WrittenPiece → SentChunk
chunk_of w = record { to = w.to; stream = w.piece.stream; offset = w.piece.offset; count = length w.piece.bytes }

abbrev pub sent_code : Coded SentChunk
sent_code =
    code_by (ℕ × (ℕ × (ℕ × ℕ))) (coded× coded_ℕ (coded× coded_ℕ (coded× coded_ℕ coded_ℕ)))
    (λ s. (s.to, (s.stream, (s.offset, s.count))))
    (λ p. record { to = p.0; stream = p.1.0; offset = p.1.1.0; count = p.1.1.1 })
    (λ _. refl)

-- by process, and then by clock
abbrev pub by_process_and_clock : ℕ × ℕ → ℕ × ℕ → Ordering
by_process_and_clock x y = ordering_then (nat_cmp x.0 y.0) (nat_cmp x.1 y.1)

abbrev pub Chunks : Type 0
Chunks = map.FinMap by_process_and_clock SentChunk

abbrev pub chunks_code : Coded Chunks
chunks_code = map.code (coded× coded_ℕ coded_ℕ) sent_code
