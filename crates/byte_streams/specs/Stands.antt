-- What is kept of the streams of a group, and the sends and receives that it stands for.
use Rattle.std.specs.Prelude.{◌≡◌, ℕ, List, length, map, Some, None, if◌then◌else◌, option_map, refl}
use Rattle.std.specs.Coded.{Coded, code_by, coded×}
use Rattle.std.specs.FinMap as map
use Rattle.byte_streams.specs.Traffic.{StreamName, SendOrReceive, numbers_below, counted_send, is_covered_position, is_listed_stream, written_stream}
use Rattle.byte_streams.specs.Keys.{Chunks, StreamContents, ContentsByStream, chunk_of, chunks_code, stream_key_of, streams_code}

-- of each stream with a send that counts, what was written to it and which of its positions are covered; and the sends that
-- count, by process and clock
pub record KeptTraffic : Type 0 where
  pub streams : ContentsByStream
  pub sends : Chunks

abbrev pub kept_traffic_code : Coded KeptTraffic
kept_traffic_code =
    code_by (ContentsByStream × Chunks) (coded× streams_code chunks_code)
    (λ k. (k.streams, k.sends))
    (λ p. record { streams = p.0; sends = p.1 })
    (λ _. refl)

abbrev pub stream_contents : StreamName → List SendOrReceive → StreamContents
stream_contents name traffic = record { written = written_stream name traffic; covered = map (is_covered_position name traffic) (numbers_below (length (written_stream name traffic))) }

-- what is kept is that of these sends and receives
pub record StandsFor (kept : KeptTraffic) (traffic : List SendOrReceive) : Type 0 where
  pub streams : (name : StreamName) → map.get kept.streams (stream_key_of name) ≡ (if is_listed_stream name traffic then Some (stream_contents name traffic) else None)
  pub sends : (from clock : ℕ) → map.get kept.sends (from, clock) ≡ option_map chunk_of (counted_send from clock traffic)
