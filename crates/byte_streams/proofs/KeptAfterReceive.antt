-- What is kept after a receive.
use Rattle.std.proofs.Common.{◌≡◌, ℕ, ◌+◌, Bool, true, false, cond, List, ◌∷◌, length, map, Some, None, refl, sym, ap, ◌∙◌}
use Rattle.std.specs.Prelude.{◌&&◌, ◌||◌, nat_le, nat_lt}
use Rattle.std.specs.FinMap as map
use Rattle.std.proofs.lemmas.Bool.{and_right, cond-true}
use Rattle.byte_streams.specs.declared.mark.PayloadMark.TheVariants.{Counted, Plain, Strange}
use Rattle.byte_streams.specs.Chunk.{StreamPiece, chunk_at}
use Rattle.byte_streams.specs.inside.Keeping.{cover, is_taken_of, is_front_of_sent, kept_contents_of, piece_stands_among, with_cover, with_taken}
use Rattle.byte_streams.specs.Keys.{StreamContents, stream_key_of}
use Rattle.byte_streams.specs.Stands.{KeptTraffic, StandsFor, stream_contents}
use Rattle.byte_streams.specs.Traffic.{Received, ReceivedPayload, StreamName, SendOrReceive, numbers_below, counted_send, covers_position, is_covered_position, is_front_of, is_listed_stream, is_stream, mark_of_receive, written_stream}
use Rattle.byte_streams.proofs.CoveredPositions.{cover_below}
use Rattle.byte_streams.proofs.ReceivedPositions.{front_is, is_front, listed_contents}
use Rattle.byte_streams.proofs.TreeMaps.{by_stream_exact}
use Rattle.byte_streams.proofs.KeptStands.{StandsFor-same, Unchanged, kept_contents, listed_same, same_stream}
use Rattle.byte_streams.proofs.WrittenBytes.{name_of, own_name, same_name}

-- the process that wrote, the one that took it, and the number of the piece's stream
abbrev pub source : ReceivedPayload → StreamPiece → StreamName
source r piece = name_of r.tag.sender r.by piece.stream

abbrev pub source_key : ReceivedPayload → StreamPiece → ℕ × (ℕ × ℕ)
source_key r piece = (r.tag.sender, (r.by, piece.stream))

-- whether the receive counts, by what is kept
abbrev pub counts_kept : ReceivedPayload → StreamPiece → KeptTraffic → Bool
counts_kept r piece kept = is_front_of_sent r.by piece (map.get kept.sends (r.tag.sender, r.tag.clock)) && is_taken_of (source_key r piece) piece kept.streams

-- ---- a receive that does not count

uncovering : (r : ReceivedPayload) (early : List SendOrReceive) → ((name : StreamName) (i : ℕ) → covers_position name i r (chunk_at r.payload) early ≡ false) → Unchanged (Received r) early
uncovering r early none = record {
  listed = λ name. refl;
  written = λ name. refl;
  covered = λ name i. ap (λ (b : Bool). b || is_covered_position name early i) (none name i);
  sends = λ from clock. refl;
}

pub received_plain : (kept : KeptTraffic) (r : ReceivedPayload) (early : List SendOrReceive) → chunk_at r.payload ≡ None → StandsFor kept early
    → StandsFor kept (Received r ∷ early) × (Plain ≡ mark_of_receive r early)
received_plain kept r early none h = (StandsFor-same kept (Received r) early (uncovering r early (λ name i. rw none refl)) h, rw none refl)

front_by_kept : (kept : KeptTraffic) (r : ReceivedPayload) (early : List SendOrReceive) (piece : StreamPiece) → StandsFor kept early
    → counts_kept r piece kept ≡ is_front_of r.by piece (counted_send r.tag.sender r.tag.clock early)
front_by_kept kept r early piece h =
    (λ i. is_front_of_sent r.by piece (h.sends r.tag.sender r.tag.clock i) && piece_stands_among piece (h.streams (source r piece) i)) ∙ sym (front_is r.tag.sender r.tag.clock r.by piece early)

pub received_strange : (kept : KeptTraffic) (r : ReceivedPayload) (early : List SendOrReceive) (piece : StreamPiece) → chunk_at r.payload ≡ Some piece → counts_kept r piece kept ≡ false
    → StandsFor kept early → StandsFor kept (Received r ∷ early) × (Strange ≡ mark_of_receive r early)
received_strange kept r early piece at apart h =
    let off : is_front_of r.by piece (counted_send r.tag.sender r.tag.clock early) ≡ false = sym (front_by_kept kept r early piece h) ∙ apart in (
      StandsFor-same kept (Received r) early (uncovering r early (λ name i. rw (at, off) (and_right (is_stream name r.tag.sender r.by piece.stream) false refl))) h,
      rw (at, off) refl,
    )

-- ---- one that counts

module _ (r : ReceivedPayload) (early : List SendOrReceive) (piece : StreamPiece) (at : chunk_at r.payload ≡ Some piece)
    (front : is_front_of r.by piece (counted_send r.tag.sender r.tag.clock early) ≡ true) where
  covers_own : (i : ℕ) → is_covered_position (source r piece) (Received r ∷ early) i
      ≡ ((nat_le piece.offset i && nat_lt i (piece.offset + length piece.bytes)) || is_covered_position (source r piece) early i)
  covers_own i = rw (at, own_name r.tag.sender r.by piece.stream, front) refl

  contents_taken : stream_contents (source r piece) (Received r ∷ early) ≡ with_cover piece (stream_contents (source r piece) early)
  contents_taken =
      let bytes = written_stream (source r piece) early in
      let covered : map (is_covered_position (source r piece) (Received r ∷ early)) (numbers_below (length bytes))
      ≡ cover piece.offset (length piece.bytes) (map (is_covered_position (source r piece) early) (numbers_below (length bytes))) =
      (λ j. map (λ (i : ℕ). covers_own i j) (numbers_below (length bytes)))
      ∙ cover_below (is_covered_position (source r piece) early) piece.offset (length piece.bytes) (length bytes) (is_front r.tag.sender r.tag.clock r.by piece early front).stands.within in
      λ j. record { written = bytes; covered = covered j }

  covers_other : (name : StreamName) (i : ℕ) → is_stream name r.tag.sender r.by piece.stream ≡ false → is_covered_position name (Received r ∷ early) i ≡ is_covered_position name early i
  covers_other name i other = rw (at, other) refl

  -- what the streams have then
  stream_at : (kept : KeptTraffic) (name : StreamName) → StandsFor kept early
      → map.get (with_taken (source_key r piece) piece kept.streams) (stream_key_of name) ≡ listed_contents name (Received r ∷ early)
  stream_at kept name stands =
      map.get-insert by_stream_exact.total kept.streams (source_key r piece) (with_cover piece (kept_contents_of (source_key r piece) kept.streams)) (stream_key_of name)
      ∙ ap (λ (b : Bool). cond b (Some (with_cover piece (kept_contents_of (source_key r piece) kept.streams))) (map.get kept.streams (stream_key_of name)))
      (same_stream name r.tag.sender r.by piece.stream)
      ∙ by_name _ refl where
        by_name : (b : Bool) → is_stream name r.tag.sender r.by piece.stream ≡ b
            → cond b (Some (with_cover piece (kept_contents_of (source_key r piece) kept.streams))) (map.get kept.streams (stream_key_of name)) ≡ listed_contents name (Received r ∷ early)
        by_name true is =
            ap (λ (c : StreamContents). Some (with_cover piece c)) (kept_contents kept early (source r piece) stands)
            ∙ ap Some (sym contents_taken)
            ∙ sym (cond-true (is_listed_stream (source r piece) early) (Some (stream_contents (source r piece) (Received r ∷ early))) None (is_front r.tag.sender r.tag.clock r.by piece early front).listed)
            ∙ ap (λ (n : StreamName). listed_contents n (Received r ∷ early)) (sym (same_name name r.tag.sender r.by piece.stream is))
        by_name false other = stands.streams name ∙ sym (listed_same name (Received r) early refl refl (λ i. covers_other name i other))

pub received_counted : (kept : KeptTraffic) (r : ReceivedPayload) (early : List SendOrReceive) (piece : StreamPiece) → chunk_at r.payload ≡ Some piece → counts_kept r piece kept ≡ true
    → StandsFor kept early
    → StandsFor (record { streams = with_taken (source_key r piece) piece kept.streams; sends = kept.sends }) (Received r ∷ early) × (Counted ≡ mark_of_receive r early)
received_counted kept r early piece at counts h =
    let front : is_front_of r.by piece (counted_send r.tag.sender r.tag.clock early) ≡ true = sym (front_by_kept kept r early piece h) ∙ counts in
    (record { streams = λ name. stream_at r early piece at front kept name h; sends = h.sends }, rw (at, front) refl)
