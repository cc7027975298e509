-- The receives of some traffic, and the positions that they cover.
use Rattle.std.proofs.Common.{◌≡◌, ℕ, ◌+◌, ◌<◌, ◌≤◌, Bool, true, false, List, [], ◌∷◌, length, Option, Some, None, refl, sym, subst, ◌∙◌, arith, ⊎_elim, length-append}
use Rattle.std.specs.Prelude.{◌==◌, ◌&&◌, nat_eq, nat_le, if◌then◌else◌, option_map}
use Rattle.std.specs.List.{starts_with}
use Rattle.std.proofs.lemmas.Bool.{and_parts, eqb-true, false_from_ne_true, ltb-true, or_cases}
use Rattle.byte_streams.specs.Chunk.{StreamPiece, chunk_at}
use Rattle.byte_streams.specs.inside.Keeping.{is_front_of_sent, piece_stands_among}
use Rattle.byte_streams.specs.Keys.{StreamContents, chunk_of}
use Rattle.byte_streams.specs.Stands.{stream_contents}
use Rattle.byte_streams.specs.Traffic.{Received, ReceivedPayload, Sent, StreamName, SendOrReceive, WrittenPiece, added_stream_bytes, counted_send, covers_position, is_covered_position, is_front_of, is_listed_stream, is_stream, written_stream}
use Rattle.byte_streams.proofs.StreamPieces.{Stands, front_test, stands}
use Rattle.byte_streams.proofs.WrittenBytes.{IsKept, counted_kept, name_of, same_name}

-- ---- a receive counts by what is kept

and_same : (a x y : Bool) → (a ≡ true → x ≡ y) → (a && x) ≡ (a && y)
and_same true x y same = same refl
and_same false x y same = refl

-- three tests before the last two
regroup : (a b c d e : Bool) → (a && (b && (c && (d && e)))) ≡ ((a && (b && (c && d))) && e)
regroup true true true d e = refl
regroup true true false d e = refl
regroup true false c d e = refl
regroup false b c d e = refl

-- the contents of a stream with a send that counts
abbrev pub listed_contents : StreamName → List SendOrReceive → Option StreamContents
listed_contents name traffic = if is_listed_stream name traffic then Some (stream_contents name traffic) else None

front_kept : (from by : ℕ) (piece : StreamPiece) (early : List SendOrReceive) (w : WrittenPiece) → IsKept from w early → w.to ≡ by → w.piece.stream ≡ piece.stream → w.piece.offset ≡ piece.offset
    → starts_with nat_eq w.piece.bytes piece.bytes
    ≡ (nat_le (length piece.bytes) (length w.piece.bytes) && piece_stands_among piece (listed_contents (name_of from by piece.stream) early))
front_kept from by piece early w h to stream offset =
    let same : name_of from w.to w.piece.stream ≡ name_of from by piece.stream = λ i. name_of from (to i) (stream i) in
    let listed : is_listed_stream (name_of from by piece.stream) early ≡ true = subst (λ (n : StreamName). is_listed_stream n early ≡ true) same h.listed in
    let stands : Stands w.piece (written_stream (name_of from by piece.stream) early) = subst (λ (n : StreamName). Stands w.piece (written_stream n early)) same h.stands in
    front_test w.piece piece _ stands offset ∙ rw listed refl

front_of : (from by : ℕ) (piece : StreamPiece) (early : List SendOrReceive) (o : Option WrittenPiece) → ((w : WrittenPiece) → o ≡ Some w → IsKept from w early)
    → is_front_of by piece o ≡ (is_front_of_sent by piece (option_map chunk_of o) && piece_stands_among piece (listed_contents (name_of from by piece.stream) early))
front_of from by piece early None kept = refl
front_of from by piece early (Some w) kept =
    and_same (w.to == by) _ _ (λ to. and_same (w.piece.stream == piece.stream) _ _ (λ stream. and_same (w.piece.offset == piece.offset) _ _ (λ offset.
    front_kept from by piece early w (kept w refl) (eqb-true w.to by to) (eqb-true w.piece.stream piece.stream stream) (eqb-true w.piece.offset piece.offset offset))))
    ∙ regroup (w.to == by) (w.piece.stream == piece.stream) (w.piece.offset == piece.offset) _ _

-- the piece is a front of what was sent where the send that is kept has its place and not fewer bytes, and it is in what
-- is kept of the stream
pub front_is : (from clock by : ℕ) (piece : StreamPiece) (early : List SendOrReceive)
    → is_front_of by piece (counted_send from clock early)
    ≡ (is_front_of_sent by piece (option_map chunk_of (counted_send from clock early)) && piece_stands_among piece (listed_contents (name_of from by piece.stream) early))
front_is from clock by piece early = front_of from by piece early (counted_send from clock early) (counted_kept from clock early)

-- ---- what is covered was written

-- the stream of a front of what was sent is listed, and the front is in it
pub record IsFront (from by : ℕ) (piece : StreamPiece) (early : List SendOrReceive) : Type 0 where
  pub listed : is_listed_stream (name_of from by piece.stream) early ≡ true
  pub stands : Stands piece (written_stream (name_of from by piece.stream) early)

pub is_front : (from clock by : ℕ) (piece : StreamPiece) (early : List SendOrReceive) → is_front_of by piece (counted_send from clock early) ≡ true → IsFront from by piece early
is_front from clock by piece early e =
    let among =
    (and_parts (is_front_of_sent by piece (option_map chunk_of (counted_send from clock early))) (piece_stands_among piece (listed_contents (name_of from by piece.stream) early))
    (sym (front_is from clock by piece early) ∙ e)).1 in
    by_listed _ refl among where
      by_listed : (b : Bool) → is_listed_stream (name_of from by piece.stream) early ≡ b
          → piece_stands_among piece (if b then Some (stream_contents (name_of from by piece.stream) early) else None) ≡ true → IsFront from by piece early
      by_listed true is among = record { listed = is; stands = stands piece (written_stream (name_of from by piece.stream) early) among }
      by_listed false is among = absurd cc

covers_within : (name : StreamName) (i : ℕ) (r : ReceivedPayload) (o : Option StreamPiece) (early : List SendOrReceive) → covers_position name i r o early ≡ true → i < length (written_stream name early)
covers_within name i r None early e = absurd cc
covers_within name i r (Some piece) early e =
    let outer = and_parts (is_stream name r.tag.sender r.by piece.stream) _ e in
    let inner = and_parts (is_front_of r.by piece (counted_send r.tag.sender r.tag.clock early)) _ outer.1 in
    let within = (is_front r.tag.sender r.tag.clock r.by piece early inner.0).stands.within in
    let below = ltb-true i (piece.offset + length piece.bytes) (and_parts (nat_le piece.offset i) _ inner.1).1 in
    let here : i < length (written_stream (name_of r.tag.sender r.by piece.stream) early) = omega (arith, within, below) in
    subst (λ (n : StreamName). i < length (written_stream n early)) (sym (same_name name r.tag.sender r.by piece.stream outer.0)) here

pub covered_within : (name : StreamName) (traffic : List SendOrReceive) (i : ℕ) → is_covered_position name traffic i ≡ true → i < length (written_stream name traffic)
covered_within name [] i e = absurd cc
covered_within name (Sent s ∷ early) i e =
    let before = covered_within name early i e in
    omega (arith, before, length-append (written_stream name early) (added_stream_bytes name s (chunk_at s.payload) (written_stream name early)))
covered_within name (Received r ∷ early) i e =
    ⊎_elim (covers_within name i r (chunk_at r.payload) early) (covered_within name early i) (or_cases (covers_position name i r (chunk_at r.payload) early) (is_covered_position name early i) e)

pub uncovered : (name : StreamName) (traffic : List SendOrReceive) (i : ℕ) → length (written_stream name traffic) ≤ i → is_covered_position name traffic i ≡ false
uncovered name traffic i past = false_from_ne_true (is_covered_position name traffic i) (λ is. omega (arith, covered_within name traffic i is))
