-- The bytes at covered positions were brought by sends.
use Rattle.std.proofs.Common.{◌≡◌, ℕ, ◌+◌, ◌-◌, ◌<◌, ◌≤◌, Bool, true, false, List, [], ◌∷◌, ◌++◌, length, take, drop, get_or, Option, Some, None, refl, sym, ap, subst, ◌∙◌, arith, ⊎_elim, length-append}
use Rattle.std.specs.Prelude.{◌==◌, ◌&&◌, nat_le, nat_lt, slice_get}
use Rattle.std.proofs.lemmas.Bool.{and_parts, cond-false, cond-true, eqb-true, leb-true, ltb-true, or_cases}
use Rattle.std.proofs.lemmas.List.{get_or-drop, get_or-take, get_or_append_left, length-take}
use Rattle.std.proofs.lemmas.Option.{get_or_from_slice_get, slice_get-get_or, slice_get_within}
use Rattle.std.proofs.lemmas.Slice.Eq.{bytes_eq-Decides}
use Rattle.byte_streams.specs.declared.mark.PayloadMark.TheVariants.{Counted}
use Rattle.byte_streams.specs.Chunk.{StreamPiece, chunk_at}
use Rattle.byte_streams.specs.CoveredBytes.{CoveredWasWritten, TakesByte, WasBrought}
use Rattle.byte_streams.specs.Traffic.{ReceivedPayload, Received, SentPayload, Sent, StreamName, SendOrReceive, WrittenPiece, added_stream_bytes, counted_send, covers_position, is_covered_position, is_front_of, is_stream, latest_written, mark_of_receive, mark_of_send, send_that_counts, stream_of, written_stream}
use Rattle.byte_streams.proofs.StreamPieces.{Stands}
use Rattle.byte_streams.proofs.WrittenBytes.{Counts, counted_kept, counts, latest_of, name_of, same_name}

-- ---- the send that is found at a clock

record IsFound (from : ℕ) (w : WrittenPiece) (traffic : List SendOrReceive) : Type 0 where
  sent : SentPayload
  between : List SendOrReceive
  early : List SendOrReceive
  order : traffic ≡ between ++ Sent sent ∷ early
  sender : sent.from ≡ from
  counting : Counts sent early w

found_later : (from : ℕ) (w : WrittenPiece) (t : SendOrReceive) (traffic : List SendOrReceive) → IsFound from w traffic → IsFound from w (t ∷ traffic)
found_later from w t traffic h = record {
  sent = h.sent;
  between = t ∷ h.between;
  early = h.early;
  order = ap (λ (l : List SendOrReceive). t ∷ l) h.order;
  sender = h.sender;
  counting = h.counting;
}

found_sent : (from clock : ℕ) (s : SentPayload) (early : List SendOrReceive) (w : WrittenPiece) → (counted_send from clock early ≡ Some w → IsFound from w early)
    → counted_send from clock (Sent s ∷ early) ≡ Some w → IsFound from w (Sent s ∷ early)
found_sent from clock s early w before e = by_key _ refl where
  by_key : (b : Bool) → ((s.from == from) && (s.clock == clock)) ≡ b → IsFound from w (Sent s ∷ early)
  by_key false other =
      let is : counted_send from clock early ≡ Some w = sym (cond-false _ _ _ other) ∙ e in
      found_later from w (Sent s) early (before is)
  by_key true same =
      let is : latest_written (send_that_counts s (chunk_at s.payload) early) (counted_send from clock early) ≡ Some w = sym (cond-true _ _ _ same) ∙ e in
      let own = eqb-true s.from from (and_parts (s.from == from) (s.clock == clock) same).0 in
      ⊎_elim (λ new. record { sent = s; between = []; early = early; order = refl; sender = own; counting = counts s early w new })
      (λ old. found_later from w (Sent s) early (before old)) (latest_of _ _ w is)

found : (from clock : ℕ) (traffic : List SendOrReceive) (w : WrittenPiece) → counted_send from clock traffic ≡ Some w → IsFound from w traffic
found from clock [] w e = absurd cc
found from clock (Received r ∷ early) w e = found_later from w (Received r) early (found from clock early w e)
found from clock (Sent s ∷ early) w e = found_sent from clock s early w (found from clock early w) e

-- ---- the byte there

record IsFrontIn (by : ℕ) (piece : StreamPiece) (w : WrittenPiece) : Type 0 where
  to : w.to ≡ by
  stream : w.piece.stream ≡ piece.stream
  offset : w.piece.offset ≡ piece.offset
  bytes : piece.bytes ≡ take (length piece.bytes) w.piece.bytes
  fewer : length piece.bytes ≤ length w.piece.bytes

front_in : (by : ℕ) (piece : StreamPiece) (w : WrittenPiece) → is_front_of by piece (Some w) ≡ true → IsFrontIn by piece w
front_in by piece w e =
    let to = and_parts (w.to == by) _ e in
    let stream = and_parts (w.piece.stream == piece.stream) _ to.1 in
    let offset = and_parts (w.piece.offset == piece.offset) _ stream.1 in
    let same : piece.bytes ≡ take (length piece.bytes) w.piece.bytes = (bytes_eq-Decides piece.bytes (take (length piece.bytes) w.piece.bytes)).0 offset.1 in
    record {
      to = eqb-true w.to by to.0;
      stream = eqb-true w.piece.stream piece.stream stream.0;
      offset = eqb-true w.piece.offset piece.offset offset.0;
      bytes = same;
      fewer = omega (arith, ap length same, length-take (length piece.bytes) w.piece.bytes);
    }

-- a front has the byte that the whole has
front_byte : (by i : ℕ) (piece : StreamPiece) (w : WrittenPiece) → IsFrontIn by piece w → i - piece.offset < length piece.bytes
    → slice_get piece.bytes (i - piece.offset) ≡ Some (get_or w.piece.bytes (i - w.piece.offset) 0)
front_byte by i piece w h less =
    slice_get-get_or piece.bytes (i - piece.offset) 0 less
    ∙ ap Some
    (ap (λ (l : List ℕ). get_or l (i - piece.offset) 0) h.bytes ∙ get_or-take (length piece.bytes) w.piece.bytes (i - piece.offset) 0 less
    ∙ ap (λ (o : ℕ). get_or w.piece.bytes (i - o) 0) (sym h.offset))

-- so do the bytes that the piece stands in
stands_byte : (i : ℕ) (piece : StreamPiece) (bytes : List ℕ) → Stands piece bytes → piece.offset ≤ i → i < piece.offset + length piece.bytes
    → slice_get bytes i ≡ Some (get_or piece.bytes (i - piece.offset) 0)
stands_byte i piece bytes h from below =
    let less : i - piece.offset < length piece.bytes = omega arith in
    let at : piece.offset + (i - piece.offset) ≡ i = omega arith in
    let here : get_or piece.bytes (i - piece.offset) 0 ≡ get_or bytes i 0 =
    ap (λ (l : List ℕ). get_or l (i - piece.offset) 0) h.same ∙ get_or-take (length piece.bytes) (drop piece.offset bytes) (i - piece.offset) 0 less
    ∙ get_or-drop piece.offset bytes (i - piece.offset) 0 ∙ ap (λ (k : ℕ). get_or bytes k 0) at in
    slice_get-get_or bytes i 0 (omega (arith, h.within)) ∙ ap Some (sym here)

-- ---- the receive that covers

mark_counts : (s : SentPayload) (early : List SendOrReceive) (w : WrittenPiece) → Counts s early w → mark_of_send s early ≡ Counted
mark_counts s early w h = rw (h.chunk, h.goes_on) refl

receive_counts : (r : ReceivedPayload) (early : List SendOrReceive) (piece : StreamPiece) → chunk_at r.payload ≡ Some piece
    → is_front_of r.by piece (counted_send r.tag.sender r.tag.clock early) ≡ true → mark_of_receive r early ≡ Counted
receive_counts r early piece at front = rw (at, front) refl

-- what is said where a receive covers a position
record Covers (name : StreamName) (i : ℕ) (r : ReceivedPayload) (piece : StreamPiece) (early : List SendOrReceive) : Type 0 where
  same : name ≡ name_of r.tag.sender r.by piece.stream
  front : is_front_of r.by piece (counted_send r.tag.sender r.tag.clock early) ≡ true
  from : piece.offset ≤ i
  below : i < piece.offset + length piece.bytes

covers : (name : StreamName) (i : ℕ) (r : ReceivedPayload) (piece : StreamPiece) (early : List SendOrReceive) → covers_position name i r (Some piece) early ≡ true → Covers name i r piece early
covers name i r piece early e =
    let outer = and_parts (is_stream name r.tag.sender r.by piece.stream) _ e in
    let inner = and_parts (is_front_of r.by piece (counted_send r.tag.sender r.tag.clock early)) _ outer.1 in
    let range = and_parts (nat_le piece.offset i) (nat_lt i (piece.offset + length piece.bytes)) inner.1 in
    record {
      same = same_name name r.tag.sender r.by piece.stream outer.0;
      front = inner.0;
      from = leb-true piece.offset i range.0;
      below = ltb-true i (piece.offset + length piece.bytes) range.1;
    }

brought_by : (name : StreamName) (i : ℕ) (r : ReceivedPayload) (piece : StreamPiece) (early : List SendOrReceive) → chunk_at r.payload ≡ Some piece → Covers name i r piece early
    → (w : WrittenPiece) → counted_send r.tag.sender r.tag.clock early ≡ Some w → IsFrontIn r.by piece w → WasBrought name i (Received r ∷ early)
brought_by name i r piece early at c w is h =
    let f = found r.tag.sender r.tag.clock early w is in
    let from : piece.offset ≤ i = c.from in
    let below : i < piece.offset + length piece.bytes = c.below in
    let less : i - piece.offset < length piece.bytes = omega arith in
    let name_is : name_of r.tag.sender w.to w.piece.stream ≡ name = (λ j. name_of r.tag.sender (h.to j) (h.stream j)) ∙ sym c.same in
    let stands : Stands w.piece (written_stream name early) =
    subst (λ (n : StreamName). Stands w.piece (written_stream n early)) name_is (counted_kept r.tag.sender r.tag.clock early w is).stands in
    let byte = get_or w.piece.bytes (i - w.piece.offset) 0 in
    let takes : TakesByte name i byte r early = record {
      piece = piece;
      chunk = at;
      stream = sym c.same;
      over = record { from = from; has = front_byte r.by i piece w h less };
      counts = receive_counts r early piece at c.front;
    } in
    let sent_name : stream_of f.sent w.piece ≡ name = (λ j. name_of (f.sender j) (sym f.counting.to j) w.piece.stream) ∙ name_is in
    record {
      byte = byte;
      stands = stands_byte i w.piece (written_stream name early) stands (omega (arith, h.offset)) (omega (arith, h.offset, h.fewer));
      taken = r;
      sent = f.sent;
      later = [];
      between = f.between;
      early = f.early;
      order = ap (λ (l : List SendOrReceive). Received r ∷ l) f.order;
      takes = subst (λ (l : List SendOrReceive). TakesByte name i byte r l) f.order takes;
      brings = record {
        piece = w.piece;
        chunk = f.counting.chunk;
        stream = sent_name;
        over = record { from = omega (arith, h.offset); has = slice_get-get_or w.piece.bytes (i - w.piece.offset) 0 (omega (arith, h.offset, h.fewer)) };
        counts = mark_counts f.sent f.early w f.counting;
      };
    }

covered_by : (name : StreamName) (i : ℕ) (r : ReceivedPayload) (piece : StreamPiece) (early : List SendOrReceive) → chunk_at r.payload ≡ Some piece → Covers name i r piece early
    → WasBrought name i (Received r ∷ early)
covered_by name i r piece early at c = by_send _ refl where
  by_send : (o : Option WrittenPiece) → counted_send r.tag.sender r.tag.clock early ≡ o → WasBrought name i (Received r ∷ early)
  by_send None is = let no : false ≡ true = ap (is_front_of r.by piece) (sym is) ∙ c.front in absurd cc
  by_send (Some w) is = brought_by name i r piece early at c w is (front_in r.by piece w (ap (is_front_of r.by piece) (sym is) ∙ c.front))

by_chunk : (name : StreamName) (i : ℕ) (r : ReceivedPayload) (early : List SendOrReceive) (o : Option StreamPiece) → chunk_at r.payload ≡ o → covers_position name i r o early ≡ true
    → WasBrought name i (Received r ∷ early)
by_chunk name i r early None at e = absurd cc
by_chunk name i r early (Some piece) at e = covered_by name i r piece early at (covers name i r piece early e)

-- ---- what comes later changes nothing

brought_later : (name : StreamName) (i : ℕ) (t : SendOrReceive) (early : List SendOrReceive) (h : WasBrought name i early) → slice_get (written_stream name (t ∷ early)) i ≡ Some h.byte
    → WasBrought name i (t ∷ early)
brought_later name i t early h stands = record {
  byte = h.byte;
  stands = stands;
  taken = h.taken;
  sent = h.sent;
  later = t ∷ h.later;
  between = h.between;
  early = h.early;
  order = ap (λ (l : List SendOrReceive). t ∷ l) h.order;
  takes = h.takes;
  brings = h.brings;
}

still_there : (bytes more : List ℕ) (i byte : ℕ) → slice_get bytes i ≡ Some byte → slice_get (bytes ++ more) i ≡ Some byte
still_there bytes more i byte is =
    let within = slice_get_within bytes i byte is in
    slice_get-get_or (bytes ++ more) i 0 (omega (arith, within, length-append bytes more)) ∙ ap Some (get_or_append_left bytes more 0 i within ∙ get_or_from_slice_get bytes i byte 0 is)

pub covered_was_written : CoveredWasWritten
covered_was_written name i [] e = absurd cc
covered_was_written name i (Sent s ∷ early) e =
    let h = covered_was_written name i early e in
    brought_later name i (Sent s) early h (still_there (written_stream name early) (added_stream_bytes name s (chunk_at s.payload) (written_stream name early)) i h.byte h.stands)
covered_was_written name i (Received r ∷ early) e =
    ⊎_elim (by_chunk name i r early (chunk_at r.payload) refl)
    (λ before. let h = covered_was_written name i early before in brought_later name i (Received r) early h h.stands)
    (or_cases (covers_position name i r (chunk_at r.payload) early) (is_covered_position name early i) e)
