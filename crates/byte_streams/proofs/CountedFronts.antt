-- Which fronts of what was sent count.
use Rattle.std.proofs.Common.{◌≡◌, ℕ, ◌+◌, ◌-◌, ◌≤◌, Bool, true, false, List, [], ◌∷◌, ◌++◌, length, take, drop, Option, Some, None, refl, sym, ap, subst, ◌∙◌, arith, ⊎_elim}
use Rattle.std.specs.Prelude.{◌==◌, ◌&&◌, bytes_eq, nat_eq, nat_le}
use Rattle.std.specs.List.{starts_with}
use Rattle.std.proofs.lemmas.Bool.{and_from, and_parts, cases_lt, eq-eqb, le-leb, leb-true}
use Rattle.std.proofs.lemmas.Bool.Decides.{Decides-eqb}
use Rattle.std.proofs.lemmas.List.{drop-take, length-take, length-take-le, take-append-drop, take-take}
use Rattle.std.proofs.lemmas.Option.{cond_some}
use Rattle.std.proofs.lemmas.Slice.Eq.{starts_is}
use Rattle.byte_streams.specs.declared.mark.PayloadMark.TheVariants.{Counted, Plain, Strange}
use Rattle.byte_streams.specs.Chunk.{StreamPiece, chunk_at, chunk_magic, piece_in}
use Rattle.byte_streams.specs.Laws.{TruncatedChunksCount, IsFrontOf, IsUnsent, PlainFronts, ShortIsPlain, StrangeBySend}
use Rattle.byte_streams.specs.Traffic.{Received, SentPayload, Sent, SendOrReceive, WrittenPiece, counted_send, continues_or_repeats, is_front_of, latest_written, mark_of_send, stream_of, written_stream}
use Rattle.byte_streams.proofs.ChunkLemmas.{short_is_none}
use Rattle.byte_streams.proofs.WrittenBytes.{Counts, counted_is}

-- the numbers of a chunk stand in its first 14 bytes
same_numbers : (front : List ℕ) → length front ≡ 14 → (x y : List ℕ)
    → piece_in (front ++ x) ≡ record { stream = (piece_in (front ++ y)).stream; offset = (piece_in (front ++ y)).offset; bytes = x }
unfolding piece_in
same_numbers (a ∷ b ∷ c ∷ d ∷ e ∷ f ∷ g ∷ h ∷ i ∷ j ∷ k ∷ l ∷ m ∷ n ∷ []) long x y = refl
same_numbers front long x y = absurd (omega (arith, long))

-- the piece of a front
piece_cut : (payload : List ℕ) (count : ℕ) → 14 ≤ length (take count payload)
    → piece_in (take count payload) ≡ record { stream = (piece_in payload).stream; offset = (piece_in payload).offset; bytes = take (count - 14) (drop 14 payload) }
piece_cut payload count long =
    let room : 14 + (count - 14) ≡ count = omega (arith, length-take count payload) in
    let rest : drop 14 (take count payload) ≡ take (count - 14) (drop 14 payload) = ap (λ (n : ℕ). drop 14 (take n payload)) (sym room) ∙ drop-take 14 (count - 14) payload in
    let parts : take count payload ≡ take 14 payload ++ take (count - 14) (drop 14 payload) =
    sym (take-append-drop 14 (take count payload)) ∙ (λ i. take-take 14 count payload (omega (arith, room)) i ++ rest i) in
    ap piece_in parts
    ∙ same_numbers (take 14 payload) (length-take-le 14 payload (omega (arith, length-take count payload))) (take (count - 14) (drop 14 payload)) (drop 14 payload)
    ∙ ap (λ (l : List ℕ). let p : StreamPiece = piece_in l in record { stream = p.stream; offset = p.offset; bytes = take (count - 14) (drop 14 payload) }) (take-append-drop 14 payload)

-- so do the magic bytes
front_begins : (payload : List ℕ) (count : ℕ) → 14 ≤ length (take count payload) → starts_with nat_eq (take count payload) chunk_magic ≡ starts_with nat_eq payload chunk_magic
front_begins payload count long = ap (bytes_eq chunk_magic) (take-take 4 count payload (omega (arith, length-take count payload)))

-- the chunk of a front
chunk_cut : (payload : List ℕ) (piece : StreamPiece) (count : ℕ) → chunk_at payload ≡ Some piece → 14 ≤ length (take count payload)
    → chunk_at (take count payload) ≡ Some (record { stream = piece.stream; offset = piece.offset; bytes = take (count - 14) piece.bytes })
unfolding chunk_at piece_in
chunk_cut payload piece count at long =
    let chosen = cond_some _ _ _ at in
    let is : piece_in payload ≡ piece = chosen.1 in
    let starts : starts_with nat_eq payload chunk_magic ≡ true = (and_parts (nat_le 14 (length payload)) (starts_with nat_eq payload chunk_magic) chosen.0).1 in
    let begins : starts_with nat_eq (take count payload) chunk_magic ≡ true = front_begins payload count long ∙ starts in
    rw (le-leb 14 (length (take count payload)) long, begins)
    (ap Some (piece_cut payload count long ∙ ap (λ (p : StreamPiece). record { stream = p.stream; offset = p.offset; bytes = take (count - 14) p.bytes }) is))

-- bytes begin with each front of them
front_starts : (bytes : List ℕ) (count : ℕ) → starts_with nat_eq bytes (take count bytes) ≡ true
front_starts bytes count = (starts_is Decides-eqb bytes (take count bytes) _ refl).1 (drop count bytes) (sym (take-append-drop count bytes))

pub front_counts : TruncatedChunksCount
front_counts r early count h long =
    let piece = h.sent.piece in
    let room : 14 ≤ length (take count h.payload) = subst (λ (l : List ℕ). 14 ≤ length l) h.front long in
    let chunk = ap chunk_at h.front ∙ chunk_cut h.payload piece count h.chunk room in
    let front : is_front_of r.by (record { stream = piece.stream; offset = piece.offset; bytes = take (count - 14) piece.bytes }) (Some h.sent) ≡ true =
    and_from (h.sent.to == r.by) _ (eq-eqb h.sent.to r.by h.to)
    (and_from (piece.stream == piece.stream) _ (eq-eqb piece.stream piece.stream refl)
    (and_from (piece.offset == piece.offset) _ (eq-eqb piece.offset piece.offset refl) (front_starts piece.bytes (count - 14)))) in
    rw (chunk, h.counted, front) refl

pub short_plain : ShortIsPlain
short_plain r early short = rw (short_is_none r.payload short) refl

-- ---- fronts of what is no chunk

none_cut : (payload : List ℕ) (count : ℕ) → chunk_at payload ≡ None → chunk_at (take count payload) ≡ None
unfolding chunk_at
none_cut payload count none = by_test _ refl where
  by_test : (b : Bool) → (nat_le 14 (length (take count payload)) && starts_with nat_eq (take count payload) chunk_magic) ≡ b → chunk_at (take count payload) ≡ None
  by_test false other = rw other refl
  by_test true is =
      let parts = and_parts (nat_le 14 (length (take count payload))) (starts_with nat_eq (take count payload) chunk_magic) is in
      let long = leb-true 14 (length (take count payload)) parts.0 in
      let room : nat_le 14 (length payload) ≡ true = le-leb 14 (length payload) (omega (arith, long, length-take count payload)) in
      let starts : starts_with nat_eq payload chunk_magic ≡ true = sym (front_begins payload count long) ∙ parts.1 in
      let some : chunk_at payload ≡ Some (piece_in payload) = rw (room, starts) refl in
      absurd cc

pub plain_fronts : PlainFronts
plain_fronts r early payload count none front = rw (ap chunk_at front ∙ none_cut payload count none) refl

-- ---- a front of what a send brought

-- the latest send at a clock is found after what came later
sent_stays : (s : SentPayload) (early later : List SendOrReceive) (w : WrittenPiece) → IsUnsent s.from s.clock later → Counts s early w
    → counted_send s.from s.clock (later ++ Sent s ∷ early) ≡ Some w
sent_stays s early [] w none h =
    rw (eq-eqb s.from s.from refl, eq-eqb s.clock s.clock refl) (ap (λ (c : Option WrittenPiece). latest_written c (counted_send s.from s.clock early)) (counted_is s early w h))
sent_stays s early (Received r ∷ later) w none h = sent_stays s early later w none.1 h
sent_stays s early (Sent t ∷ later) w none h = rw none.0 (sent_stays s early later w none.1 h)

pub strange_by_send : StrangeBySend
strange_by_send r s later early count t strange = by_chunk _ refl where
  not_counted : (piece : StreamPiece) → chunk_at s.payload ≡ Some piece → continues_or_repeats piece (written_stream (stream_of s piece) early) ≡ true → mark_of_send s early ≡ Strange
  not_counted piece at on =
      let traffic = later ++ Sent s ∷ early in
      let w : WrittenPiece = record { to = s.to; piece = piece } in
      let is : counted_send r.tag.sender r.tag.clock traffic ≡ Some w =
      (λ i. counted_send (t.sender i) (t.clock i) traffic) ∙ sent_stays s early later w t.unsent (record { chunk = at; to = refl; goes_on = on }) in
      let front : IsFrontOf r traffic count = record { sent = w; payload = s.payload; counted = is; chunk = at; to = sym t.by; front = t.front } in
      ⊎_elim
      (λ short. let plain : Strange ≡ Plain = sym strange ∙ short_plain r traffic short in absurd cc)
      (λ long. let counts : Strange ≡ Counted = sym strange ∙ front_counts r traffic count front long in absurd cc)
      (cases_lt (length r.payload) 14)

  by_test : (piece : StreamPiece) (b : Bool) → chunk_at s.payload ≡ Some piece → continues_or_repeats piece (written_stream (stream_of s piece) early) ≡ b → mark_of_send s early ≡ Strange
  by_test piece true at on = not_counted piece at on
  by_test piece false at off = rw (at, off) refl

  by_chunk : (o : Option StreamPiece) → chunk_at s.payload ≡ o → mark_of_send s early ≡ Strange
  by_chunk None at = let plain : Strange ≡ Plain = sym strange ∙ plain_fronts r (later ++ Sent s ∷ early) s.payload count at t.front in absurd cc
  by_chunk (Some piece) at = by_test piece _ at refl
