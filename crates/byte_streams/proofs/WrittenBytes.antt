-- What the sends of some traffic write.
use Rattle.std.proofs.Common.{◌≡◌, ℕ, Bool, true, false, List, [], ◌∷◌, ◌++◌, length, Option, Some, None, refl, sym, ap, subst, ◌∙◌, ⊎_elim, inl, inr}
use Rattle.std.specs.Prelude.{◌==◌, ◌&&◌, if◌then◌else◌, ◌⊎◌}
use Rattle.std.proofs.lemmas.Bool.{and_from, and_parts, cond-false, cond-true, eq-eqb, eqb-true, or_left, or_parts, or_right}
use Rattle.std.proofs.lemmas.List.{append-nil}
use Rattle.std.proofs.lemmas.Option.{same_Some}
use Rattle.byte_streams.specs.Chunk.{StreamPiece, chunk_at}
use Rattle.byte_streams.specs.Traffic.{Received, SentPayload, Sent, StreamName, SendOrReceive, WrittenPiece, added_stream_bytes, send_that_counts, counted_send, continues_or_repeats, is_listed_stream, is_to_stream, is_stream, latest_written, piece_stands_in, stream_of, written_stream}
use Rattle.byte_streams.proofs.StreamPieces.{Stands, Stands-more, Stands-sent}

-- ---- names

abbrev pub name_of : ℕ → ℕ → ℕ → StreamName
name_of from to number = record { from = from; to = to; number = number }

pub same_name : (name : StreamName) (from to number : ℕ) → is_stream name from to number ≡ true → name ≡ name_of from to number
same_name name from to number tests =
    let outer = and_parts (name.from == from) ((name.to == to) && (name.number == number)) tests in
    let inner = and_parts (name.to == to) (name.number == number) outer.1 in
    λ i. record { from = eqb-true name.from from outer.0 i; to = eqb-true name.to to inner.0 i; number = eqb-true name.number number inner.1 i }

pub own_name : (from to number : ℕ) → is_stream (name_of from to number) from to number ≡ true
own_name from to number = and_from _ _ (eq-eqb from from refl) (and_from _ _ (eq-eqb to to refl) (eq-eqb number number refl))

-- ---- a send that counts

-- the piece of a send that counts
pub record Counts (s : SentPayload) (early : List SendOrReceive) (w : WrittenPiece) : Type 0 where
  pub chunk : chunk_at s.payload ≡ Some w.piece
  pub to : w.to ≡ s.to
  pub goes_on : continues_or_repeats w.piece (written_stream (stream_of s w.piece) early) ≡ true

pub counts : (s : SentPayload) (early : List SendOrReceive) (w : WrittenPiece) → send_that_counts s (chunk_at s.payload) early ≡ Some w → Counts s early w
counts s early w is = by_chunk (chunk_at s.payload) refl is where
  by_test : (piece : StreamPiece) (b : Bool) → chunk_at s.payload ≡ Some piece → continues_or_repeats piece (written_stream (stream_of s piece) early) ≡ b
      → (if b then Some (record { to = s.to; piece = piece }) else None) ≡ Some w → Counts s early w
  by_test piece true at on e =
      let same : record { to = s.to; piece = piece } ≡ w = same_Some _ _ e in
      subst (Counts s early) same (record { chunk = at; to = refl; goes_on = on })
  by_test piece false at on e = absurd cc

  by_chunk : (o : Option StreamPiece) → chunk_at s.payload ≡ o → send_that_counts s o early ≡ Some w → Counts s early w
  by_chunk None at e = absurd cc
  by_chunk (Some piece) at e = by_test piece _ at refl e

pub counted_is : (s : SentPayload) (early : List SendOrReceive) (w : WrittenPiece) → Counts s early w → send_that_counts s (chunk_at s.payload) early ≡ Some w
counted_is s early w h = rw (h.chunk, h.goes_on) (ap (λ (to : ℕ). Some (record { to = to; piece = w.piece })) (sym h.to))

-- it adds its bytes where it begins at the end, and a send that does not count adds nothing
pub written-counts : (s : SentPayload) (early : List SendOrReceive) (w : WrittenPiece) → Counts s early w
    → let before = written_stream (stream_of s w.piece) early in
    written_stream (stream_of s w.piece) (Sent s ∷ early) ≡ before ++ (if w.piece.offset == length before then w.piece.bytes else [])
written-counts s early w h = rw (h.chunk, own_name s.from s.to w.piece.stream) refl

goes_on_at : (name : StreamName) (s : SentPayload) (early : List SendOrReceive) (piece : StreamPiece)
    → (is_stream name s.from s.to piece.stream && (piece.offset == length (written_stream name early))) ≡ true → continues_or_repeats piece (written_stream (stream_of s piece) early) ≡ true
goes_on_at name s early piece tests =
    let parts = and_parts (is_stream name s.from s.to piece.stream) (piece.offset == length (written_stream name early)) tests in
    let at : (piece.offset == length (written_stream (stream_of s piece) early)) ≡ true =
    subst (λ (n : StreamName). (piece.offset == length (written_stream n early)) ≡ true) (same_name name s.from s.to piece.stream parts.0) parts.1 in
    or_left (piece.offset == length (written_stream (stream_of s piece) early)) (piece_stands_in piece (written_stream (stream_of s piece) early)) at

-- of a send that adds bytes to a stream: it counts for this stream
adds : (name : StreamName) (s : SentPayload) (early : List SendOrReceive) (o : Option StreamPiece) → is_to_stream name s (send_that_counts s o early) ≡ false → added_stream_bytes name s o (written_stream name early) ≡ []
adds name s early None e = refl
adds name s early (Some piece) e = by_test _ refl where
  by_test : (b : Bool) → (is_stream name s.from s.to piece.stream && (piece.offset == length (written_stream name early))) ≡ b
      → (if is_stream name s.from s.to piece.stream && (piece.offset == length (written_stream name early)) then piece.bytes else []) ≡ []
  by_test false at = rw at refl
  by_test true at =
      let here = (and_parts (is_stream name s.from s.to piece.stream) (piece.offset == length (written_stream name early)) at).0 in
      let is : is_to_stream name s (send_that_counts s (Some piece) early) ≡ true = rw (goes_on_at name s early piece at) here in
      absurd (let no : false ≡ true = sym e ∙ is in cc)

-- what is written stays as it was
pub written-other : (name : StreamName) (s : SentPayload) (early : List SendOrReceive) → is_to_stream name s (send_that_counts s (chunk_at s.payload) early) ≡ false
    → written_stream name (Sent s ∷ early) ≡ written_stream name early
written-other name s early e = ap (λ more. written_stream name early ++ more) (adds name s early (chunk_at s.payload) e) ∙ append-nil (written_stream name early)

-- nothing was written to a stream without a send that counts
pub unlisted : (name : StreamName) (traffic : List SendOrReceive) → is_listed_stream name traffic ≡ false → written_stream name traffic ≡ []
unlisted name [] e = refl
unlisted name (Received r ∷ early) e = unlisted name early e
unlisted name (Sent s ∷ early) e =
    let parts = or_parts (is_to_stream name s (send_that_counts s (chunk_at s.payload) early)) (is_listed_stream name early) e in
    written-other name s early parts.0 ∙ unlisted name early parts.1

-- ---- a send that counts stays

-- the stream of a send that counts is listed, and what the send brings is in it
pub record IsKept (from : ℕ) (w : WrittenPiece) (traffic : List SendOrReceive) : Type 0 where
  pub stands : Stands w.piece (written_stream (name_of from w.to w.piece.stream) traffic)
  pub listed : is_listed_stream (name_of from w.to w.piece.stream) traffic ≡ true

IsKept-more : (from : ℕ) (w : WrittenPiece) (s : SentPayload) (early : List SendOrReceive) → IsKept from w early → IsKept from w (Sent s ∷ early)
IsKept-more from w s early h =
    let name = name_of from w.to w.piece.stream in record {
      stands = Stands-more w.piece (written_stream name early) (added_stream_bytes name s (chunk_at s.payload) (written_stream name early)) h.stands;
      listed = or_right (is_to_stream name s (send_that_counts s (chunk_at s.payload) early)) (is_listed_stream name early) h.listed;
    }

pub listed-counts : (s : SentPayload) (early : List SendOrReceive) (w : WrittenPiece) → Counts s early w → is_listed_stream (stream_of s w.piece) (Sent s ∷ early) ≡ true
listed-counts s early w h =
    let is : is_to_stream (stream_of s w.piece) s (send_that_counts s (chunk_at s.payload) early) ≡ true =
    ap (is_to_stream (stream_of s w.piece) s) (counted_is s early w h) ∙ ap (λ (to : ℕ). is_stream (stream_of s w.piece) s.from to w.piece.stream) h.to ∙ own_name s.from s.to w.piece.stream in
    or_left (is_to_stream (stream_of s w.piece) s (send_that_counts s (chunk_at s.payload) early)) (is_listed_stream (stream_of s w.piece) early) is

IsKept-new : (s : SentPayload) (early : List SendOrReceive) (w : WrittenPiece) → Counts s early w → IsKept s.from w (Sent s ∷ early)
IsKept-new s early w h =
    let stands : Stands w.piece (written_stream (stream_of s w.piece) (Sent s ∷ early)) =
    subst (Stands w.piece) (sym (written-counts s early w h)) (Stands-sent w.piece (written_stream (stream_of s w.piece) early) h.goes_on) in
    let kept : IsKept s.from (record { to = s.to; piece = w.piece }) (Sent s ∷ early) = record { stands = stands; listed = listed-counts s early w h } in
    subst (λ (to : ℕ). IsKept s.from (record { to = to; piece = w.piece }) (Sent s ∷ early)) (sym h.to) kept

pub latest_of : (c before : Option WrittenPiece) (w : WrittenPiece) → latest_written c before ≡ Some w → (c ≡ Some w) ⊎ (before ≡ Some w)
latest_of None before w e = inr e
latest_of (Some v) before w e = inl e

kept_sent : (from clock : ℕ) (s : SentPayload) (early : List SendOrReceive) (w : WrittenPiece) → (counted_send from clock early ≡ Some w → IsKept from w early)
    → counted_send from clock (Sent s ∷ early) ≡ Some w → IsKept from w (Sent s ∷ early)
kept_sent from clock s early w before e = by_key _ refl where
  by_key : (b : Bool) → ((s.from == from) && (s.clock == clock)) ≡ b → IsKept from w (Sent s ∷ early)
  by_key false other =
      let is : counted_send from clock early ≡ Some w = sym (cond-false _ _ _ other) ∙ e in
      IsKept-more from w s early (before is)
  by_key true same =
      let is : latest_written (send_that_counts s (chunk_at s.payload) early) (counted_send from clock early) ≡ Some w = sym (cond-true _ _ _ same) ∙ e in
      let own = eqb-true s.from from (and_parts (s.from == from) (s.clock == clock) same).0 in
      ⊎_elim (λ new. subst (λ (f : ℕ). IsKept f w (Sent s ∷ early)) own (IsKept-new s early w (counts s early w new))) (λ old. IsKept-more from w s early (before old))
      (latest_of _ _ w is)

pub counted_kept : (from clock : ℕ) (traffic : List SendOrReceive) (w : WrittenPiece) → counted_send from clock traffic ≡ Some w → IsKept from w traffic
counted_kept from clock [] w e = absurd cc
counted_kept from clock (Received r ∷ early) w e = let h = counted_kept from clock early w e in record { stands = h.stands; listed = h.listed }
counted_kept from clock (Sent s ∷ early) w e = kept_sent from clock s early w (counted_kept from clock early w) e
