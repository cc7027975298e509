-- What is kept after a send.
use Rattle.std.proofs.Common.{◌≡◌, ℕ, ◌+◌, ◌≤◌, zero, suc, Bool, true, false, cond, List, [], ◌∷◌, ◌++◌, length, map, replicate, Option, Some, None, refl, sym, ap, ◌∙◌, arith, length-append}
use Rattle.std.specs.Prelude.{◌==◌, ◌&&◌, ◌||◌, if◌then◌else◌, option_map}
use Rattle.std.specs.FinMap as map
use Rattle.std.proofs.lemmas.Bool.{cond-true}
use Rattle.std.proofs.lemmas.List.{append-nil, append_assoc, map-append, replicate_more}
use Rattle.byte_streams.specs.declared.mark.PayloadMark.TheVariants.{Counted, Plain, Strange}
use Rattle.byte_streams.specs.Chunk.{StreamPiece, chunk_at}
use Rattle.byte_streams.specs.inside.Keeping.{is_written_to, kept_contents_of, with_sent_piece, with_stream_sent}
use Rattle.byte_streams.specs.Keys.{StreamContents, chunk_of, stream_key_of}
use Rattle.byte_streams.specs.Stands.{KeptTraffic, StandsFor, stream_contents}
use Rattle.byte_streams.specs.Traffic.{SentPayload, Sent, StreamName, SendOrReceive, WrittenPiece, numbers_below, send_that_counts, counted_send, continues_or_repeats, is_covered_position, is_listed_stream, is_to_stream, is_stream, latest_written, mark_of_send, stream_of, written_stream}
use Rattle.byte_streams.proofs.ReceivedPositions.{listed_contents, uncovered}
use Rattle.byte_streams.proofs.TreeMaps.{by_sender_exact, by_stream_exact}
use Rattle.byte_streams.proofs.KeptStands.{StandsFor-same, Unchanged, kept_contents, listed_same, same_sender, same_stream}
use Rattle.byte_streams.proofs.WrittenBytes.{Counts, counted_is, listed-counts, same_name, written-counts, written-other}

-- ---- a send that does not count

cond_same : {A : Type 0} (b : Bool) (x : A) → cond b x x ≡ x
cond_same true x = refl
cond_same false x = refl

uncounted : (s : SentPayload) (early : List SendOrReceive) → send_that_counts s (chunk_at s.payload) early ≡ None → Unchanged (Sent s) early
uncounted s early none = record {
  listed = λ name. ap (λ (c : Option WrittenPiece). is_to_stream name s c || is_listed_stream name early) none;
  written = λ name. written-other name s early (ap (is_to_stream name s) none);
  covered = λ name i. refl;
  sends = λ from clock.
      ap (λ (c : Option WrittenPiece). cond ((s.from == from) && (s.clock == clock)) (latest_written c (counted_send from clock early)) (counted_send from clock early)) none
      ∙ cond_same ((s.from == from) && (s.clock == clock)) (counted_send from clock early);
}

pub sent_plain : (kept : KeptTraffic) (s : SentPayload) (early : List SendOrReceive) → chunk_at s.payload ≡ None → StandsFor kept early
    → StandsFor kept (Sent s ∷ early) × (Plain ≡ mark_of_send s early)
sent_plain kept s early none h = (StandsFor-same kept (Sent s) early (uncounted s early (rw none refl)) h, rw none refl)

-- whether it goes on, by what is kept
goes_on_kept : (kept : KeptTraffic) (s : SentPayload) (early : List SendOrReceive) (piece : StreamPiece) → StandsFor kept early
    → is_written_to (stream_key_of (stream_of s piece)) piece kept.streams ≡ continues_or_repeats piece (written_stream (stream_of s piece) early)
goes_on_kept kept s early piece h = ap (λ (c : StreamContents). continues_or_repeats piece c.written) (kept_contents kept early (stream_of s piece) h)

pub sent_strange : (kept : KeptTraffic) (s : SentPayload) (early : List SendOrReceive) (piece : StreamPiece) → chunk_at s.payload ≡ Some piece
    → is_written_to (stream_key_of (stream_of s piece)) piece kept.streams ≡ false → StandsFor kept early
    → StandsFor kept (Sent s ∷ early) × (Strange ≡ mark_of_send s early)
sent_strange kept s early piece at apart h =
    let off : continues_or_repeats piece (written_stream (stream_of s piece) early) ≡ false = sym (goes_on_kept kept s early piece h) ∙ apart in
    (StandsFor-same kept (Sent s) early (uncounted s early (rw (at, off) refl)) h, rw (at, off) refl)

-- ---- one that counts

map_below : (f : ℕ → Bool) (n k : ℕ) → ((i : ℕ) → n ≤ i → f i ≡ false) → map f (numbers_below (n + k)) ≡ map f (numbers_below n) ++ replicate k false
map_below f n zero none = ap (λ (m : ℕ). map f (numbers_below m)) (let e : n + zero ≡ n = omega arith in e) ∙ sym (append-nil (map f (numbers_below n)))
map_below f n (suc k) none =
    ap (λ (m : ℕ). map f (numbers_below m)) (let e : n + suc k ≡ suc (n + k) = omega arith in e)
    ∙ map-append f (numbers_below (n + k)) ((n + k) ∷ [])
    ∙ ap (λ (b : Bool). map f (numbers_below (n + k)) ++ b ∷ []) (none (n + k) (omega arith))
    ∙ ap (λ (l : List Bool). l ++ false ∷ []) (map_below f n k none)
    ∙ append_assoc (map f (numbers_below n)) (replicate k false) (false ∷ [])
    ∙ ap (λ (l : List Bool). map f (numbers_below n) ++ l) (replicate_more k false ∙ ap (λ (m : ℕ). replicate m false) (let e : k + 1 ≡ suc k = omega arith in e))

module _ (s : SentPayload) (early : List SendOrReceive) (w : WrittenPiece) (h : Counts s early w) where
  contents_end : (b : Bool) → (w.piece.offset == length (written_stream (stream_of s w.piece) early)) ≡ b
      → stream_contents (stream_of s w.piece) (Sent s ∷ early) ≡ with_sent_piece w.piece (stream_contents (stream_of s w.piece) early)
  contents_end b at =
      let before = written_stream (stream_of s w.piece) early in
      let f = is_covered_position (stream_of s w.piece) early in
      let with_bytes : List ℕ → StreamContents = λ l. record { written = l; covered = map f (numbers_below (length l)) } in
      let grown : map f (numbers_below (length (before ++ w.piece.bytes))) ≡ map f (numbers_below (length before)) ++ replicate (length w.piece.bytes) false =
      ap (λ (n : ℕ). map f (numbers_below n)) (length-append before w.piece.bytes) ∙ map_below f (length before) (length w.piece.bytes) (uncovered (stream_of s w.piece) early) in
      ap with_bytes (written-counts s early w h)
      ∙ (elim b as (λ b. (w.piece.offset == length before) ≡ b → with_bytes (before ++ (if w.piece.offset == length before then w.piece.bytes else [])) ≡ with_sent_piece w.piece (with_bytes before)) [
        | true ↦ λ e. rw e (λ j. record { written = before ++ w.piece.bytes; covered = grown j })
        | false ↦ λ e. rw e (ap with_bytes (append-nil before))
      ]) at

  pub contents_counts : stream_contents (stream_of s w.piece) (Sent s ∷ early) ≡ with_sent_piece w.piece (stream_contents (stream_of s w.piece) early)
  contents_counts = contents_end _ refl

  -- what the streams have then
  stream_at : (kept : KeptTraffic) (name : StreamName) → StandsFor kept early
      → map.get (with_stream_sent (stream_key_of (stream_of s w.piece)) w.piece kept.streams) (stream_key_of name) ≡ listed_contents name (Sent s ∷ early)
  stream_at kept name stands =
      map.get-insert by_stream_exact.total kept.streams (stream_key_of (stream_of s w.piece)) (with_sent_piece w.piece (kept_contents_of (stream_key_of (stream_of s w.piece)) kept.streams)) (stream_key_of name)
      ∙ ap (λ (b : Bool). cond b (Some (with_sent_piece w.piece (kept_contents_of (stream_key_of (stream_of s w.piece)) kept.streams))) (map.get kept.streams (stream_key_of name)))
      (same_stream name s.from s.to w.piece.stream)
      ∙ by_name _ refl where
        by_name : (b : Bool) → is_stream name s.from s.to w.piece.stream ≡ b
            → cond b (Some (with_sent_piece w.piece (kept_contents_of (stream_key_of (stream_of s w.piece)) kept.streams))) (map.get kept.streams (stream_key_of name)) ≡ listed_contents name (Sent s ∷ early)
        by_name true is =
            ap (λ (c : StreamContents). Some (with_sent_piece w.piece c)) (kept_contents kept early (stream_of s w.piece) stands)
            ∙ ap Some (sym contents_counts)
            ∙ sym (cond-true (is_listed_stream (stream_of s w.piece) (Sent s ∷ early)) (Some (stream_contents (stream_of s w.piece) (Sent s ∷ early))) None (listed-counts s early w h))
            ∙ ap (λ (n : StreamName). listed_contents n (Sent s ∷ early)) (sym (same_name name s.from s.to w.piece.stream is))
        by_name false other =
            let no : is_to_stream name s (send_that_counts s (chunk_at s.payload) early) ≡ false =
            ap (is_to_stream name s) (counted_is s early w h) ∙ ap (λ (to : ℕ). is_stream name s.from to w.piece.stream) h.to ∙ other in
            stands.streams name
            ∙ sym (listed_same name (Sent s) early (ap (λ (b : Bool). b || is_listed_stream name early) no) (written-other name s early no) (λ i. refl))

  send_at : (kept : KeptTraffic) (from clock : ℕ) → StandsFor kept early
      → map.get (map.insert kept.sends (s.from, s.clock) (chunk_of w)) (from, clock) ≡ option_map chunk_of (counted_send from clock (Sent s ∷ early))
  send_at kept from clock stands =
      map.get-insert by_sender_exact.total kept.sends (s.from, s.clock) (chunk_of w) (from, clock)
      ∙ ap (λ (b : Bool). cond b (Some (chunk_of w)) (map.get kept.sends (from, clock))) (same_sender s.from s.clock from clock)
      ∙ by_key ((s.from == from) && (s.clock == clock)) where
        by_key : (b : Bool) → cond b (Some (chunk_of w)) (map.get kept.sends (from, clock))
            ≡ option_map chunk_of (cond b (latest_written (send_that_counts s (chunk_at s.payload) early) (counted_send from clock early)) (counted_send from clock early))
        by_key true = sym (ap (λ (c : Option WrittenPiece). option_map chunk_of (latest_written c (counted_send from clock early))) (counted_is s early w h))
        by_key false = stands.sends from clock

pub sent_counted : (kept : KeptTraffic) (s : SentPayload) (early : List SendOrReceive) (piece : StreamPiece) → chunk_at s.payload ≡ Some piece
    → is_written_to (stream_key_of (stream_of s piece)) piece kept.streams ≡ true → StandsFor kept early
    → StandsFor (record {
      streams = with_stream_sent (stream_key_of (stream_of s piece)) piece kept.streams;
      sends = map.insert kept.sends (s.from, s.clock) (chunk_of (record { to = s.to; piece = piece }));
    }) (Sent s ∷ early) × (Counted ≡ mark_of_send s early)
sent_counted kept s early piece at on h =
    let going : continues_or_repeats piece (written_stream (stream_of s piece) early) ≡ true = sym (goes_on_kept kept s early piece h) ∙ on in
    let is : Counts s early (record { to = s.to; piece = piece }) = record { chunk = at; to = refl; goes_on = going } in
    (record { streams = λ name. stream_at s early _ is kept name h; sends = λ from clock. send_at s early _ is kept from clock h }, rw (at, going) refl)
