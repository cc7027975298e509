-- A payload is a chunk exactly where `chunk_at` gives its piece.
use Rattle.std.proofs.Common.{◌≡◌, ℕ, ◌^◌, ◌<◌, ◌≤◌, true, false, List, [], ◌∷◌, ◌++◌, length, take, drop, Some, None, refl, sym, ap, ◌∙◌, subst, ⊎_elim, arith, length-drop}
use Rattle.std.specs.Prelude.{nat_eq, nat_le}
use Rattle.std.specs.List.{starts_with}
use Rattle.std.specs.Int.{w16, w64, to_le_bytes, from_le_bytes}
use Rattle.std.proofs.lemmas.Bool.{cases_lt}
use Rattle.std.proofs.lemmas.Bool.Decides.{Decides-eqb, nat_tests}
use Rattle.std.proofs.lemmas.List.{drop-drop, get_or-drop, get_or-take, get_or_past, length-take}
use Rattle.std.proofs.lemmas.Nat.{from_le_bytes-to_le_bytes_2, from_le_bytes-to_le_bytes_8, le_bytes_2, le_bytes_8}
use Rattle.std.proofs.lemmas.Slice.Eq.{starts_is}
use Rattle.fri_bytes.specs.Laws.{AreBytes}
use Rattle.byteorder.specs.Endian.{little_number}
use Rattle.byte_streams.specs.Chunk.{IsChunk, IsNoChunk, StreamPiece, chunk_at, chunk_bytes, chunk_magic, piece_in}

-- ---- a chunk is found

piece_in-chunk : (piece : StreamPiece) → piece.stream < 2 ^ 16 → piece.offset < 2 ^ 64 → piece_in (chunk_bytes piece) ≡ piece
unfolding piece_in chunk_bytes
piece_in-chunk piece stream offset =
    let by_stream : ℕ → StreamPiece = λ s. record { stream = s; offset = from_le_bytes w64 (to_le_bytes w64 piece.offset); bytes = piece.bytes } in
    let by_offset : ℕ → StreamPiece = λ o. record { stream = piece.stream; offset = o; bytes = piece.bytes } in
    ap by_stream (from_le_bytes-to_le_bytes_2 piece.stream stream) ∙ ap by_offset (from_le_bytes-to_le_bytes_8 piece.offset offset)

is_long : (piece : StreamPiece) → nat_le 14 (length (chunk_bytes piece)) ≡ true
unfolding chunk_bytes
is_long piece = grind (arith, nat_tests)

begins : (piece : StreamPiece) → starts_with nat_eq (chunk_bytes piece) chunk_magic ≡ true
unfolding chunk_bytes
begins piece = refl

pub chunk_at-chunk : (payload : List ℕ) (piece : StreamPiece) → IsChunk payload piece → chunk_at payload ≡ Some piece
unfolding chunk_at
chunk_at-chunk payload piece h = ap chunk_at h.spelled ∙ rw (is_long piece, begins piece, piece_in-chunk piece h.stream h.offset) refl

-- ---- and nothing else is

pub short_is_none : (payload : List ℕ) → length payload < 14 → chunk_at payload ≡ None
unfolding chunk_at
short_is_none payload short = let no : nat_le 14 (length payload) ≡ false = grind (arith, nat_tests) in rw no refl

pub other_is_none : (payload : List ℕ) → 14 ≤ length payload → starts_with nat_eq payload chunk_magic ≡ false → chunk_at payload ≡ None
unfolding chunk_at
other_is_none payload long other = let yes : nat_le 14 (length payload) ≡ true = grind (arith, nat_tests) in rw (yes, other) refl

pub no_chunk : (payload : List ℕ) → chunk_at payload ≡ None → IsNoChunk payload
no_chunk payload none piece h = let some = chunk_at-chunk payload piece h in cc

-- ---- what is read of bytes is a chunk

AreBytes-take : (n : ℕ) (list : List ℕ) → AreBytes list → AreBytes (take n list)
AreBytes-take n list bytes i = ⊎_elim
    (λ below. subst (λ v. v < 256) (sym (get_or-take n list i 0 below)) (bytes i))
    (λ past. subst (λ v. v < 256) (sym (get_or_past (take n list) i 0 (omega (arith, length-take n list)))) (omega arith))
    (cases_lt i n)

AreBytes-drop : (n : ℕ) (list : List ℕ) → AreBytes list → AreBytes (drop n list)
AreBytes-drop n list bytes i = subst (λ v. v < 256) (sym (get_or-drop n list i 0)) (bytes _)

front_2 : (list : List ℕ) → AreBytes list → 2 ≤ length list → list ≡ to_le_bytes w16 (from_le_bytes w16 list) ++ drop 2 list
front_2 (a ∷ b ∷ rest) bytes long = ap (λ front. front ++ rest) (sym (le_bytes_2 (a ∷ b ∷ []) _ refl (AreBytes-take 2 (a ∷ b ∷ rest) bytes) refl))
front_2 list bytes long = absurd (omega arith)

front_8 : (list : List ℕ) → AreBytes list → 8 ≤ length list → list ≡ to_le_bytes w64 (from_le_bytes w64 list) ++ drop 8 list
front_8 (a ∷ b ∷ c ∷ d ∷ e ∷ f ∷ g ∷ h ∷ rest) bytes long =
    ap (λ front. front ++ rest) (sym (le_bytes_8 (a ∷ b ∷ c ∷ d ∷ e ∷ f ∷ g ∷ h ∷ []) _ refl (AreBytes-take 8 (a ∷ b ∷ c ∷ d ∷ e ∷ f ∷ g ∷ h ∷ rest) bytes) refl))
front_8 list bytes long = absurd (omega arith)

-- where the magic bytes stand, the bytes are those of the piece whose numbers are after them
spelled_at : (payload : List ℕ) → AreBytes payload → 14 ≤ length payload → starts_with nat_eq payload chunk_magic ≡ true → payload ≡ chunk_bytes (piece_in payload)
unfolding piece_in chunk_bytes
spelled_at payload bytes long starts =
    let magical : payload ≡ chunk_magic ++ drop 4 payload = (starts_is Decides-eqb payload chunk_magic _ refl).0 starts in
    let stream = front_2 (drop 4 payload) (AreBytes-drop 4 payload bytes) (omega (arith, length-drop 4 payload)) in
    let offset = front_8 (drop 6 payload) (AreBytes-drop 6 payload bytes) (omega (arith, length-drop 6 payload)) in
    magical
    ∙ ap (λ (x : List ℕ). chunk_magic ++ x) (stream
    ∙ ap (λ (x : List ℕ). to_le_bytes w16 (from_le_bytes w16 (drop 4 payload)) ++ x) (drop-drop 2 4 payload ∙ offset
    ∙ ap (λ (x : List ℕ). to_le_bytes w64 (from_le_bytes w64 (drop 6 payload)) ++ x) (drop-drop 8 6 payload)))

-- what a reader says that found these two numbers after the magic bytes
pub record Reads (payload : List ℕ) (stream offset : ℕ) : Type 0 where
  pub bytes : AreBytes payload
  pub long : 14 ≤ length payload
  pub starts : starts_with nat_eq payload chunk_magic ≡ true
  pub stream_read : stream ≡ little_number 2 (drop 4 payload)
  pub offset_read : offset ≡ little_number 8 (drop 6 payload)
  pub stream_fits : stream < 2 ^ 16
  pub offset_fits : offset < 2 ^ 64

piece_in-read : (payload : List ℕ) (stream offset : ℕ) → Reads payload stream offset → piece_in payload ≡ record { stream = stream; offset = offset; bytes = drop 14 payload }
unfolding piece_in
piece_in-read payload stream offset h =
    let by_stream : ℕ → StreamPiece = λ s. record { stream = s; offset = from_le_bytes w64 (drop 6 payload); bytes = drop 14 payload } in
    let by_offset : ℕ → StreamPiece = λ o. record { stream = stream; offset = o; bytes = drop 14 payload } in
    let s : from_le_bytes w16 (drop 4 payload) ≡ stream = omega (arith, h.stream_read) in
    let o : from_le_bytes w64 (drop 6 payload) ≡ offset = omega (arith, h.offset_read) in
    ap by_stream s ∙ ap by_offset o

pub Reads-chunk : (payload : List ℕ) (stream offset : ℕ) → Reads payload stream offset → IsChunk payload (record { stream = stream; offset = offset; bytes = drop 14 payload })
Reads-chunk payload stream offset h = record {
  spelled = spelled_at payload h.bytes h.long h.starts ∙ ap chunk_bytes (piece_in-read payload stream offset h);
  stream = h.stream_fits;
  offset = h.offset_fits;
}
