-- A piece among the bytes of its stream.
use Rattle.std.proofs.Common.{◌≡◌, ℕ, ◌+◌, ◌<◌, ◌≤◌, Bool, true, false, List, [], ◌++◌, length, take, drop, refl, sym, ap, ◌∙◌, arith, ⊎_elim, length-append, length-drop}
use Rattle.std.specs.Prelude.{◌==◌, ◌&&◌, bytes_eq, nat_eq, nat_le, if◌then◌else◌}
use Rattle.std.specs.List.{starts_with}
use Rattle.std.proofs.lemmas.Bool.{and_parts, eqb-true, false_from_ne_true, le-leb, leb-false, leb-true, or_cases}
use Rattle.std.proofs.lemmas.List.{drop-append-le, drop_at, length-take, take-append-le, take-take, take_all}
use Rattle.std.proofs.lemmas.Slice.Eq.{bytes_eq-Decides}
use Rattle.byte_streams.specs.Chunk.{StreamPiece}
use Rattle.byte_streams.specs.Traffic.{continues_or_repeats, piece_stands_in}

-- the piece lies within the bytes and is what is there
pub record Stands (piece : StreamPiece) (bytes : List ℕ) : Type 0 where
  pub within : piece.offset + length piece.bytes ≤ length bytes
  pub same : piece.bytes ≡ take (length piece.bytes) (drop piece.offset bytes)

pub stands : (piece : StreamPiece) (bytes : List ℕ) → piece_stands_in piece bytes ≡ true → Stands piece bytes
stands piece bytes tests =
    let parts = and_parts _ _ tests in
    record { within = leb-true _ _ parts.0; same = (bytes_eq-Decides piece.bytes _).0 parts.1 }

-- bytes after those where it stands change nothing
pub Stands-more : (piece : StreamPiece) (bytes more : List ℕ) → Stands piece bytes → Stands piece (bytes ++ more)
Stands-more piece bytes more h =
    let offset : piece.offset ≤ length bytes = omega (arith, h.within) in
    let room : length piece.bytes ≤ length (drop piece.offset bytes) = omega (arith, h.within, length-drop piece.offset bytes) in
    record {
      within = omega (arith, h.within, length-append bytes more);
      same = h.same ∙ sym (ap (take (length piece.bytes)) (drop-append-le piece.offset bytes more offset) ∙ take-append-le (length piece.bytes) (drop piece.offset bytes) more room);
    }

-- a piece that begins at the end is there once it is written
pub Stands-end : (piece : StreamPiece) (before : List ℕ) → piece.offset ≡ length before → Stands piece (before ++ piece.bytes)
Stands-end piece before at = record {
  within = omega (arith, at, length-append before piece.bytes);
  same = sym (ap (take (length piece.bytes)) (drop_at before piece.bytes piece.offset (sym at)) ∙ take_all (length piece.bytes) piece.bytes (omega arith));
}

-- so does one that goes on, with the bytes that it adds
pub Stands-sent : (piece : StreamPiece) (before : List ℕ) → continues_or_repeats piece before ≡ true → Stands piece (before ++ (if piece.offset == length before then piece.bytes else []))
Stands-sent piece before on = by_end _ refl where
  by_end : (b : Bool) → (piece.offset == length before) ≡ b → Stands piece (before ++ (if piece.offset == length before then piece.bytes else []))
  by_end true at = rw at (Stands-end piece before (eqb-true _ _ at))
  by_end false other = rw other (Stands-more piece before [] (stands piece before (⊎_elim (λ at. absurd (let no : false ≡ true = sym other ∙ at in cc)) (λ e. e) (or_cases _ _ on))))

-- ---- a front of a piece

short : (front whole : List ℕ) → length whole < length front → bytes_eq front (take (length front) whole) ≡ false
short front whole less = false_from_ne_true _ (λ is. omega (arith, ap length ((bytes_eq-Decides front _).0 is), length-take (length front) whole))

-- a piece at the same place is a front of one that is there where it is not longer and is there too
pub front_test : (whole piece : StreamPiece) (bytes : List ℕ) → Stands whole bytes → whole.offset ≡ piece.offset
    → starts_with nat_eq whole.bytes piece.bytes ≡ (nat_le (length piece.bytes) (length whole.bytes) && piece_stands_in piece bytes)
front_test whole piece bytes h at = by_length _ refl where
  fits : length piece.bytes ≤ length whole.bytes → take (length piece.bytes) whole.bytes ≡ take (length piece.bytes) (drop piece.offset bytes)
  fits less = ap (take (length piece.bytes)) h.same ∙ take-take _ _ _ less ∙ ap (λ o. take (length piece.bytes) (drop o bytes)) at

  by_length : (b : Bool) → nat_le (length piece.bytes) (length whole.bytes) ≡ b
      → starts_with nat_eq whole.bytes piece.bytes ≡ (nat_le (length piece.bytes) (length whole.bytes) && piece_stands_in piece bytes)
  by_length true fewer =
      let less = leb-true _ _ fewer in
      let within : nat_le (piece.offset + length piece.bytes) (length bytes) ≡ true = le-leb _ _ (omega (arith, h.within, at, less)) in
      rw (fewer, within) (ap (bytes_eq piece.bytes) (fits less))
  by_length false over = rw over (short piece.bytes whole.bytes (leb-false _ _ over))
