-- The line at the front of some bytes, and all their lines.
use Rattle.std.proofs.Common.{◌≡◌, ℕ, suc, ◌+◌, ◌<◌, ◌≤◌, ltb, false, cond, List, [], ◌∷◌, length, take, drop, Option, Some, None, refl, sym, ap, ◌∙◌, arith, inl, inr, eqb}
use Rattle.std.specs.Prelude.{map, unwrap_or}
use Rattle.std.specs.List.{position, position_or_len, before_first, after_first, onto_first}
use Rattle.std.specs.Str.Lines.{strip_carriage_return}
use Rattle.std.proofs.lemmas.Bool.{cases_Bool, eqb-false}
use Rattle.std.proofs.lemmas.List.{drop-drop, length-drop}
use Rattle.std.proofs.lemmas.List.Sums.{prefix_len-le-length}
use Rattle.std.proofs.lemmas.Option.{cond_some, some_pair_parts}
use Rattle.fri_bytes.specs.Reading.{CursorState, TakesFromCursor, byte_at, piece_at}
use Rattle.fri_text.specs.Line.{is_line_feed, line_at, pieces_of, lines_of}

unwrap_or-cond : (n most : ℕ) → n ≤ most → unwrap_or (cond (ltb n most) (Some n) None) most ≡ n
unwrap_or-cond n most h = grind arith

-- the place of the first line feed, or the length
unwrap_or-position : (bytes : List ℕ) → unwrap_or (position is_line_feed bytes) (length bytes) ≡ position_or_len is_line_feed bytes
unwrap_or-position bytes = unwrap_or-cond (position_or_len is_line_feed bytes) (length bytes) (prefix_len-le-length _ bytes)

byte_drops_at : (bytes : List ℕ) (old new : CursorState) (byte : Option ℕ) → old.left ≡ bytes → TakesFromCursor old new byte (byte_at bytes) → (new.left ≡ drop 1 old.left) × (new.at + length new.left ≡ old.at + length old.left)
byte_drops_at [] old new None e h =
    (ap (λ (r : CursorState). r.left) h.1 ∙ e ∙ sym (ap (drop 1) e), ap (λ (r : CursorState). r.at + length r.left) h.1)
byte_drops_at [] old new (Some b) e h = absurd (let no = h.0 in cc)
byte_drops_at (c ∷ bytes) old new None e h = absurd (let no = h.0 in cc)
byte_drops_at (c ∷ bytes) old new (Some b) e h =
    let parts = some_pair_parts c b bytes new.left h.0 in
    (sym parts.1 ∙ sym (ap (drop 1) e), h.1)

-- taking a byte, if there is one, drops it
pub byte_drops : (old new : CursorState) (byte : Option ℕ) → TakesFromCursor old new byte (byte_at old.left) → (new.left ≡ drop 1 old.left) × (new.at + length new.left ≡ old.at + length old.left)
byte_drops old new byte h = byte_drops_at old.left old new byte refl h

positive : (bytes rest : List ℕ) → rest ≡ bytes → (length rest ≡ 0 → ⊥) → 0 < length bytes
positive bytes rest same some = omega (arith, ap length same)

line_at-is : (bytes : List ℕ) → 0 < length bytes → line_at bytes ≡ Some (strip_carriage_return (before_first is_line_feed bytes), after_first is_line_feed bytes)
line_at-is [] some = absurd (omega arith)
line_at-is (b ∷ bytes) some = refl

line_taken : (bytes line left : List ℕ) (n : ℕ) → 0 < length bytes → n ≡ position_or_len is_line_feed bytes → ◌≡◌ {A = List ℕ × List ℕ} (take n bytes, drop n bytes) (line, left) → line_at bytes ≡ Some (strip_carriage_return line, drop 1 left)
line_taken bytes line left n some place pieces =
    let front : before_first is_line_feed bytes ≡ line = ap (λ (k : ℕ). take k bytes) (sym place) ∙ ap (λ (p : List ℕ × List ℕ). p.0) pieces in
    let back : drop n bytes ≡ left = ap (λ (p : List ℕ × List ℕ). p.1) pieces in
    let after : after_first is_line_feed bytes ≡ drop 1 left = ap (λ (k : ℕ). drop (k + 1) bytes) (sym place) ∙ sym (drop-drop 1 n bytes) ∙ ap (drop 1) back in
    rw (line_at-is bytes some, front, after) refl

-- the piece up to the line feed, and the line feed if there is one, are the line
pub line_next : (bytes rest line left : List ℕ) (end : ℕ) (found : Option ℕ) → rest ≡ bytes → eqb (length rest) 0 ≡ false → found ≡ position is_line_feed rest → end ≡ unwrap_or found (length rest) → piece_at end bytes ≡ Some (line, left) → line_at bytes ≡ Some (strip_carriage_return line, drop 1 left)
line_next bytes rest line left end found same some found-is end-is taken =
    let place : end ≡ position_or_len is_line_feed bytes = end-is ∙ ap (λ (o : Option ℕ). unwrap_or o (length rest)) found-is ∙ unwrap_or-position rest ∙ ap (position_or_len is_line_feed) same in
    line_taken bytes line left end (positive bytes rest same (eqb-false (length rest) 0 some)) place (cond_some _ _ _ taken).1

take_more : (k b : ℕ) (bytes : List ℕ) → take (1 + k) (b ∷ bytes) ≡ b ∷ take k bytes
take_more k b bytes = let e : 1 + k ≡ suc k = omega arith in rw e refl

drop_more : (k b : ℕ) (bytes : List ℕ) → drop ((1 + k) + 1) (b ∷ bytes) ≡ drop (k + 1) bytes
drop_more k b bytes = let e : (1 + k) + 1 ≡ suc (k + 1) = omega arith in rw e refl

-- all lines with their carriage returns are the first one, and those of the bytes after it
pieces_of-first : (b : ℕ) (bytes : List ℕ) → pieces_of (b ∷ bytes) ≡ before_first is_line_feed (b ∷ bytes) ∷ pieces_of (after_first is_line_feed (b ∷ bytes))
pieces_of-first b [] =
    elim (cases_Bool (is_line_feed b)) [
      | inl ends ↦ rw ends refl
      | inr goes_on ↦ rw goes_on refl
    ]
pieces_of-first b (c ∷ bytes) =
    let ih = pieces_of-first c bytes in
    let k : ℕ = position_or_len is_line_feed (c ∷ bytes) in
    elim (cases_Bool (is_line_feed b)) [
      | inl ends ↦ rw ends refl
      | inr goes_on ↦ rw (goes_on, take_more k b (c ∷ bytes), drop_more k b (c ∷ bytes)) (ap (onto_first b) ih)
    ]

-- all lines are the first one, and those of the bytes after it
pub lines_of_some : (bytes line rest : List ℕ) → line_at bytes ≡ Some (line, rest) → lines_of bytes ≡ line ∷ lines_of rest
lines_of_some [] line rest e = absurd cc
lines_of_some (b ∷ bytes) line rest e =
    let parts = some_pair_parts _ line _ rest e in
    ap (map strip_carriage_return) (pieces_of-first b bytes) ∙ ap (λ (l : List ℕ). l ∷ lines_of (after_first is_line_feed (b ∷ bytes))) parts.0 ∙ ap (λ (r : List ℕ). line ∷ lines_of r) parts.1

-- a line takes a byte or more
pub line_shortens : (bytes line rest : List ℕ) → line_at bytes ≡ Some (line, rest) → length rest < length bytes
line_shortens [] line rest e = absurd cc
line_shortens (b ∷ bytes) line rest e =
    let parts = some_pair_parts _ line _ rest e in
    let n : ℕ = position_or_len is_line_feed (b ∷ bytes) in
    omega (arith, length-drop (n + 1) (b ∷ bytes), ap length parts.1)
