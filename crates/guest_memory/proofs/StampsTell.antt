-- A page that does not bear the number of the event that writes is as it was.
use Rattle.std.proofs.Common.{◌≡◌, ◌<◌, ◌≤◌, ℕ, ◌+◌, ◌-◌, ◌*◌, zero, suc, Bool, true, false, cond, ◌&&◌, nat_lt, List, [], ◌∷◌, ◌++◌, length, get_or, take, drop, replicate, length-append, length-take, length-drop, refl, ap, sym, ◌∙◌, arith}
use Rattle.std.proofs.lemmas.Bool.Decides.{nat_tests}
use Rattle.std.proofs.lemmas.List.{take-append-drop}
use Rattle.guest_memory.specs.Laws.{KeepsPages, StampsTell, TellsWhenGrown, TellsWhenWritten}
use Rattle.guest_memory.specs.Memory.{Memory, can_grow, no_stamps, put_piece, zero_bytes}
use Rattle.guest_memory.specs.Stamps.{stamped_pages_from, touches_page}
use Rattle.guest_memory.proofs.WrittenPieces.{drop-add, drop-past, part-left, put-none}

-- ---- the stamps

stamped-length : (i : ℕ) (ss : List ℕ) (addr count number : ℕ) → length (stamped_pages_from i ss addr count number) ≡ length ss
stamped-length i [] addr count number = refl
stamped-length i (s ∷ ss) addr count number = ap suc (stamped-length (suc i) ss addr count number)

either-stays : (b : Bool) (number s : ℕ) → (cond b number s ≡ number → ⊥) → cond b number s ≡ s
either-stays true number s h = absurd (h refl)
either-stays false number s h = refl

stamped-stays : (i : ℕ) (ss : List ℕ) (k addr count number : ℕ) → (get_or (stamped_pages_from i ss addr count number) k 0 ≡ number → ⊥)
    → get_or (stamped_pages_from i ss addr count number) k 0 ≡ get_or ss k 0
stamped-stays i [] k addr count number h = refl
stamped-stays i (s ∷ ss) zero addr count number h = either-stays (touches_page i addr count) number s h
stamped-stays i (s ∷ ss) (suc k) addr count number h = stamped-stays (suc i) ss k addr count number h

not-chosen : (b : Bool) (number s : ℕ) → (cond b number s ≡ number → ⊥) → b ≡ false
not-chosen true number s h = absurd (h refl)
not-chosen false number s h = refl

untouched : (i : ℕ) (ss : List ℕ) (k q addr count number : ℕ) → q ≡ i + k → k < length ss
    → (get_or (stamped_pages_from i ss addr count number) k 0 ≡ number → ⊥) → touches_page q addr count ≡ false
untouched i [] k q addr count number at l h = absurd (omega arith)
untouched i (s ∷ ss) zero q addr count number at l h = let e : q ≡ i = omega arith in rw e (not-chosen (touches_page i addr count) number s h)
untouched i (s ∷ ss) (suc k) q addr count number at l h = untouched (suc i) ss k q addr count number (omega arith) (omega arith) h

zeros-get : (n page : ℕ) → get_or (replicate {A = ℕ} n 0) page 0 ≡ 0
zeros-get zero page = refl
zeros-get (suc n) zero = refl
zeros-get (suc n) (suc page) = zeros-get n page

-- pages that are added bear no stamp, as pages that are not there
more-get : (ss : List ℕ) (n page : ℕ) → get_or (ss ++ replicate {A = ℕ} n 0) page 0 ≡ get_or ss page 0
more-get [] n page = zeros-get n page
more-get (s ∷ ss) n zero = refl
more-get (s ∷ ss) n (suc page) = more-get ss n page

-- ---- the bytes from s on, where the piece is not among them

put-after : (xs : List ℕ) (s n addr : ℕ) (piece : List ℕ) → s + n ≤ addr → s + n ≤ length xs → take n (drop s (put_piece xs addr piece)) ≡ take n (drop s xs)
put-after xs s n addr piece h inside =
    let room : s + n ≤ length (take addr xs) = simp length-take (omega arith) in
    part-left (take addr xs) (piece ++ drop (addr + length piece) xs) s n room
    ∙ sym (part-left (take addr xs) (drop addr xs) s n room)
    ∙ ap (λ ys. take n (drop s ys)) (take-append-drop addr xs)

put-before : (xs : List ℕ) (s n addr : ℕ) (piece : List ℕ) → addr + length piece ≤ s → s + n ≤ length xs → take n (drop s (put_piece xs addr piece)) ≡ take n (drop s xs)
put-before xs s n addr piece h inside =
    let front : length (take addr xs) ≡ addr = simp length-take (omega arith) in
    let behind : drop s (put_piece xs addr piece) ≡ drop (s - (addr + length piece)) (drop (addr + length piece) xs) =
    drop-past (take addr xs) (piece ++ drop (addr + length piece) xs) s (s - addr) (omega (arith, front))
    ∙ drop-past piece (drop (addr + length piece) xs) (s - addr) (s - (addr + length piece)) (omega arith) in
    let sum : addr + length piece + (s - (addr + length piece)) ≡ s = omega arith in
    ap (take n) (behind ∙ drop-add xs (addr + length piece) (s - (addr + length piece)) ∙ ap (λ k. drop k xs) sum)

put-empty : (xs : List ℕ) (addr : ℕ) (piece : List ℕ) → length piece ≤ 0 → put_piece xs addr piece ≡ xs
put-empty xs addr [] h = put-none xs addr
put-empty xs addr (y ∷ u) h = absurd (omega arith)

not-below : (a b : ℕ) → nat_lt a b ≡ false → b ≤ a
not-below a b h = grind (arith, nat_tests)

put-longer : (xs : List ℕ) (addr : ℕ) (piece : List ℕ) → length xs ≤ length (put_piece xs addr piece)
put-longer xs addr piece = simp (length-append, length-append, length-drop, length-take) (omega arith)

-- the bytes of a page that the piece does not touch
page-stays : (xs : List ℕ) (q addr : ℕ) (piece : List ℕ) → touches_page q addr (length piece) ≡ false → 4096 * q + 4096 ≤ length xs
    → take 4096 (drop (4096 * q) (put_piece xs addr piece)) ≡ take 4096 (drop (4096 * q) xs)
page-stays xs q addr piece h inside = by_tests _ _ _ refl refl refl h
  where
    by_tests : (some below above : Bool) → nat_lt 0 (length piece) ≡ some → nat_lt addr (4096 * q + 4096) ≡ below → nat_lt (4096 * q) (addr + length piece) ≡ above
        → (some && (below && above)) ≡ false → take 4096 (drop (4096 * q) (put_piece xs addr piece)) ≡ take 4096 (drop (4096 * q) xs)
    by_tests false below above e f g h = ap (λ (ys : List ℕ). take 4096 (drop (4096 * q) ys)) (put-empty xs addr piece (not-below 0 (length piece) e))
    by_tests true false above e f g h = put-after xs (4096 * q) 4096 addr piece (not-below addr (4096 * q + 4096) f) inside
    by_tests true true false e f g h = put-before xs (4096 * q) 4096 addr piece (not-below (4096 * q) (addr + length piece) g) inside
    by_tests true true true e f g h = cc

-- ---- the laws

pub keeps : KeepsPages
keeps memory addr piece = stamped-length 0 memory.stamps addr (length piece) memory.number

pub written : TellsWhenWritten
written memory addr piece = record {
  grows = omega (arith, stamped-length 0 memory.stamps addr (length piece) memory.number);
  longer = put-longer memory.bytes addr piece;
  pages = λ page h. record {
    stamp = stamped-stays 0 memory.stamps page addr (length piece) memory.number h;
    bytes = λ some inside. page-stays memory.bytes page addr piece (untouched 0 memory.stamps page page addr (length piece) memory.number (omega arith) some h) inside;
  };
}

pub grown : TellsWhenGrown
unfolding no_stamps
grown memory pages = by_test (can_grow memory pages)
  where
    larger : Memory
    larger = record memory { bytes = memory.bytes ++ zero_bytes (65536 * pages); stamps = memory.stamps ++ replicate {A = ℕ} (16 * pages) 0 }

    by_test : (b : Bool) → StampsTell memory.number memory (cond b larger memory)
    by_test true = record {
      grows = omega (arith, length-append memory.stamps (replicate {A = ℕ} (16 * pages) 0));
      longer = omega (arith, length-append memory.bytes (zero_bytes (65536 * pages)));
      pages = λ page h. record {
        stamp = more-get memory.stamps (16 * pages) page;
        bytes = λ some inside. part-left memory.bytes (zero_bytes (65536 * pages)) (4096 * page) 4096 inside;
      };
    }
    by_test false = record { grows = omega arith; longer = omega arith; pages = λ page h. record { stamp = refl; bytes = λ some inside. refl } }
