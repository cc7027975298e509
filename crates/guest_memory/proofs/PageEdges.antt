-- What is read and written over the edge between two pages, by way of the 16 bytes around it.
use Rattle.std.proofs.Common.{◌≡◌, ◌<◌, ◌≤◌, ℕ, ◌+◌, ◌-◌, ◌*◌, List, ◌++◌, length, get_or, take, drop, length-take, length-drop, length-set, refl, ap, sym, ◌∙◌, arith, take-append-drop}
use Rattle.std.proofs.Math.ListN.{set}
use Rattle.std.proofs.lemmas.List.{drop-append-le, drop-take, drop_at, get_or-set_other, take-append-le, take-take, take_all, take_at}
use Rattle.guest_memory.specs.Memory.{put_piece}
use Rattle.guest_memory.specs.inside.Pages.{AreWhole, bytes_of_pages, put_in_page}
use Rattle.guest_memory.specs.declared.page.Page.{Page}
use Rattle.guest_memory.proofs.FlatPages.{flat-length, flat-part, whole-get}
use Rattle.guest_memory.proofs.PageWrites.{Puts, puts-more, puts-none}
use Rattle.guest_memory.proofs.WrittenPieces.{drop-add, joined, put-length, put-more, take-more}

-- the 16 bytes are put together from the two pages
pub over_edge : (ps : List Page) (q : ℕ) (buffer once both : List ℕ) (d e : Page) → AreWhole ps → q + 1 < length ps → length buffer ≡ 16
    → once ≡ put_piece buffer 0 (take 8 (drop 4088 (get_or ps q d).bytes)) → both ≡ put_piece once 8 (take 8 (drop 0 (get_or ps (q + 1) e).bytes))
    → both ≡ take 16 (drop (4096 * q + 4088) (bytes_of_pages ps))
over_edge ps q buffer once both d e w next size at-front at-back =
    let xs = bytes_of_pages ps in
    let a = 4096 * q + 4088 in
    let all = flat-length ps w in
    let front : take 8 (drop 4088 (get_or ps q d).bytes) ≡ take 8 (drop a xs) = sym (flat-part ps q 4088 a 8 d w (omega (arith, next)) (omega arith) refl) in
    let back : take 8 (drop 0 (get_or ps (q + 1) e).bytes) ≡ take 8 (drop (a + 8) xs) = sym (flat-part ps (q + 1) 0 (a + 8) 8 e w next (omega arith) (omega arith)) in
    let n : length (take 8 (drop a xs)) ≡ 8 = simp (length-take, length-drop) (omega (arith, all, next)) in
    let m : length (take 8 (drop (a + 8) xs)) ≡ 8 = simp (length-take, length-drop) (omega (arith, all, next)) in
    let so : both ≡ put_piece (put_piece buffer 0 (take 8 (drop a xs))) (length (take 8 (drop a xs))) (take 8 (drop (a + 8) xs)) =
    at-back ∙ ap (λ o. put_piece o 8 (take 8 (drop 0 (get_or ps (q + 1) e).bytes))) (at-front ∙ ap (put_piece buffer 0) front)
    ∙ ap (put_piece (put_piece buffer 0 (take 8 (drop a xs))) 8) back
    ∙ ap (λ k. put_piece (put_piece buffer 0 (take 8 (drop a xs))) k (take 8 (drop (a + 8) xs))) (sym n) in
    let once_long : length (put_piece buffer 0 (take 8 (drop a xs))) ≡ 16 = put-length buffer 0 (take 8 (drop a xs)) (omega (arith, n, size)) ∙ size in
    let long : length both ≡ 16 = ap length so ∙ put-length (put_piece buffer 0 (take 8 (drop a xs))) (length (take 8 (drop a xs))) (take 8 (drop (a + 8) xs)) (omega (arith, n, m, once_long)) ∙ once_long in
    sym (take_all 16 both (omega (arith, long))) ∙ ap (λ o. take 16 o) so ∙ joined xs buffer a 8 8 16 refl (omega (arith, all, next)) (omega (arith, size))

-- a part of these
pub part_over : (xs : List ℕ) (a e k w n : ℕ) → e + k ≡ a → k + w ≤ n → take w (drop k (take n (drop e xs))) ≡ take w (drop a xs)
part_over xs a e k w n at in_n =
    let rest : n ≡ k + (n - k) = omega (arith, in_n) in
    ap (λ n. take w (drop k (take n (drop e xs)))) rest
    ∙ ap (take w) (drop-take k (n - k) (drop e xs))
    ∙ take-take w (n - k) (drop k (drop e xs)) (omega (arith, in_n))
    ∙ ap (take w) (drop-add xs e k ∙ ap (λ a. drop a xs) at)

-- a part of some bytes in the place where it was
put-same : (xs : List ℕ) (a n : ℕ) → a + n ≤ length xs → put_piece xs a (take n (drop a xs)) ≡ xs
put-same xs a n h =
    let u = take n (drop a xs) in
    let len : length u ≡ n = simp (length-take, length-drop) (omega (arith, h)) in
    ap (λ k. take a xs ++ (u ++ drop (a + k) xs)) len
    ∙ ap (λ l. take a xs ++ (u ++ l)) (sym (drop-add xs a n))
    ∙ ap (λ l. take a xs ++ l) (take-append-drop n (drop a xs))
    ∙ take-append-drop a xs

-- a piece that is written at k over bytes that begin as those from a on: their first k + c, written there, are its first c
put_low : (xs b piece : List ℕ) (a k c : ℕ) → take k b ≡ take k (drop a xs) → k ≤ length b → c ≤ length piece → a + k + c ≤ length xs
    → put_piece xs a (take (k + c) (put_piece b k piece)) ≡ put_piece xs (a + k) (take c piece)
put_low xs b piece a k c same in_b in_piece inside =
    let u = take k (drop a xs) in
    let rest = drop (k + length piece) b in
    let n : length (take k b) ≡ k = simp length-take (omega (arith, in_b)) in
    let m : length u ≡ k = simp (length-take, length-drop) (omega (arith, inside)) in
    let c_long : length (take c piece) ≡ c = simp length-take (omega (arith, in_piece)) in
    let parts : take (k + c) (put_piece b k piece) ≡ u ++ take c piece =
    sym (take-more (put_piece b k piece) k c)
    ∙ ap (λ l. l ++ take c (drop k (put_piece b k piece))) (take_at (take k b) (piece ++ rest) k n ∙ same)
    ∙ ap (λ l. u ++ take c l) (drop_at (take k b) (piece ++ rest) k n)
    ∙ ap (λ l. u ++ l) (take-append-le c piece rest in_piece) in
    ap (put_piece xs a) parts
    ∙ sym (put-more xs a (a + length u) u (take c piece) refl (omega (arith, m, c_long, inside)))
    ∙ ap (λ l. put_piece l (a + length u) (take c piece)) (put-same xs a k (omega (arith, inside)))
    ∙ ap (λ k. put_piece xs (a + k) (take c piece)) m

-- and those from k + c on, written where the others begin, are the rest of it
put_high : (ys b piece : List ℕ) (k c n : ℕ) → drop (k + c) b ≡ take n ys → c ≤ length piece → length piece ≤ c + n → n ≤ length ys → k ≤ length b
    → put_piece ys 0 (drop (k + c) (put_piece b k piece)) ≡ put_piece ys 0 (drop c piece)
put_high ys b piece k c n same in_piece in_n inside in_b =
    let v = drop c piece in
    let v_long : length v + c ≡ length piece = omega (arith, length-drop c piece, in_piece) in
    let m = n - length v in
    let k_long : length (take k b) ≡ k = simp length-take (omega (arith, in_b)) in
    let rest : drop (k + length piece) b ≡ take m (drop (length v) ys) =
    ap (λ j. drop j b) (omega (arith, v_long))
    ∙ sym (drop-add b (k + c) (length v))
    ∙ ap (drop (length v)) (same ∙ ap (λ j. take j ys) (omega (arith, v_long, in_n)))
    ∙ drop-take (length v) m ys in
    let parts : drop (k + c) (put_piece b k piece) ≡ v ++ take m (drop (length v) ys) =
    sym (drop-add (put_piece b k piece) k c)
    ∙ ap (drop c) (drop_at (take k b) (piece ++ drop (k + length piece) b) k k_long)
    ∙ drop-append-le c piece (drop (k + length piece) b) in_piece
    ∙ ap (λ l. v ++ l) rest in
    let once = put_piece ys 0 v in
    let once_long : length once ≡ length ys = put-length ys 0 v (omega (arith, v_long, in_n, inside)) in
    let behind : drop (length v) once ≡ drop (length v) ys = drop_at v (drop (0 + length v) ys) (length v) refl ∙ ap (λ j. drop j ys) (omega arith) in
    let z_long : length (take m (drop (length v) ys)) ≤ m = simp length-take (omega arith) in
    ap (put_piece ys 0) parts
    ∙ sym (put-more ys 0 (length v) v (take m (drop (length v) ys)) (omega arith) (omega (arith, z_long, v_long, in_n, inside)))
    ∙ ap (λ l. put_piece once (length v) (take m l)) (sym behind)
    ∙ put-same once (length v) m (omega (arith, once_long, v_long, in_n, inside))

-- a piece over the edge behind the page q: its first c bytes are written to that page, and then the others to the next
module _ (ps : List Page) (addr q k c number : ℕ) (piece b : List ℕ) (w : AreWhole ps) (next : q + 1 < length ps) (halves : k + c ≡ 8) (some : 0 < c) (over : c < length piece) (few : length piece ≤ c + 8) (at : addr ≡ 4096 * q + 4088 + k) (is_b : b ≡ take 16 (drop (4096 * q + 4088) (bytes_of_pages ps))) where
  abbrev xs : List ℕ
  xs = bytes_of_pages ps

  long : length b ≡ 16
  long = ap length is_b ∙ simp (length-take, length-drop) (omega (arith, flat-length ps w, next))

  within : addr + length piece ≤ length xs
  within =
      let all : length xs ≡ 4096 * length ps = flat-length ps w in
      omega (arith, all, next, at, halves, few)

  pub first_put : (d page : Page) → page ≡ put_in_page (get_or ps q d) 4088 (take 8 (put_piece b k piece)) number → Puts ps (set ps q page) addr (take c piece) number
  first_put d page is =
      let room : q < length ps = omega (arith, next) in
      let size = whole-get ps q d w room in
      let p = (get_or ps q d).bytes in
      let same : take k b ≡ take k (drop 4088 p) =
      ap (take k) is_b ∙ take-take k 16 (drop (4096 * q + 4088) xs) (omega (arith, halves))
      ∙ flat-part ps q 4088 (4096 * q + 4088) k d w room (omega (arith, halves)) refl in
      let low : put_piece p 4088 (take 8 (put_piece b k piece)) ≡ put_piece p (4088 + k) (take c piece) =
      ap (λ s. put_piece p 4088 (take s (put_piece b k piece))) (sym halves)
      ∙ put_low p b piece 4088 k c same (omega (arith, long, halves)) (omega (arith, over)) (omega (arith, size, halves)) in
      let none : 0 + c ≡ c = omega arith in
      rw (← none) (puts-more ps ps addr piece 0 c number q (4088 + k) d page (puts-none ps addr number w) refl within (omega (arith, over)) some (omega (arith, at)) (omega (arith, halves)) room
      (is ∙ ap (λ (l : List ℕ). record { stamp = number; bytes = l }) low))

  pub second_put : (d page next_page : Page) (now : List Page) → now ≡ set ps q page → Puts ps now addr (take c piece) number
      → next_page ≡ put_in_page (get_or now (q + 1) d) 0 (take 8 (drop 8 (put_piece b k piece))) number → Puts ps (set now (q + 1) next_page) addr piece number
  second_put d page next_page now is_now puts is =
      let len : length now ≡ length ps = ap length is_now ∙ length-set ps q page in
      let same_page : get_or now (q + 1) d ≡ get_or ps (q + 1) d = ap (λ l. get_or l (q + 1) d) is_now ∙ get_or-set_other ps q (q + 1) page d (omega arith) in
      let ys = (get_or now (q + 1) d).bytes in
      let size = whole-get now (q + 1) d puts.whole (omega (arith, len, next)) in
      let count = length piece - c in
      let same : drop (k + c) b ≡ take 8 ys =
      ap (λ s. drop s b) halves ∙ ap (drop 8) is_b ∙ drop-take 8 8 (drop (4096 * q + 4088) xs) ∙ ap (take 8) (drop-add xs (4096 * q + 4088) 8)
      ∙ flat-part ps (q + 1) 0 (4096 * q + 4088 + 8) 8 d w next (omega arith) (omega arith)
      ∙ ap (λ (p : Page). take 8 p.bytes) (sym same_page) in
      let b_long : length (put_piece b k piece) ≡ 16 = put-length b k piece (omega (arith, long, halves, few)) ∙ long in
      let high : put_piece ys 0 (take 8 (drop 8 (put_piece b k piece))) ≡ put_piece ys 0 (take count (drop c piece)) =
      ap (put_piece ys 0) (take_all 8 (drop 8 (put_piece b k piece)) (omega (arith, length-drop 8 (put_piece b k piece), b_long)))
      ∙ ap (λ s. put_piece ys 0 (drop s (put_piece b k piece))) (sym halves)
      ∙ put_high ys b piece k c 8 same (omega (arith, over)) few (omega (arith, size)) (omega (arith, long, halves))
      ∙ ap (put_piece ys 0) (sym (take_all count (drop c piece) (omega (arith, length-drop c piece)))) in
      let whole : take (c + count) piece ≡ piece = take_all (c + count) piece (omega (arith, over)) in
      rw (← whole) (puts-more ps now addr piece c count number (q + 1) 0 d next_page puts len within (omega (arith, over)) (omega (arith, over)) (omega (arith, at, halves)) (omega (arith, over, few)) (omega (arith, len, next))
      (is ∙ ap (λ (l : List ℕ). record { stamp = number; bytes = l }) high))
