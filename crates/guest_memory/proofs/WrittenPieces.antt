-- Pieces that are written over bytes, and parts that are read of them.
use Rattle.std.proofs.Common.{◌≡◌, ◌≤◌, ℕ, ◌+◌, zero, suc, List, [], ◌∷◌, ◌++◌, length, take, drop, length-append, length-take, length-drop, zero-add, add-zero, refl, ap, sym, ◌∙◌, arith}
use Rattle.std.proofs.lemmas.List.{take-append-drop}
use Rattle.std.proofs.lemmas.Grind.{common_steps}
use Rattle.guest_memory.specs.Memory.{put_piece}

pub put-length : (xs : List ℕ) (a : ℕ) (piece : List ℕ) → a + length piece ≤ length xs → length (put_piece xs a piece) ≡ length xs
put-length xs a piece h = simp (length-append, length-append, length-drop, length-take) (omega arith)

-- a piece that lies in the first of two lists
pub put-left : (xs ys : List ℕ) (a : ℕ) (piece : List ℕ) → a + length piece ≤ length xs → put_piece (xs ++ ys) a piece ≡ put_piece xs a piece ++ ys
put-left xs ys a piece h = grind (arith, common_steps)

put-cons : (x : ℕ) (xs : List ℕ) (n : ℕ) (piece : List ℕ) → put_piece (x ∷ xs) (suc n) piece ≡ x ∷ put_piece xs n piece
put-cons x xs n piece = let e : suc n + length piece ≡ suc (n + length piece) = omega arith in rw e refl

put-front : (x : ℕ) (xs : List ℕ) (y : ℕ) (u : List ℕ) → put_piece (x ∷ xs) 0 (y ∷ u) ≡ y ∷ put_piece xs 0 u
put-front x xs y u = let e : 0 + suc (length u) ≡ suc (0 + length u) = omega arith in rw e refl

-- a piece that lies in the second of two lists
pub put-right : (xs ys : List ℕ) (a b : ℕ) (piece : List ℕ) → a ≡ length xs + b → put_piece (xs ++ ys) a piece ≡ xs ++ put_piece ys b piece
put-right [] ys a b piece h = let e : a ≡ b = omega arith in rw e refl
put-right (x ∷ xs) ys a b piece h =
    let s : a ≡ suc (length xs + b) = omega arith in
    rw s (put-cons x (xs ++ ys) (length xs + b) piece ∙ ap (λ l. x ∷ l) (put-right xs ys (length xs + b) b piece refl))

pub put-none : (xs : List ℕ) (a : ℕ) → put_piece xs a [] ≡ xs
put-none xs a = simp add-zero (take-append-drop a xs)

-- two pieces, the second of which begins where the first ends
pub put-more : (xs : List ℕ) (a b : ℕ) (u v : List ℕ) → b ≡ a + length u → b + length v ≤ length xs
    → put_piece (put_piece xs a u) b v ≡ put_piece xs a (u ++ v)
put-more xs zero b [] v e h = let z : b ≡ 0 = omega arith in rw (put-none xs 0, z) refl
put-more [] zero b (y ∷ u) v e h = absurd (omega arith)
put-more (x ∷ xs) zero b (y ∷ u) v e h =
    let z : b ≡ suc (0 + length u) = omega arith in
    rw (put-front x xs y u, z, put-cons y (put_piece xs 0 u) (0 + length u) v, put-front x xs y (u ++ v))
    (ap (λ l. y ∷ l) (put-more xs zero (0 + length u) u v refl (omega arith)))
put-more [] (suc a) b u v e h = absurd (omega arith)
put-more (x ∷ xs) (suc a) b u v e h =
    let z : b ≡ suc (a + length u) = omega arith in
    rw (put-cons x xs a u, z, put-cons x (put_piece xs a u) (a + length u) v, put-cons x xs a (u ++ v))
    (ap (λ l. x ∷ l) (put-more xs a (a + length u) u v refl (omega arith)))

take-nil : (m : ℕ) → take {A = ℕ} m [] ≡ []
take-nil zero = refl
take-nil (suc m) = refl

pub take-more : (xs : List ℕ) (n m : ℕ) → take n xs ++ take m (drop n xs) ≡ take (n + m) xs
take-more xs zero m = rw zero-add refl
take-more [] (suc n) m = rw (take-nil m, take-nil (suc n + m)) refl
take-more (x ∷ xs) (suc n) m = let e : suc n + m ≡ suc (n + m) = omega arith in rw e (ap (λ l. x ∷ l) (take-more xs n m))

-- a part of the second of two lists
pub drop-past : (xs ys : List ℕ) (a b : ℕ) → a ≡ length xs + b → drop a (xs ++ ys) ≡ drop b ys
drop-past [] ys a b e = let s : a ≡ b = omega arith in rw s refl
drop-past (x ∷ xs) ys a b e = let s : a ≡ suc (length xs + b) = omega arith in rw s (drop-past xs ys (length xs + b) b refl)

-- a part of the first of two lists
pub part-left : (xs ys : List ℕ) (r n : ℕ) → r + n ≤ length xs → take n (drop r (xs ++ ys)) ≡ take n (drop r xs)
part-left xs ys r n h = grind (arith, common_steps)

pub drop-add : (xs : List ℕ) (a n : ℕ) → drop n (drop a xs) ≡ drop (a + n) xs
drop-add xs a n = grind (arith, common_steps)

take-front : (xs ys : List ℕ) (n : ℕ) → n ≡ length xs → take n (xs ++ ys) ≡ xs
take-front xs ys n e = grind (arith, common_steps)

-- two parts in a row, written to the front of some bytes
pub joined : (xs buffer : List ℕ) (a n m w : ℕ) → w ≡ n + m → a + w ≤ length xs → w ≤ length buffer
    → take w (drop 0 (put_piece (put_piece buffer 0 (take n (drop a xs))) (length (take n (drop a xs))) (take m (drop (a + n) xs)))) ≡ take w (drop a xs)
joined xs buffer a n m w e inside fits =
    let front : length (take n (drop a xs)) ≡ n = simp (length-take, length-drop) (omega arith) in
    let back : length (take m (drop (a + n) xs)) ≡ m = simp (length-take, length-drop) (omega arith) in
    let both : take n (drop a xs) ++ take m (drop (a + n) xs) ≡ take w (drop a xs) = rw (e, ← drop-add xs a n) (take-more (drop a xs) n m) in
    let size : length (take w (drop a xs)) ≡ w = simp (length-take, length-drop) (omega arith) in
    rw (put-more buffer 0 (length (take n (drop a xs))) (take n (drop a xs)) (take m (drop (a + n) xs)) (omega arith) (omega (arith, front, back)), both)
    (take-front (take w (drop a xs)) (drop (0 + length (take w (drop a xs))) buffer) w (sym size))
