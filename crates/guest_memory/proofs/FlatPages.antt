-- Pages laid end to end.
use Rattle.std.proofs.Common.{◌≡◌, ◌<◌, ◌≤◌, ℕ, ◌+◌, ◌*◌, zero, suc, List, [], ◌∷◌, ◌++◌, length, get_or, take, drop, replicate, append_assoc, length-append, zero-add, refl, ap, sym, ◌∙◌, arith}
use Rattle.std.proofs.Math.ListN.{set}
use Rattle.guest_memory.specs.Memory.{put_piece}
use Rattle.guest_memory.specs.inside.Pages.{AreWhole, bytes_of_pages, put_in_page, stamps_of}
use Rattle.guest_memory.specs.declared.page.Page.{Page}
use Rattle.guest_memory.proofs.WrittenPieces.{drop-past, part-left, put-left, put-right}

pub flat-length : (ps : List Page) → AreWhole ps → length (bytes_of_pages ps) ≡ 4096 * length ps
flat-length [] w = refl
flat-length (p ∷ ps) w = let h = flat-length ps w.1 in omega (arith, length-append p.bytes (bytes_of_pages ps), w.0, h)

pub whole-get : (ps : List Page) (q : ℕ) (d : Page) → AreWhole ps → q < length ps → length (get_or ps q d).bytes ≡ 4096
whole-get [] q d w h = absurd (omega arith)
whole-get (p ∷ ps) zero d w h = w.0
whole-get (p ∷ ps) (suc q) d w h = whole-get ps q d w.1 (omega arith)

pub whole-set : (ps : List Page) (q : ℕ) (p : Page) → AreWhole ps → length p.bytes ≡ 4096 → AreWhole (set ps q p)
whole-set [] q p w h = tt
whole-set (a ∷ ps) zero p w h = (h, w.1)
whole-set (a ∷ ps) (suc q) p w h = (w.0, whole-set ps q p w.1 h)

pub set-same : (ps : List Page) (q : ℕ) (d : Page) → q < length ps → set ps q (get_or ps q d) ≡ ps
set-same [] q d h = absurd (omega arith)
set-same (p ∷ ps) zero d h = refl
set-same (p ∷ ps) (suc q) d h = ap (λ l. p ∷ l) (set-same ps q d (omega arith))

-- a piece that stays in the page q
pub flat-put : (ps : List Page) (q r a : ℕ) (piece : List ℕ) (number : ℕ) (d : Page) → AreWhole ps → q < length ps → r + length piece ≤ 4096 → a ≡ 4096 * q + r
    → put_piece (bytes_of_pages ps) a piece ≡ bytes_of_pages (set ps q (put_in_page (get_or ps q d) r piece number))
flat-put [] q r a piece number d w h k e = absurd (omega arith)
flat-put (p ∷ ps) zero r a piece number d w h k e = let s : a ≡ r = omega arith in rw s (put-left p.bytes (bytes_of_pages ps) r piece (omega (arith, w.0)))
flat-put (p ∷ ps) (suc q) r a piece number d w h k e =
    put-right p.bytes (bytes_of_pages ps) a (4096 * q + r) piece (omega (arith, w.0))
    ∙ ap (λ l. p.bytes ++ l) (flat-put ps q r (4096 * q + r) piece number d w.1 (omega arith) k refl)

-- a part that stays in the page q
pub flat-part : (ps : List Page) (q r a n : ℕ) (d : Page) → AreWhole ps → q < length ps → r + n ≤ 4096 → a ≡ 4096 * q + r
    → take n (drop a (bytes_of_pages ps)) ≡ take n (drop r (get_or ps q d).bytes)
flat-part [] q r a n d w h k e = absurd (omega arith)
flat-part (p ∷ ps) zero r a n d w h k e = let s : a ≡ r = omega arith in rw s (part-left p.bytes (bytes_of_pages ps) r n (omega (arith, w.0)))
flat-part (p ∷ ps) (suc q) r a n d w h k e =
    ap (take n) (drop-past p.bytes (bytes_of_pages ps) a (4096 * q + r) (omega (arith, w.0)))
    ∙ flat-part ps q r (4096 * q + r) n d w.1 (omega arith) k refl

pub flat-append : (ps qs : List Page) → bytes_of_pages (ps ++ qs) ≡ bytes_of_pages ps ++ bytes_of_pages qs
flat-append [] qs = refl
flat-append (p ∷ ps) qs = rw (flat-append ps qs) (sym (append_assoc p.bytes (bytes_of_pages ps) (bytes_of_pages qs)))

-- ---- pages of zeros, at a length that is a variable: a list of 4,096 zeros is never written out

-- pages of n zeros that no event wrote to
abbrev pub AreZeros : ℕ → List Page → Type 0
AreZeros n [] = Unit {0}
AreZeros n (p ∷ ps) = (p.stamp ≡ 0) × (p.bytes ≡ replicate n 0) × AreZeros n ps

pub zeros-more : (n : ℕ) (ps : List Page) (p : Page) → AreZeros n ps → p.stamp ≡ 0 → p.bytes ≡ replicate n 0 → AreZeros n (ps ++ p ∷ [])
zeros-more n [] p z h k = (h, k, tt)
zeros-more n (a ∷ ps) p z h k = (z.0, z.1, zeros-more n ps p z.2 h k)

replicate-more : (n m : ℕ) → replicate {A = ℕ} n 0 ++ replicate {A = ℕ} m 0 ≡ replicate {A = ℕ} (n + m) 0
replicate-more zero m = rw zero-add refl
replicate-more (suc n) m = let e : suc n + m ≡ suc (n + m) = omega arith in rw e (ap (λ (l : List ℕ). 0 ∷ l) (replicate-more n m))

pub zeros-flat : (n : ℕ) (ps : List Page) → AreZeros n ps → bytes_of_pages ps ≡ replicate (n * length ps) 0
zeros-flat n [] z = let e : n * 0 ≡ 0 = omega arith in rw e refl
zeros-flat n (p ∷ ps) z =
    let e : n * suc (length ps) ≡ n + n * length ps = omega arith in
    rw (z.1, e, zeros-flat n ps z.2) (replicate-more n (n * length ps))

pub zeros-stamps : (n : ℕ) (ps : List Page) → AreZeros n ps → stamps_of ps ≡ replicate (length ps) 0
zeros-stamps n [] z = refl
zeros-stamps n (p ∷ ps) z = rw z.0 (ap (λ (l : List ℕ). 0 ∷ l) (zeros-stamps n ps z.2))

length-replicate : (n : ℕ) → length (replicate {A = ℕ} n 0) ≡ n
length-replicate zero = refl
length-replicate (suc n) = ap suc (length-replicate n)

abbrev AreSized : ℕ → List Page → Type 0
AreSized n [] = Unit {0}
AreSized n (p ∷ ps) = (length p.bytes ≡ n) × AreSized n ps

sized-append : (n : ℕ) (ps qs : List Page) → AreSized n ps → AreZeros n qs → AreSized n (ps ++ qs)
sized-append n [] [] w z = tt
sized-append n [] (q ∷ qs) w z = (ap length z.1 ∙ length-replicate n, sized-append n [] qs tt z.2)
sized-append n (p ∷ ps) qs w z = (w.0, sized-append n ps qs w.1 z)

to-sized : (ps : List Page) → AreWhole ps → AreSized 4096 ps
to-sized [] w = tt
to-sized (p ∷ ps) w = (w.0, to-sized ps w.1)

from-sized : (ps : List Page) → AreSized 4096 ps → AreWhole ps
from-sized [] w = tt
from-sized (p ∷ ps) w = (w.0, from-sized ps w.1)

pub whole-append : (ps qs : List Page) → AreWhole ps → AreZeros 4096 qs → AreWhole (ps ++ qs)
whole-append ps qs w z = from-sized (ps ++ qs) (sized-append 4096 ps qs (to-sized ps w) z)
