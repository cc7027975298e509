-- The stamps of pages, after what was written over them.
use Rattle.std.proofs.Common.{◌≡◌, ◌<◌, ◌≤◌, ℕ, ◌+◌, ◌*◌, zero, suc, true, false, List, [], ◌∷◌, ◌++◌, length, get_or, refl, ap, sym, ◌∙◌, arith, if◌then◌else◌}
use Rattle.std.proofs.Math.ListN.{set}
use Rattle.std.proofs.lemmas.Bool.Decides.{nat_tests}
use Rattle.guest_memory.specs.inside.Pages.{stamps_of}
use Rattle.guest_memory.specs.Stamps.{touches_page, stamped_pages, stamped_pages_from}
use Rattle.guest_memory.specs.declared.page.Page.{Page}

-- ---- which pages some bytes touch

touches-in : (i a done n r : ℕ) → a + done ≡ 4096 * i + r → 0 < n → r + n ≤ 4096 → touches_page i a (done + n) ≡ true
touches-in i a done n r e p h = grind (arith, nat_tests)

touches-later : (i a count : ℕ) → a + count ≤ 4096 * i → touches_page i a count ≡ false
touches-later i a count h = grind (arith, nat_tests)

touches-earlier : (i q a done n r : ℕ) → a + done ≡ 4096 * q + r → i < q → touches_page i a (done + n) ≡ touches_page i a done
touches-earlier i q a done n r e h = grind (arith, nat_tests)

-- ---- the stamps after a write

pub stamped-none : (i : ℕ) (ss : List ℕ) (a number : ℕ) → stamped_pages_from i ss a 0 number ≡ ss
stamped-none i [] a number = refl
stamped-none i (s ∷ ss) a number = ap (λ l. s ∷ l) (stamped-none (suc i) ss a number)

stamped-later : (i : ℕ) (ss : List ℕ) (a count number : ℕ) → a + count ≤ 4096 * i → stamped_pages_from i ss a count number ≡ ss
stamped-later i [] a count number h = refl
stamped-later i (s ∷ ss) a count number h = rw (touches-later i a count h) (ap (λ l. s ∷ l) (stamped-later (suc i) ss a count number (omega arith)))

-- n bytes more, in the page q
stamped-step : (i : ℕ) (ss : List ℕ) (k q a done n r number : ℕ) → q ≡ i + k → a + done ≡ 4096 * q + r → 0 < n → r + n ≤ 4096 → k < length ss
    → set (stamped_pages_from i ss a done number) k number ≡ stamped_pages_from i ss a (done + n) number
stamped-step i [] k q a done n r number at e p h l = absurd (omega arith)
stamped-step i (s ∷ ss) zero q a done n r number at e p h l =
    let same : a + done ≡ 4096 * i + r = omega arith in
    rw (touches-in i a done n r same p h)
    (ap (λ t. number ∷ t) (stamped-later (suc i) ss a done number (omega arith) ∙ sym (stamped-later (suc i) ss a (done + n) number (omega arith))))
stamped-step i (s ∷ ss) (suc k) q a done n r number at e p h l =
    rw (touches-earlier i q a done n r e (omega arith))
    (ap (λ t. (if touches_page i a done then number else s) ∷ t) (stamped-step (suc i) ss k q a done n r number (omega arith) e p h (omega arith)))

-- ---- the stamps of a list of pages

pub length-stamps : (ps : List Page) → length (stamps_of ps) ≡ length ps
length-stamps [] = refl
length-stamps (p ∷ ps) = ap suc (length-stamps ps)

pub stamps-get : (ps : List Page) (q : ℕ) (d : Page) → q < length ps → get_or (stamps_of ps) q 0 ≡ (get_or ps q d).stamp
stamps-get [] q d h = absurd (omega arith)
stamps-get (p ∷ ps) zero d h = refl
stamps-get (p ∷ ps) (suc q) d h = stamps-get ps q d (omega arith)

pub stamps-past : (ps : List Page) (q : ℕ) → length ps ≤ q → get_or (stamps_of ps) q 0 ≡ 0
stamps-past [] q h = refl
stamps-past (p ∷ ps) zero h = absurd (omega arith)
stamps-past (p ∷ ps) (suc q) h = stamps-past ps q (omega arith)

pub stamps-append : (ps qs : List Page) → stamps_of (ps ++ qs) ≡ stamps_of ps ++ stamps_of qs
stamps-append [] qs = refl
stamps-append (p ∷ ps) qs = ap (λ l. p.stamp ∷ l) (stamps-append ps qs)

stamps-set : (ps : List Page) (q : ℕ) (p : Page) → stamps_of (set ps q p) ≡ set (stamps_of ps) q p.stamp
stamps-set [] q p = refl
stamps-set (a ∷ ps) zero p = refl
stamps-set (a ∷ ps) (suc q) p = ap (λ l. a.stamp ∷ l) (stamps-set ps q p)

-- n bytes more, in the page q, which is stamped
pub stamps-more : (old now : List Page) (addr done n q r number : ℕ) (page : Page)
    → stamps_of now ≡ stamped_pages (stamps_of old) addr done number → page.stamp ≡ number → addr + done ≡ 4096 * q + r → 0 < n → r + n ≤ 4096 → q < length old
    → stamps_of (set now q page) ≡ stamped_pages (stamps_of old) addr (done + n) number
stamps-more old now addr done n q r number page so_far stamp at some fits room =
    stamps-set now q page
    ∙ rw (stamp, so_far) (stamped-step 0 (stamps_of old) q q addr done n r number (omega arith) at some fits (omega (arith, room, length-stamps old)))
