-- Whether a range of addresses lies in the pages.
use Rattle.std.proofs.Common.{◌≡◌, ◌<◌, ◌≤◌, ℕ, ◌+◌, ◌-◌, ◌*◌, ◌/◌, ◌%◌, true, false, List, length, nat_le, arith}
use Rattle.std.proofs.lemmas.Bool.Decides.{nat_tests}
use Rattle.guest_memory.specs.inside.Pages.{AreWhole, bytes_of_pages}
use Rattle.guest_memory.specs.declared.page.Page.{Page}
use Rattle.guest_memory.proofs.FlatPages.{flat-length}

-- whether a range that stays in one page lies in the pages is whether its page is one of them
pub one-inside : (ps : List Page) (addr n : ℕ) → AreWhole ps → addr % 4096 + n ≤ 4096 → addr / 4096 < length ps → nat_le (addr + n) (length (bytes_of_pages ps)) ≡ true
one-inside ps addr n w one h = let all = flat-length ps w in grind (arith, nat_tests, all)

pub one-outside : (ps : List Page) (addr n : ℕ) → AreWhole ps → 0 < n → length ps ≤ addr / 4096 → nat_le (addr + n) (length (bytes_of_pages ps)) ≡ false
one-outside ps addr n w some h = let all = flat-length ps w in grind (arith, nat_tests, all)

-- the two tests of a range are the one of the definition
pub test-then : (ps : List Page) (addr n : ℕ) → AreWhole ps → addr ≤ length ps * 4096 → nat_le n (length ps * 4096 - addr) ≡ nat_le (addr + n) (length (bytes_of_pages ps))
test-then ps addr n w h = let all = flat-length ps w in rw all (grind (arith, nat_tests))

pub test-else : (ps : List Page) (addr n : ℕ) → AreWhole ps → length ps * 4096 < addr → nat_le addr (length ps * 4096) ≡ nat_le (addr + n) (length (bytes_of_pages ps))
test-else ps addr n w h = let all = flat-length ps w in rw all (grind (arith, nat_tests))

-- the bytes of a memory are few
pub few-bytes : (ps : List Page) (max : ℕ) → AreWhole ps → length ps ≤ 16 * max → max ≤ 256 → length (bytes_of_pages ps) ≤ 16777216
few-bytes ps max w within most = omega (arith, flat-length ps w)
