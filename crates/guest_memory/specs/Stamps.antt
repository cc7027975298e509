-- The stamps of watch pages.
use Rattle.std.specs.Prelude.{ℕ, ◌+◌, ◌*◌, ◌≤◌, suc, Bool, ◌&&◌, nat_lt, List, [], ◌∷◌, if◌then◌else◌}

-- some byte of the page of number i is among the `count` bytes from this address on
abbrev pub touches_page : ℕ → ℕ → ℕ → Bool
touches_page i addr count = nat_lt 0 count && (nat_lt addr (4096 * i + 4096) && nat_lt (4096 * i) (addr + count))

-- the stamps of the pages from number i on, after an event of this number wrote `count` bytes there
abbrev pub stamped_pages_from : ℕ → List ℕ → ℕ → ℕ → ℕ → List ℕ
stamped_pages_from i [] addr count number = []
stamped_pages_from i (s ∷ ss) addr count number = (if touches_page i addr count then number else s) ∷ stamped_pages_from (suc i) ss addr count number

abbrev pub stamped_pages : List ℕ → ℕ → ℕ → ℕ → List ℕ
stamped_pages ss addr count number = stamped_pages_from 0 ss addr count number

-- no stamp is above this number
abbrev pub AreWithin : ℕ → List ℕ → Type 0
AreWithin most [] = Unit {0}
AreWithin most (s ∷ ss) = (s ≤ most) × AreWithin most ss
