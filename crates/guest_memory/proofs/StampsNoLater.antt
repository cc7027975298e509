-- No stamp is later than the event that writes.
use Rattle.std.proofs.Common.{◌≤◌, ℕ, ◌*◌, zero, suc, Bool, true, false, cond, List, [], ◌∷◌, ◌++◌, replicate, refl, arith}
use Rattle.guest_memory.specs.Laws.{FreshIsUnstamped, NoLaterWhenGrown, NoLaterWhenWritten, StampsNoLater}
use Rattle.guest_memory.specs.Memory.{Memory, can_grow, no_stamps, zero_bytes}
use Rattle.guest_memory.specs.Stamps.{AreWithin, stamped_pages_from, touches_page}

either_within : (b : Bool) (number s : ℕ) → s ≤ number → cond b number s ≤ number
either_within true number s h = omega arith
either_within false number s h = h

stamped_within : (i : ℕ) (ss : List ℕ) (addr count number : ℕ) → AreWithin number ss → AreWithin number (stamped_pages_from i ss addr count number)
stamped_within i [] addr count number w = tt
stamped_within i (s ∷ ss) addr count number w = (either_within (touches_page i addr count) number s w.0, stamped_within (suc i) ss addr count number w.1)

zeros_within : (most n : ℕ) → AreWithin most (replicate n 0)
zeros_within most zero = tt
zeros_within most (suc n) = (omega arith, zeros_within most n)

append_within : (most : ℕ) (ss rest : List ℕ) → AreWithin most ss → AreWithin most rest → AreWithin most (ss ++ rest)
append_within most [] rest w v = v
append_within most (s ∷ ss) rest w v = (w.0, append_within most ss rest w.1 v)

unstamped : (most pages : ℕ) → AreWithin most (no_stamps pages)
unfolding no_stamps
unstamped most pages = zeros_within most (16 * pages)

pub written : NoLaterWhenWritten
written memory addr piece = record { number = refl; within = stamped_within 0 memory.stamps addr _ memory.number }

pub grown : NoLaterWhenGrown
grown memory pages = by_test (can_grow memory pages)
  where
    larger : Memory
    larger = record memory { bytes = memory.bytes ++ zero_bytes (65536 * pages); stamps = memory.stamps ++ no_stamps pages }

    by_test : (b : Bool) → StampsNoLater memory (cond b larger memory)
    by_test true = record { number = refl; within = λ w. append_within memory.number memory.stamps (no_stamps pages) w (unstamped memory.number pages) }
    by_test false = record { number = refl; within = λ w. w }

pub begins : FreshIsUnstamped
begins pages max = unstamped 0 pages
