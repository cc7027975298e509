-- The sends of a group's processes.
use Rattle.std.specs.FinMap as map
use Rattle.std.specs.Ordering.{nat_cmp, ordering_then}
use Rattle.std.specs.Prelude.{◌≡◌, ℕ, ◌==◌, ◌&&◌, Some, if◌then◌else◌}
use Rattle.std.specs.declared.cmp.Ordering.{Ordering}

-- by process, and then by clock
abbrev pub by_sender : ℕ × ℕ → ℕ × ℕ → Ordering
by_sender x y = ordering_then (nat_cmp x.0 y.0) (nat_cmp x.1 y.1)

-- the receiver of the send of a process at a clock
abbrev pub SendReceivers : Type 0
SendReceivers = map.FinMap by_sender ℕ

-- with one send more, its receiver is found at its process and clock, and at each other what was found before
abbrev pub FindsOneMoreSend : Type 0
FindsOneMoreSend = (sends : SendReceivers) (p clock to q at : ℕ)
    → map.get (map.insert sends (p, clock) to) (q, at) ≡ (if (p == q) && (clock == at) then Some to else map.get sends (q, at))
