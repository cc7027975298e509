use Rattle.std.proofs.Common.{◌≡◌, ◌≤◌, ◌-◌, length, take}
use Rattle.guest_memory.specs.Memory.{bytes_from}
use Rattle.lib_calls.proofs.arguments.stands_at.Given as goal

abbrev pub invariant-loop-count : goal.invariant-loop-count
invariant-loop-count l = (l.count ≤ length l.bytes) × (take l.count l.bytes ≡ bytes_from l.memory l.addr l.count)

abbrev pub decreases-loop-count : goal.decreases-loop-count
decreases-loop-count l = length l.bytes - l.count
