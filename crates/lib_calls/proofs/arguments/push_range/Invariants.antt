use Rattle.std.proofs.Common.{◌≡◌, ◌++◌, ◌≤◌, ◌-◌}
use Rattle.guest_memory.specs.Memory.{bytes_from}
use Rattle.lib_calls.proofs.arguments.push_range.Given as goal

abbrev pub invariant-loop-count : goal.invariant-loop-count
invariant-loop-count l = (l.count ≤ l.len) × (l.out.items ≡ l.initial.out.items ++ bytes_from l.memory l.addr l.count)

abbrev pub decreases-loop-count : goal.decreases-loop-count
decreases-loop-count l = l.len - l.count
