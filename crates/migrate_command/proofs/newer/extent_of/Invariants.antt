use Rattle.std.proofs.Common.{◌≡◌, ◌+◌, ◌≤◌, length}
use Rattle.call_log.specs.Log.{entries_of, rest_of_log}
use Rattle.migrate_command.proofs.newer.extent_of.Given as goal

abbrev pub invariant-entries : goal.invariant-entries
invariant-entries l = record {
  counted : l.entries + length (entries_of l.behind.left) ≡ length (entries_of l.log.left);
  rest : rest_of_log l.behind.left ≡ rest_of_log l.log.left;
  fits : l.entries + length l.behind.left.bytes ≤ length l.log.left.bytes;
}

abbrev pub decreases-entries : goal.decreases-entries
decreases-entries l = length l.behind.left.bytes
