use Rattle.std.proofs.Common.{◌≡◌, []}
use Rattle.std.specs.Prelude.{replicate}
use Rattle.group_record.proofs.prints.Prints.new.Given as goal

abbrev pub invariant-loop : goal.invariant-loop
invariant-loop l = l.processes.items ≡ replicate l.counter []
