use Rattle.std.proofs.Common.{◌≡◌, take}
use Rattle.cut_command.specs.inside.Meanings.{fronts_of}
use Rattle.cut_command.proofs.fronts.fronts_of.Given as goal

abbrev pub invariant-loop-node : goal.invariant-loop-node
invariant-loop-node l = l.fronts.items ≡ fronts_of (take l.node l.logs) (take l.node l.cut.kept) (take l.node l.cut.accepted)
