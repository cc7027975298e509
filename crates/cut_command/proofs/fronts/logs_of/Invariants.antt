use Rattle.std.proofs.Common.{◌≡◌, map, take}
use Rattle.cut_command.specs.inside.Meanings.{log_of_replay}
use Rattle.cut_command.proofs.fronts.logs_of.Given as goal

abbrev pub invariant-loop-replayer : goal.invariant-loop-replayer
invariant-loop-replayer l = l.logs.items ≡ map log_of_replay (take l.replayer-index l.replayers)
