use Rattle.std.proofs.Common.{map, take}
use Rattle.log_pairs.specs.Meanings.{pair_of}
use Rattle.schedule_command.proofs.ScheduleLines.{AreLines}
use Rattle.schedule_command.proofs.making.lines_of.Given as goal

abbrev pub invariant-loop-replayer : goal.invariant-loop-replayer
invariant-loop-replayer l = AreLines (map pair_of l.pairs) l.all (take l.replayer-index l.replayers) l.lines.items
