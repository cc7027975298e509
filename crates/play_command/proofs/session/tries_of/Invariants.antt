use Rattle.std.proofs.Common.{◌≡◌, take}
use Rattle.schedule_text.specs.Schedule.{run_count}
use Rattle.play_command.proofs.session.tries_of.Given as goal

abbrev pub invariant-loop-item : goal.invariant-loop-item
invariant-loop-item l = l.tries ≡ run_count (take l.item-index l.items)
