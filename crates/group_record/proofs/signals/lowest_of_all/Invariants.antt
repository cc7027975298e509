use Rattle.std.proofs.Common.{◌≡◌, ◌+◌, ◌-◌}
use Rattle.lib_calls.specs.Answer.{Answer}
use Rattle.guest_signals.specs.Signals.{most_signal}
use Rattle.guest_process.specs.Live.{is_ready_signal, lowest_signal}
use Rattle.group_world.specs.World.{has_pending}
use Rattle.group_record.specs.inside.Around.{handlers_at}
use Rattle.group_record.proofs.signals.lowest_of_all.Given as goal

abbrev pub invariant-loop-s : goal.invariant-loop-s
invariant-loop-s l = (a : Answer) → lowest_signal (is_ready_signal (handlers_at l.process l.thread a) (has_pending l.world l.p)) most_signal 1 ≡ lowest_signal (is_ready_signal (handlers_at l.process l.thread a) (has_pending l.world l.p)) (1 + most_signal - l.s) l.s
