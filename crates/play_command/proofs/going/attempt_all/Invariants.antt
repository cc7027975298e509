use Rattle.std.proofs.Common.{ℕ, ◌+◌, ◌-◌, ◌≤◌}
use Rattle.group_record.specs.Run.{run_attempts}
use Rattle.play_command.specs.inside.Counts.{counted_of}
use Rattle.play_command.specs.inside.Playing.{IsUnderWay}
use Rattle.play_command.proofs.Reached.{ReachedFrom}
use Rattle.play_command.proofs.going.attempt_all.Given as goal

abbrev pub invariant-loop : goal.invariant-loop
invariant-loop l = record {
  under_way : IsUnderWay l.names l.live;
  counted : counted_of l.told ≤ counted_of l.initial.told + l.counter;
  reached : (number : ℕ) → ReachedFrom l.names (λ group. run_attempts group number l.p l.thread l.times) (λ group. run_attempts group number l.p l.thread (l.times - l.counter)) l.initial.live l.initial.told l.live l.told;
}
