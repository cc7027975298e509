use Rattle.std.proofs.Common.{◌≡◌, ◌+◌, ◌≤◌, length}
use Rattle.group_state.specs.Place.{events_of_replays}
use Rattle.friday_shell.proofs.answer.advance.Given as goal

abbrev pub invariant-steps : goal.invariant-steps
invariant-steps l = record {
  start : l.group.start ≡ l.initial.group.start;
  at : l.group.at + l.left ≡ l.initial.group.at + l.count;
  within : l.group.at ≤ length (events_of_replays l.group.start);
}

abbrev pub decreases-steps : goal.decreases-steps
decreases-steps l = l.left
