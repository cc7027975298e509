use Rattle.std.proofs.Common.{◌-◌, length}
use Rattle.group_state.specs.Place.{events_of_replays}
use Rattle.schedule_back.proofs.GroupWalk.{WalkedTo}
use Rattle.schedule_back.proofs.draft.walk.Given as goal

abbrev pub invariant-events : goal.invariant-events
invariant-events l = WalkedTo l.fn.group l.group l.fn.draft l.longer

abbrev pub decreases-events : goal.decreases-events
decreases-events l = length (events_of_replays l.fn.group.start) - l.group.at
