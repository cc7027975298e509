use Rattle.std.proofs.Common.{◌-◌, length}
use Rattle.group_state.specs.Place.{events_of_replays}
use Rattle.streams_command.proofs.GroupWalk.{WalkedTo}
use Rattle.streams_command.proofs.walking.walk.Given as goal

abbrev pub invariant-events : goal.invariant-events
invariant-events l = WalkedTo l.fn.replayers.items l.here l.told

abbrev pub decreases-events : goal.decreases-events
decreases-events l = length (events_of_replays l.fn.replayers.items) - l.here.at
