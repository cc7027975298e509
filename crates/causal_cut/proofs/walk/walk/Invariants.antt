use Rattle.std.proofs.Common.{◌-◌, length}
use Rattle.group_state.specs.Place.{events_of_replays}
use Rattle.causal_cut.proofs.GroupWalk.{IsWalked}
use Rattle.causal_cut.proofs.walk.walk.Given as goal

abbrev pub invariant-events : goal.invariant-events
invariant-events l = IsWalked l.fn.group l.here l.clocks l.asks.items

abbrev pub decreases-events : goal.decreases-events
decreases-events l = length (events_of_replays l.fn.group.start) - l.here.at
