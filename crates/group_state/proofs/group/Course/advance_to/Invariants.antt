use Rattle.std.proofs.Common.{◌≡◌, ◌≤◌, ◌-◌}
use Rattle.group_state.specs.inside.At.{IsSoundCourse}
use Rattle.group_state.proofs.group.Course.advance_to.Given as goal

abbrev pub invariant-events : goal.invariant-events
invariant-events l = record {
  sound : IsSoundCourse l.self;
  start : l.self.start.items ≡ l.initial.self.start.items;
  at : l.self.here.at ≤ l.k;
}

abbrev pub decreases-events : goal.decreases-events
decreases-events l = l.k - l.self.here.at
