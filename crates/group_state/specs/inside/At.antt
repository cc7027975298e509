-- What holds within a group.
use Rattle.std.specs.Prelude.{◌≡◌, ◌<◌, ◌≤◌, ◌^◌, length, map}
use Rattle.group_state.specs.declared.group.Course.{Course}
use Rattle.group_state.specs.declared.group.Group.TheInside.{Inside}
use Rattle.group_state.specs.Place.{AreGroupReplays, ReplaysFit, GroupPlace, events_of_replays}
use Rattle.group_state.specs.inside.Turns.{head_of_replay}
use Rattle.group_state.specs.inside.Motions.{AreMotions}
use Rattle.group_state.specs.inside.Stands.{AreStands, IsStand}

abbrev pub place_of_course : Course → GroupPlace
place_of_course g = record { start = g.start.items; at = g.here.at }

abbrev pub place_of_group : Inside → GroupPlace
place_of_group g = place_of_course g.course

-- the group stands at its position and stood at its checkpoints, the heads are those of the position, and it knows the
-- positions of each node's events up to it
pub record IsSoundCourse (g : Course) : Type 0 where
  pub replayers : AreGroupReplays g.start.items
  pub fits : ReplaysFit g.start.items
  pub few : length (events_of_replays g.start.items) < 2 ^ 64
  pub here : IsStand g.start.items g.here
  pub heads : g.merge ≡ map head_of_replay g.here.replayers.items
  pub kept : AreStands g.start.items g.checkpoints.stands.items
  pub moved : AreMotions g.start.items g.motions
  pub been : g.here.at ≤ g.motions.reached

abbrev pub IsSoundGroup : Inside → Type 0
IsSoundGroup g = IsSoundCourse g.course
