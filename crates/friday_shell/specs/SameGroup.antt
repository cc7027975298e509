-- Groups that no session can tell apart, and sessions over them that go the same way.
use Rattle.std.specs.Prelude.{◌≡◌, ℕ, List}
use Rattle.proc_replay.specs.Replaying.{Replaying}
use Rattle.group_state.specs.Place.{events_of_replays, node_names, states_of_nodes}
use Rattle.friday_shell.specs.Answer.{LineAnswer}
use Rattle.friday_shell.specs.Points.{SessionState}

-- their nodes have the same names, their events are the same in the same order, and so are the states at each position
pub record SameGroup (a b : List Replaying) : Type 0 where
  pub names : node_names a ≡ node_names b
  pub events : events_of_replays a ≡ events_of_replays b
  pub states : (k : ℕ) → states_of_nodes a k ≡ states_of_nodes b k

-- sessions over these replays that differ in nothing else
pub record SameSession (a b : List Replaying) (s t : SessionState) : Type 0 where
  pub first : s.place.start ≡ a
  pub second : t.place.start ≡ b
  pub at : s.place.at ≡ t.place.at
  pub points : s.points ≡ t.points
  pub made : s.made ≡ t.made
  pub variables : s.variables ≡ t.variables

-- answers that say the same, after which the sessions differ in nothing but their replays again
pub record SameAnswer (a b : List Replaying) (x y : LineAnswer) : Type 0 where
  pub text : x.text ≡ y.text
  pub state : SameSession a b x.state y.state
  pub quits : x.quits ≡ y.quits
