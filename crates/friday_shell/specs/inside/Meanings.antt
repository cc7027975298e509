-- The session that a group and what is kept with it stand for, and what a command does to it.
use Rattle.std.specs.Prelude.{◌≡◌, ℕ, suc, ◌++◌, List, Some, slice_get}
use Rattle.group_order.specs.Order.{NodeEvent}
use Rattle.group_state.specs.Place.{GroupPlace, events_of_replays}
use Rattle.group_text.specs.Texts.{event_line}
use Rattle.lib_calls.specs.declared.entry.Entry.{Entry}
use Rattle.friday_shell.specs.declared.state.PointsAndVariables.{PointsAndVariables}
use Rattle.friday_shell.specs.Points.{SessionState}
use Rattle.friday_shell.specs.Answer.{LineAnswer}

-- what a session keeps, whose group is there
abbrev pub state_with : GroupPlace → PointsAndVariables → SessionState
state_with place kept = record { place = place; points = kept.points; made = kept.made; variables = kept.variables }

-- a command was done: this was its answer, and the session is where the answer says
pub record PerformsCommand (answered : LineAnswer) (new : SessionState) (text : List ℕ) : Type 0 where
  pub text_is : text ≡ answered.text
  pub state : new ≡ answered.state

-- the next event was made, and its line written
pub record WritesNext (old new : GroupPlace) (before after : List ℕ) : Type 0 where
  pub event : NodeEvent Entry
  pub gives : slice_get (events_of_replays old.start) old.at ≡ Some event
  pub place : new ≡ record old { at = suc old.at }
  pub written : after ≡ before ++ event_line old.start (suc old.at) event
