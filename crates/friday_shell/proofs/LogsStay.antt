-- No command changes the logs of a session.
use Rattle.std.proofs.Common.{◌≡◌, ℕ, Bool, true, false, cond, ◌||◌, nat_le, nat_lt, List, length, Option, Some, None, ℤ, refl}
use Rattle.std.specs.Prelude.{slice_get}
use Rattle.call_table.specs.declared.kind.Kind.{Kind}
use Rattle.guest_process.specs.State.{State}
use Rattle.group_state.specs.Place.{events_of_replays, states_of_nodes}
use Rattle.point_programs.specs.Faulty.{set_names}
use Rattle.expression_text.specs.Expression.{Expression}
use Rattle.point_programs.specs.Tree.{Statements}
use Rattle.point_programs.specs.Variables.{is_mentioned, mention_all}
use Rattle.shell_lines.specs.Lines.{At, Back, Break, LineCommand, Continue, Delete, Do, Events, Everywhere, Frames, Goto, ListPoints, ListVariables, Mem, Print, Quit, Rcontinue, WhichNodes, SetTo, Step, Threads, Watch}
use Rattle.shell_points.specs.Points.{Trigger, has_point, index_of_point}
use Rattle.friday_shell.specs.Answer.{LineAnswer, adds_point, attaches_at, breaks_at, command_answer, deletes_point, frames_in, shows_frames, most_points, most_variables, sets_variable}
use Rattle.friday_shell.specs.Points.{SessionState}

module _ (state : SessionState) where
  abbrev Keeps : LineAnswer → Type 0
  Keeps a = a.state.place.start ≡ state.place.start

  either : (b : Bool) (a c : LineAnswer) → Keeps a → Keeps c → Keeps (cond b a c)
  either true a c h k = h
  either false a c h k = k

  adding : (line : List ℕ) (trigger : Trigger) (condition : Option Expression) → Keeps (adds_point state line trigger condition)
  adding line trigger condition = either (nat_lt (length state.points) most_points) _ _ refl refl

  deleting : (n : ℕ) → Keeps (deletes_point state n)
  deleting n = either (has_point state.points n) _ _ refl refl

  attaching : (body : Statements) (place : Option ℕ) → Keeps (attaches_at state body place)
  attaching body None = refl
  attaching body (Some place) = either (nat_le (length (mention_all state.variables (set_names body))) most_variables) _ _ refl refl

  setting : (name : List ℕ) (value : Option ℤ) → Keeps (sets_variable state name value)
  setting name value = either (is_mentioned state.variables name || nat_lt (length state.variables) most_variables) _ _ refl refl

  breaking : (line : List ℕ) (kind : Option Kind) (condition : Option Expression) (scope : WhichNodes) → Keeps (breaks_at state line kind condition scope)
  breaking line kind condition Everywhere = adding line _ condition
  breaking line kind condition (At None) = refl
  breaking line kind condition (At (Some n)) = adding line _ condition

  framing : (t : ℕ) (node : Option ℕ) → Keeps (shows_frames state node t)
  framing t None = refl
  framing t (Some n) = by (slice_get (states_of_nodes state.place.start state.place.at) n)
    where
      by : (S : Option State) → Keeps (frames_in state t S)
      by None = refl
      by (Some S) = either (nat_lt t (length S.crew.threads)) _ _ refl refl

  pub kept_start : (line : List ℕ) (c : LineCommand) → Keeps (command_answer state line c)
  kept_start line (Goto k) = either (nat_le k (length (events_of_replays state.place.start))) _ _ refl refl
  kept_start line (Step n) = refl
  kept_start line (Back n) = refl
  kept_start line (Print x) = refl
  kept_start line (Mem n addr len) = refl
  kept_start line (Threads n) = refl
  kept_start line (Frames n t) = framing t n
  kept_start line (Events n) = refl
  kept_start line (Watch x condition) = adding line _ condition
  kept_start line (Break scope kind condition) = breaking line kind condition scope
  kept_start line (Delete n) = deleting n
  kept_start line (Do n body) = attaching body (index_of_point state.points n)
  kept_start line ListPoints = refl
  kept_start line (SetTo name x) = setting name _
  kept_start line ListVariables = refl
  kept_start line (Continue most) = refl
  kept_start line Rcontinue = refl
  kept_start line Quit = refl
