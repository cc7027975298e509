-- What points do where they fire, and where `continue` goes.
use Rattle.std.specs.Prelude.{ℕ, zero, suc, ◌+◌, ◌-◌, nat_le, Bool, true, false, ◌||◌, List, [], ◌∷◌, ◌++◌, length, codes, count_by, Option, Some, None, slice_get, unwrap_or, if◌then◌else◌}
use Rattle.fri_text.specs.Line.{is_line_feed}
use Rattle.proc_replay.specs.Replaying.{Replaying}
use Rattle.group_state.specs.Place.{GroupPlace, events_of_replays, node_names}
use Rattle.group_state.specs.Nodes.{nodes_at}
use Rattle.point_programs.specs.Running.{ProgramSetting, ProgramState, after_statements, program_setting}
use Rattle.point_programs.specs.Tree.{Statements}
use Rattle.point_programs.specs.Variables.{Variable}
use Rattle.shell_points.specs.Firing.{firing_line, is_due_point, node_of_event, place_at}
use Rattle.shell_points.specs.Points.{Point}

-- ---- at one position

-- the name of a node, if there is one
abbrev pub name_of_event : List Replaying → Option ℕ → List ℕ
name_of_event start None = []
name_of_event start (Some node) = unwrap_or (slice_get (node_names start) node) []

-- what programs run over at a place
abbrev pub setting_at : GroupPlace → ProgramSetting
setting_at place = program_setting (nodes_at place) (node_of_event place) (name_of_event place.start (node_of_event place))

abbrev pub with_stop : ProgramState → Bool → ProgramState
with_stop r stopped = record { variables = r.variables; text = r.text; stopped = stopped }

-- a program ran this way, where it was asked to stop before, or not
abbrev pub with_earlier_stop : Bool → ProgramState → ProgramState
with_earlier_stop asked r = with_stop r (asked || r.stopped)

-- Without a program a point says its line and asks to stop. With one it runs it, and asks to stop where the program did.
abbrev pub fired_point : ProgramSetting → ProgramState → List ℕ → Option Statements → ProgramState
fired_point here r line None = record { variables = r.variables; text = r.text ++ line; stopped = true }
fired_point here r line (Some body) = with_earlier_stop r.stopped (after_statements here (with_stop r false) body)

-- what a point does at position k, if it fires there
abbrev pub treat_point : List Replaying → ℕ → ProgramState → Point → ProgramState
treat_point start k r p =
    if is_due_point start k p then fired_point (setting_at (place_at start k)) r (firing_line start k p.number p.trigger) p.program else r

-- what points do at position k, one after the other
abbrev pub treat_points : List Replaying → ℕ → ProgramState → List Point → ProgramState
treat_points start k r [] = r
treat_points start k r (p ∷ points) = treat_points start k (treat_point start k r p) points

-- ---- from one position to the next

-- where a walk ended, what it made of the variables, and what it said
pub record Walk : Type 0 where
  pub at : ℕ
  pub variables : List Variable
  pub text : List ℕ

abbrev pub walk_ended : ℕ → List Variable → List ℕ → Walk
walk_ended at variables text = record { at = at; variables = variables; text = text }

-- a walk that has said so many lines pauses
abbrev pub most_walk_lines : ℕ
most_walk_lines = 10000

abbrev pub lines_in : List ℕ → ℕ
lines_in text = count_by is_line_feed text

-- After all points of a position were treated: where none asked to stop, and no more was said than may be, the rest of the
-- walk follows.
abbrev pub walk_on : (List Variable → List ℕ → Walk) → ℕ → List ℕ → ProgramState → Walk
walk_on rest at said r =
    if r.stopped then walk_ended at r.variables (said ++ r.text)
    else if nat_le most_walk_lines (lines_in (said ++ r.text)) then walk_ended at r.variables ((said ++ r.text) ++ codes "paused\n")
    else rest r.variables (said ++ r.text)

-- nothing said, and not asked to stop
abbrev pub quiet_program : List Variable → ProgramState
quiet_program variables = record { variables = variables; text = []; stopped = false }

-- what a walk says that no point ended: whether it came to the last position
abbrev pub last_word : List Replaying → ℕ → List ℕ
last_word start at = if nat_le (length (events_of_replays start)) at then codes "end\n" else codes "paused\n"

-- the walk over so many positions after this one, which has said this
abbrev pub walk_over : List Replaying → List Point → ℕ → ℕ → List Variable → List ℕ → Walk
walk_over start points at zero variables said = walk_ended at variables (said ++ last_word start at)
walk_over start points at (suc left) variables said =
    walk_on (walk_over start points (suc at) left) (suc at) said (treat_points start (suc at) (quiet_program variables) points)

-- as many as may be walked, of so many positions ahead
abbrev pub steps_of : Option ℕ → ℕ → ℕ
steps_of None ahead = ahead
steps_of (Some most) ahead = if nat_le most ahead then most else ahead

-- how many positions are ahead
abbrev pub positions_ahead : GroupPlace → ℕ
positions_ahead place = length (events_of_replays place.start) - place.at

-- the walk from a position, which may go on to the last, or over so many positions at most
abbrev pub walk_from : GroupPlace → List Point → List Variable → Option ℕ → Walk
walk_from place points variables most = walk_over place.start points place.at (steps_of most (positions_ahead place)) variables []

-- the greatest position to which it may go
abbrev pub walk_limit : GroupPlace → Option ℕ → ℕ
walk_limit place most = place.at + steps_of most (positions_ahead place)
