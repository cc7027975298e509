-- What points read at a position, and what one does there by what it read at the position before.
use Rattle.std.specs.Prelude.{◌≡◌, ℕ, ◌-◌, ◌&&◌, Bool, false, List, [], map, Option, ℤ, if◌then◌else◌}
use Rattle.group_state.specs.Moves.{last_event_of}
use Rattle.group_state.specs.Place.{GroupPlace}
use Rattle.proc_replay.specs.Replaying.{Replaying}
use Rattle.point_programs.specs.Running.{ProgramState}
use Rattle.shell_points.specs.Firing.{firing_lines, has_due_point, is_due_by, firing_line_by, meets_condition, reading}
use Rattle.shell_points.specs.Points.{Point}
use Rattle.shell_points.specs.declared.back.Said.{Said}
use Rattle.shell_points.specs.Returning.{has_stopping_point, may_stop}
use Rattle.shell_points.specs.Walking.{fired_point, setting_at}

-- what each point reads at position k
abbrev pub point_readings : List Replaying → ℕ → List Point → List (Option ℤ)
point_readings start k points = map (λ p. reading start k p.trigger) points

-- what each point read at the position before that of a place
abbrev pub readings_before : GroupPlace → List Point → List (Option ℤ)
readings_before place points = point_readings place.start (place.at - 1) points

-- no point fires at a place
abbrev pub NoneFires : GroupPlace → List Point → Type 0
NoneFires place points = has_due_point place.start points place.at ≡ false

-- a point fires at a place that read this before and reads that now
abbrev pub fires_by : Option ℤ → Option ℤ → GroupPlace → Point → Bool
fires_by before now place p = is_due_by before now (last_event_of place) p.trigger && meets_condition place p.condition

-- what it does there
abbrev pub treat_by : Option ℤ → Option ℤ → GroupPlace → ProgramState → Point → ProgramState
treat_by before now place r p = if fires_by before now place p then fired_point (setting_at place) r (firing_line_by before now p.number p.trigger) p.program else r

-- what it says there, if it fires
abbrev pub point_said_by : Option ℤ → Option ℤ → GroupPlace → Point → List ℕ
point_said_by before now place p = if fires_by before now place p then firing_line_by before now p.number p.trigger else []

-- what all points say that fire at position k, and whether one of them may stop there
pub record SaysAt (start : List Replaying) (k : ℕ) (points : List Point) (said : Said) : Type 0 where
  pub text_is : said.text ≡ firing_lines start points k
  pub stops_is : said.stops ≡ has_stopping_point start points k

-- it fires there and may stop
abbrev pub stops_by : Option ℤ → Option ℤ → GroupPlace → Point → Bool
stops_by before now place p = fires_by before now place p && may_stop p.program
