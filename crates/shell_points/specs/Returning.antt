-- Where `rcontinue` goes, and what it says.
use Rattle.std.specs.Prelude.{ℕ, zero, suc, ◌&&◌, Bool, true, List, codes, Option, Some, None, if◌then◌else◌}
use Rattle.std.specs.List.{list_any}
use Rattle.point_programs.specs.Running.{has_stop}
use Rattle.point_programs.specs.Tree.{Statements}
use Rattle.proc_replay.specs.Replaying.{Replaying}
use Rattle.group_state.specs.Place.{GroupPlace}
use Rattle.shell_points.specs.Firing.{firing_lines, is_due_point}
use Rattle.shell_points.specs.Points.{Point}

-- there is no program, or one with a `stop` in it
abbrev pub may_stop : Option Statements → Bool
may_stop None = true
may_stop (Some body) = has_stop body

-- a point fires at position k that may stop there
abbrev pub is_stopping_point : List Replaying → ℕ → Point → Bool
is_stopping_point start k p = is_due_point start k p && may_stop p.program

-- some point fires at position k that may stop there
abbrev pub has_stopping_point : List Replaying → List Point → ℕ → Bool
has_stopping_point start points k = list_any (is_stopping_point start k) points

-- the greatest position below this one at which some point fires that may stop there
abbrev pub last_due : List Replaying → List Point → ℕ → Option ℕ
last_due start points zero = None
last_due start points (suc k) = if has_stopping_point start points k then Some k else last_due start points k

-- where it ended, and what it said
pub record Return : Type 0 where
  pub at : ℕ
  pub text : List ℕ

-- at position 0, where none fired that may stop
abbrev pub return_to : List Replaying → List Point → Option ℕ → Return
return_to start points None = record { at = 0; text = codes "start\n" }
return_to start points (Some k) = record { at = k; text = firing_lines start points k }

abbrev pub return_from : GroupPlace → List Point → Return
return_from place points = return_to place.start points (last_due place.start points place.at)
