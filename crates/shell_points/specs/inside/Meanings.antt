-- The points, the run of their programs and the ends of walks that values of the code stand for.
use Rattle.std.specs.Prelude.{List, option_map}
use Rattle.point_programs.specs.Variables.{Variable}
use Rattle.point_programs.specs.Tree.{program_body}
use Rattle.shell_points.specs.declared.point.Point.{Point as Held}
use Rattle.point_programs.specs.Running.{ProgramState}
use Rattle.shell_points.specs.declared.points_run.PointsRun.{PointsRun}
use Rattle.shell_points.specs.declared.back.Return.{Return as Ended}
use Rattle.shell_points.specs.Points.{Point}
use Rattle.shell_points.specs.Meanings.{held_condition, trigger}
use Rattle.shell_points.specs.Returning.{Return}

abbrev pub point : Held → Point
point p = record { number = p.number; text = p.text; trigger = trigger p.trigger; condition = held_condition p.condition; program = option_map program_body p.program }

-- what points did so far at a position, where programs made this of the variables
abbrev pub run_so_far : List Variable → PointsRun → ProgramState
run_so_far variables t = record { variables = variables; text = t.text; stopped = t.stops }

-- where a walk back ends
abbrev pub return_of : Ended → Return
return_of r = record { at = r.at; text = r.text }
