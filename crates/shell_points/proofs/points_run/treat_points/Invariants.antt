use Rattle.std.proofs.Common.{◌≡◌, drop, map}
use Rattle.shell_points.specs.declared.point.Point.{Point as Held}
use Rattle.shell_points.specs.inside.Meanings.{point, run_so_far}
use Rattle.shell_points.specs.Walking.{quiet_program, treat_points}
use Rattle.shell_points.proofs.points_run.treat_points.Given as goal

-- what the points still to come do makes of what was done so far what all of them do
abbrev pub invariant-loop-n : goal.invariant-loop-n
invariant-loop-n l =
    treat_points l.group.start l.group.at (run_so_far l.variables l.run) (map {A = Held} point (drop l.n l.points)) ≡ treat_points l.group.start l.group.at (quiet_program l.fn.variables) (map {A = Held} point l.points)
