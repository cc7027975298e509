use Rattle.std.proofs.Common.{◌≡◌, ◌++◌, ◌||◌, drop, map}
use Rattle.shell_points.specs.declared.point.Point.{Point as Held}
use Rattle.shell_points.specs.Firing.{firing_lines}
use Rattle.shell_points.specs.Returning.{has_stopping_point}
use Rattle.shell_points.specs.inside.Meanings.{point}
use Rattle.shell_points.proofs.back.said_here.Given as goal

-- what was said, with what the points still to come say, is the whole; and so it is with whether one may stop
abbrev pub invariant-loop-n : goal.invariant-loop-n
invariant-loop-n l = record {
  text : l.said.text ++ firing_lines l.group.start (map {A = Held} point (drop l.n l.points)) l.group.at ≡ firing_lines l.group.start (map {A = Held} point l.points) l.group.at;
  stops : (l.said.stops || has_stopping_point l.group.start (map {A = Held} point (drop l.n l.points)) l.group.at) ≡ has_stopping_point l.group.start (map {A = Held} point l.points) l.group.at;
}
