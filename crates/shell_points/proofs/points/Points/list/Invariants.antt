use Rattle.std.proofs.Common.{◌≡◌, ◌++◌, drop, map}
use Rattle.std.specs.List.{flat_map}
use Rattle.shell_points.specs.Points.{point_text}
use Rattle.shell_points.specs.declared.point.Point.{Point as Held}
use Rattle.shell_points.specs.inside.Meanings.{point}
use Rattle.shell_points.proofs.points.Points.list.Given as goal

-- what is written, with the lines of the points still to come, is the whole
abbrev pub invariant-loop-point : goal.invariant-loop-point
invariant-loop-point l = l.text ++ flat_map point_text (map {A = Held} point (drop l.point-index l.point-items)) ≡ flat_map point_text l.fn.self
