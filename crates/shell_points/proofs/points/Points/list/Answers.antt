use Rattle.std.specs.List.{flat_map}
use Rattle.shell_points.specs.Points.{point_text}
use Rattle.shell_points.proofs.HeldPoints.{listed}
use Rattle.shell_points.proofs.points.Points.list.Goals as goal

pub loop-point-preserved : goal.loop-point-preserved
loop-point-preserved c =
    listed c.loop-point.text c.push_point.new.text (flat_map point_text c.args.self.now) _ c.loop-point.point-index c.point-item.result _
    c.loop-point-test.true c.point-item.is c.in_ok-push_point.ensures c.loop-point.invariant
