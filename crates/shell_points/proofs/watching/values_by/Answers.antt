use Rattle.std.proofs.Common.{◌<◌, length, sym, arith}
use Rattle.shell_points.proofs.PointReads.{deals_one, has_room}
use Rattle.shell_points.proofs.watching.values_by.Goals as goal

pub value_by-value-requires-clause-room : goal.value_by-value-requires-clause-room
value_by-value-requires-clause-room c =
    let below : c.loop-point.point-index < length c.args.points.now = omega arith in
    has_room c.args.points.now c.args.watches.now c.loop-point.point-index c.loop-point.n c.loop-point.values.items c.loop-point.invariant c.point-item.result below (sym c.point-item.is)

pub loop-point-preserved : goal.loop-point-preserved
loop-point-preserved c =
    let below : c.loop-point.point-index < length c.args.points.now = omega arith in
    deals_one c.args.points.now c.args.watches.now c.loop-point.point-index c.loop-point.n c.loop-point.values.items c.loop-point.invariant c.point-item.result below (sym c.point-item.is)
    c.value_by-value.result.0 c.value_by-value.result.1 c.push.new.self.items c.value_by-value.ensures.next c.value_by-value.ensures.value c.in_ok-push.ensures.items
