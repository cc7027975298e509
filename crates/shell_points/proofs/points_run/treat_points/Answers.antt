use Rattle.std.proofs.Common.{◌≡◌, ◌<◌, ◌-◌, None, length, get_or, map, sym, arith}
use Rattle.shell_points.specs.declared.point.Point.{Point as Held}
use Rattle.shell_points.specs.inside.Meanings.{point, run_so_far}
use Rattle.shell_points.specs.Walking.{quiet_program, treat_points}
use Rattle.shell_points.proofs.PointWalks.{read_at, treated, treated_more}
use Rattle.shell_points.proofs.points_run.treat_points.Goals as goal

pub loop-n-preserved : goal.loop-n-preserved
loop-n-preserved c =
    let start = c.args.group.now.start in
    let at = c.args.group.now.at in
    let points = c.args.points.now in
    let before = c.args.before.now in
    let now = c.args.now.now in
    let n = c.loop-n.n in
    let p = c.index-points-n.result in
    let within : n < length points = omega (arith, c.loop-n-test.true) in
    let here : get_or points n p ≡ p = sym c.index-points-n.is in
    let did = treated start at (run_so_far c.loop-n.variables c.loop-n.run) (run_so_far c.treat_point.new.variables c.treat_point.new.run) (point p) (get_or before n None) (get_or now n None) c.requires.moved
    (read_at start (at - 1) n points p before None c.requires.before within here) (read_at start at n points p now None c.requires.now within here) c.in_ok-treat_point.ensures in
    treated_more start at n points p (run_so_far c.loop-n.variables c.loop-n.run) (run_so_far c.treat_point.new.variables c.treat_point.new.run) (treat_points start at (quiet_program c.args.variables.now) (map {A = Held} point points)) within here did c.loop-n.invariant
