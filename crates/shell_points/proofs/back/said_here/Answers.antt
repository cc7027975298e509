use Rattle.std.proofs.Common.{◌≡◌, ◌<◌, ◌-◌, None, length, get_or, map, sym, arith}
use Rattle.shell_points.specs.declared.point.Point.{Point as Held}
use Rattle.shell_points.specs.Firing.{firing_lines}
use Rattle.shell_points.specs.inside.Meanings.{point}
use Rattle.shell_points.specs.Returning.{has_stopping_point}
use Rattle.shell_points.proofs.LastFiring.{said_more, stopping_more}
use Rattle.shell_points.proofs.PointWalks.{read_at, said, stopping}
use Rattle.shell_points.proofs.back.said_here.Goals as goal

pub loop-n-preserved : goal.loop-n-preserved
loop-n-preserved c =
    let start = c.args.group.now.start in
    let at = c.args.group.now.at in
    let points = c.args.points.now in
    let n = c.loop-n.n in
    let p = c.index-points-n.result in
    let within : n < length points = omega (arith, c.loop-n-test.true) in
    let here : get_or points n p ≡ p = sym c.index-points-n.is in
    let was = read_at start (at - 1) n points p c.args.before.now None c.requires.before within here in
    let is = read_at start at n points p c.args.now.now None c.requires.now within here in
    let before = get_or c.args.before.now n None in
    let now = get_or c.args.now.now n None in
    record {
      text = said_more start at n points p c.loop-n.said.text c.push_said.new.said.text (firing_lines start (map {A = Held} point points) at) _ within here c.in_ok-push_said.ensures.text
          (said start at (point p) before now c.requires.moved was is) c.loop-n.invariant.text;
      stops = stopping_more start at n points p c.loop-n.said.stops c.push_said.new.said.stops (has_stopping_point start (map {A = Held} point points) at) _ within here c.in_ok-push_said.ensures.stops
          (stopping start at (point p) before now c.requires.moved was is) c.loop-n.invariant.stops;
    }
