use Rattle.std.proofs.Common.{◌≡◌, ◌-◌, false, map, sym, ◌∙◌}
use Rattle.shell_points.specs.declared.point.Point.{Point as Held}
use Rattle.shell_points.specs.Firing.{has_due_point}
use Rattle.shell_points.specs.inside.Reading.{point_readings}
use Rattle.shell_points.specs.inside.Meanings.{point}
use Rattle.shell_points.proofs.LastFiring.{nothing_said, nothing_stops}
use Rattle.shell_points.proofs.PointReads.{where_none}
use Rattle.shell_points.proofs.back.said_now.Goals as goal

pub returns-in-None : goal.returns-in-None
returns-in-None c =
    let start = c.args.group.now.start in
    let at = c.args.group.now.at in
    let ps = map {A = Held} point c.args.points.now in
    let none : has_due_point start ps at ≡ false = where_none c.args.before (has_due_point start ps at ≡ false) (λ before. before.items ≡ point_readings start (at - 1) ps) c.in-None.is c.requires.before in
    record {
      text_is = c.nothing_said.ensures.text ∙ sym (nothing_said start at ps none);
      stops_is = c.nothing_said.ensures.stops ∙ sym (nothing_stops start at ps none);
    }
