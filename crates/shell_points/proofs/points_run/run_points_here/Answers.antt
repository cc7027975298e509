use Rattle.std.proofs.Common.{◌≡◌, ◌-◌, false, map, sym, ◌∙◌}
use Rattle.shell_points.specs.declared.point.Point.{Point as Held}
use Rattle.shell_points.specs.Firing.{has_due_point}
use Rattle.shell_points.specs.inside.Reading.{point_readings}
use Rattle.shell_points.specs.inside.Meanings.{point}
use Rattle.shell_points.specs.Walking.{quiet_program}
use Rattle.shell_points.proofs.PointReads.{nothing_done, where_none}
use Rattle.shell_points.proofs.points_run.run_points_here.Goals as goal

pub returns-in-None : goal.returns-in-None
returns-in-None c =
    let start = c.args.group.now.start in
    let at = c.args.group.now.at in
    let ps = map {A = Held} point c.args.points.now in
    let none : has_due_point start ps at ≡ false = where_none c.args.before (has_due_point start ps at ≡ false) (λ before. before.items ≡ point_readings start (at - 1) ps) c.in-None.is c.requires.before in
    (λ i. record { variables = c.args.variables.now; text = c.new-text.ensures i; stopped = false }) ∙ sym (nothing_done start at ps (quiet_program c.args.variables.now) none)
