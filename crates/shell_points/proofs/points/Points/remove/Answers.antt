use Rattle.std.proofs.Common.{◌≡◌, ◌∙◌, List, filter, map, nat_eq, not, ap, rules}
use Rattle.std.proofs.lemmas.Fn.{filter_same}
use Rattle.shell_points.specs.declared.point.Point.{Point as Held}
use Rattle.shell_points.specs.inside.Meanings.{point}
use Rattle.shell_points.specs.Points.{Point, without_point}
use Rattle.shell_points.proofs.HeldPoints.{without_same}
use Rattle.shell_points.proofs.points.Points.remove.Goals as goal

pub returns : goal.returns
returns c =
    let held = c.self.inside.held.items in
    let n = c.args.number in
    let is : c.retain.new.self.items ≡ filter (λ (p : Held). not (nat_eq p.number n)) held = filter_same _ _ _ (λ x b f' k. search rules) _ _ c.retain.ensures.filtered in
    ap (λ (ps : List Held). map {A = Held} point ps) is ∙ without_same held n ∙ ap (λ (ps : List Point). without_point ps n) c.self.view_is
