use Rattle.std.proofs.Common.{◌≡◌, ◌∙◌, List, ap, map, nat_eq, rules, tests}
use Rattle.std.specs.List.{list_any}
use Rattle.std.proofs.lemmas.Iterator.{YieldsList-from_slice}
use Rattle.std.proofs.lemmas.Iterator.Search.{any_from_yields_List}
use Rattle.shell_points.specs.declared.point.Point.{Point as Held}
use Rattle.shell_points.specs.inside.Meanings.{point}
use Rattle.shell_points.specs.Points.{Point, has_point}
use Rattle.shell_points.proofs.HeldPoints.{held_same}
use Rattle.shell_points.proofs.points.Points.is_held.Goals as goal

pub returns : goal.returns
returns c =
    let held = c.deref.result.now in
    let n = c.args.number in
    let is : c.any.result ≡ list_any (λ (p : Held). nat_eq p.number n) held =
    any_from_yields_List (λ (p : Held). nat_eq p.number n) _ _ c.any.result c.any.ensures.ran (YieldsList-from_slice held cc) (λ x b q k. search (rules, tests)) in
    is ∙ held_same held n ∙ ap (λ (ps : List Held). has_point (map {A = Held} point ps) n) c.deref.ensures.value ∙ ap (λ (ps : List Point). has_point ps n) c.self.view_is
