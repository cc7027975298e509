use Rattle.std.proofs.Common.{◌≡◌, ◌∙◌, ◌<◌, Option, ℕ, List, length, map, nat_eq, ap, subst, sym, rules, tests}
use Rattle.std.proofs.lemmas.Iterator.{YieldsList-from_slice}
use Rattle.std.proofs.lemmas.Iterator.Search.{position_from_yields_List}
use Rattle.std.specs.List.{position}
use Rattle.std.specs.Prelude.{IfSome}
use Rattle.shell_points.specs.Points.{Point, index_of_point}
use Rattle.shell_points.specs.inside.Meanings.{point}
use Rattle.shell_points.specs.declared.point.Point.{Point as Held}
use Rattle.shell_points.proofs.HeldPoints.{place_within, places_same}
use Rattle.shell_points.proofs.points.Points.index_of.Goals as goal

pub returns-clause-index : goal.returns-clause-index
returns-clause-index c =
    let held = c.deref.result.now in
    let n = c.args.number in
    let is : c.position.result ≡ position (λ (p : Held). nat_eq p.number n) held =
    position_from_yields_List (λ (p : Held). nat_eq p.number n) _ _ c.position.result c.position.ensures.ran (YieldsList-from_slice held cc) (λ x b q k. search (rules, tests)) in
    is ∙ places_same held n ∙ ap (λ (ps : List Held). index_of_point (map {A = Held} point ps) n) c.deref.ensures.value ∙ ap (λ (ps : List Point). index_of_point ps n) c.self.view_is

pub returns-clause-within : goal.returns-clause-within
returns-clause-within c = subst (λ (found : Option ℕ). IfSome found (λ place. place < length c.args.self.now)) (sym (returns-clause-index c)) (place_within c.args.self.now c.args.number)
