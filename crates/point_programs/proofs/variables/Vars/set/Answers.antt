use Rattle.std.proofs.Common.{◌≡◌, ℕ, List, Option, ℤ, sym, ap, ◌∙◌}
use Rattle.std.specs.Global.{Vec}
use Rattle.indexmap.specs.IndexMap.{IndexMap}
use Rattle.point_programs.proofs.MapEntries.{inserted, written}
use Rattle.point_programs.specs.inside.Kept.{variables_of}
use Rattle.point_programs.specs.Variables.{Variable, with_value}
use Rattle.point_programs.proofs.variables.Vars.set.Goals as goal

pub returns-in-Some-clause-ok : goal.returns-in-Some-clause-ok
returns-in-Some-clause-ok c =
    ap variables_of (c.get_mut.follows.holds c.args.value).0
    ∙ written c.args.name.now c.args.value c.in-Some.kept.now c.self.inside.values.entries (sym c.in-Some.ensures.value)
    ∙ ap (λ (vs : List Variable). with_value vs c.args.name.now c.args.value) c.self.view_is

pub returns-clause-ok : goal.returns-clause-ok
returns-clause-ok c =
    let before : variables_of c.get_mut.follows.lender-at-none.entries ≡ c.args.self.now =
    ap (λ (m : IndexMap (Vec ℕ) (Option ℤ) _). variables_of m.entries) c.get_mut.follows.holds-at-none ∙ c.self.view_is in
    ap variables_of c.in_ok-insert.ensures.entries
    ∙ inserted c.in_ok-from_slice.field-0 c.args.value c.get_mut.follows.lender-at-none.entries
    ∙ ap (λ (name : List ℕ). with_value (variables_of c.get_mut.follows.lender-at-none.entries) name c.args.value) c.in_ok-from_slice.ensures.items
    ∙ ap (λ (vs : List Variable). with_value vs c.args.name.now c.args.value) before
