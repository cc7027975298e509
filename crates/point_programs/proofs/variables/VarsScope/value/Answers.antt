use Rattle.std.proofs.Common.{List, ap, ◌∙◌}
use Rattle.std.specs.Option.{option_flatten}
use Rattle.point_programs.proofs.MapEntries.{found_value}
use Rattle.point_programs.specs.Variables.{Variable, variable_value}
use Rattle.point_programs.proofs.variables.VarsScope.value.Goals as goal

pub returns-in_err-get : goal.returns-in_err-get
returns-in_err-get c =
    c.from_residual.ensures
    ∙ ap option_flatten c.in_err-get.ensures.value
    ∙ found_value c.args.name.now c.self.inside.values.entries
    ∙ ap (λ (vs : List Variable). variable_value vs c.args.name.now) c.self.view_is

pub returns : goal.returns
returns c =
    ap option_flatten c.in_ok-get.ensures.value
    ∙ found_value c.args.name.now c.self.inside.values.entries
    ∙ ap (λ (vs : List Variable). variable_value vs c.args.name.now) c.self.view_is
