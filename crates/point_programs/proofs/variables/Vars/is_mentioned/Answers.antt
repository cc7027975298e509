use Rattle.std.proofs.Common.{List, ap, ◌∙◌}
use Rattle.point_programs.proofs.MapEntries.{found_mentioned}
use Rattle.point_programs.specs.Variables.{Variable, is_mentioned}
use Rattle.point_programs.proofs.variables.Vars.is_mentioned.Goals as goal

pub returns : goal.returns
returns c =
    c.contains_key.ensures
    ∙ found_mentioned c.args.name.now c.self.inside.values.entries
    ∙ ap (λ (vs : List Variable). is_mentioned vs c.args.name.now) c.self.view_is
