use Rattle.std.proofs.Common.{List, ap, ◌∙◌}
use Rattle.point_programs.specs.declared.program.Stmt.{Stmt}
use Rattle.point_programs.specs.Running.{has_stop}
use Rattle.point_programs.specs.Tree.{statements}
use Rattle.point_programs.proofs.ChoiceFaults.{stops_if}
use Rattle.point_programs.proofs.stops.+stops.Goals as goal

pub stops_at-returns-in-If : goal.stops_at-returns-in-If
stops_at-returns-in-If t c =
    let inside = λ (list : List Stmt). has_stop (statements list) in
    stops_if c.args.stmt.now _ c.in-If.on_true c.in-If.on_false _ _ _ c.in-If.is c.either.ensures
    (c.stops_in.ensures ∙ ap inside c.deref.ensures.value) (c.stops_in-in-If.ensures ∙ ap inside c.deref-in-If.ensures.value)
