use Rattle.std.proofs.Common.{List, ap, ◌∙◌}
use Rattle.point_programs.specs.declared.faults.ProgramFaults.{ProgramFaults}
use Rattle.point_programs.specs.declared.program.Stmt.{Stmt}
use Rattle.point_programs.specs.Faulty.{lacks_names, nests_aggregates}
use Rattle.point_programs.specs.Tree.{statements}
use Rattle.point_programs.proofs.ChoiceFaults.{lacks_if, nests_if}
use Rattle.point_programs.proofs.faults.+faults.Goals as goal

pub faults_of_one-returns-in-If-clause-nested : goal.faults_of_one-returns-in-If-clause-nested
faults_of_one-returns-in-If-clause-nested t c =
    let nested = λ (f : ProgramFaults). f.nested in
    let inside = λ (list : List Stmt). nests_aggregates (statements list) in
    nests_if c.args.stmt.now c.in-If.x c.in-If.on_true c.in-If.on_false _ _ _ _ _ c.in-If.is (ap nested c.or.ensures) (ap nested c.faults_of_value-in-If.ensures) (ap nested c.or-inside.ensures)
    (c.faults_of_all.ensures.nested ∙ ap inside c.deref-in-If.ensures.value) (c.faults_of_all-in-If.ensures.nested ∙ ap inside c.deref-in-If-2.ensures.value)

pub faults_of_one-returns-in-If-clause-no_node : goal.faults_of_one-returns-in-If-clause-no_node
faults_of_one-returns-in-If-clause-no_node t c =
    let no_node = λ (f : ProgramFaults). f.no_node in
    let inside = λ (list : List Stmt). lacks_names (statements list) in
    lacks_if c.args.stmt.now c.in-If.x c.in-If.on_true c.in-If.on_false _ _ _ _ _ c.in-If.is (ap no_node c.or.ensures) (ap no_node c.faults_of_value-in-If.ensures) (ap no_node c.or-inside.ensures)
    (c.faults_of_all.ensures.no_node ∙ ap inside c.deref-in-If.ensures.value) (c.faults_of_all-in-If.ensures.no_node ∙ ap inside c.deref-in-If-2.ensures.value)
