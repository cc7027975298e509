use Rattle.std.proofs.Common.{◌≡◌, false, drop}
use Rattle.point_programs.specs.Running.{after_statements, program_setting}
use Rattle.point_programs.specs.Tree.{statements}
use Rattle.point_programs.proofs.run.+run.Given as goal

abbrev pub invariant-run_all-loop-stmt : goal.invariant-run_all-loop-stmt
invariant-run_all-loop-stmt g l =
    after_statements (program_setting (g.V.View.nodes l.v) l.by.node l.by.name.now) (record { variables = l.vars; text = l.out; stopped = false }) (statements (drop l.stmt-index l.stmts))
    ≡ after_statements (program_setting (g.V.View.nodes l.v) l.by.node l.by.name.now) (record { variables = l.initial.vars; text = l.initial.out; stopped = false }) (statements l.stmts)
