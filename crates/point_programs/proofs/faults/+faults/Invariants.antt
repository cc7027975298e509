use Rattle.std.proofs.Common.{◌≡◌, ◌||◌, drop}
use Rattle.point_programs.specs.Faulty.{lacks_names, nests_aggregates}
use Rattle.point_programs.specs.Tree.{statements}
use Rattle.point_programs.proofs.faults.+faults.Given as goal

abbrev pub invariant-faults_of_all-loop-stmt : goal.invariant-faults_of_all-loop-stmt
invariant-faults_of_all-loop-stmt l = record {
  nested : (l.faults.nested || nests_aggregates (statements (drop l.stmt-index l.stmts))) ≡ nests_aggregates (statements l.stmts);
  no_node : (l.faults.no_node || lacks_names (statements (drop l.stmt-index l.stmts))) ≡ lacks_names (statements l.stmts);
}
