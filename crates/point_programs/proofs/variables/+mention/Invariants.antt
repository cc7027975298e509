use Rattle.std.proofs.Common.{◌≡◌, drop, length, take}
use Rattle.point_programs.specs.Faulty.{set_names}
use Rattle.point_programs.specs.Tree.{statements}
use Rattle.point_programs.specs.Variables.{mention_all}
use Rattle.point_programs.proofs.variables.+mention.Given as goal

abbrev pub invariant-mention_statements-loop-stmt : goal.invariant-mention_statements-loop-stmt
invariant-mention_statements-loop-stmt l = record {
  whole : mention_all l.vars (set_names (statements (drop l.stmt-index l.stmts))) ≡ mention_all l.initial.vars (set_names (statements l.stmts));
  front : take (length l.initial.vars) l.vars ≡ l.initial.vars;
}
