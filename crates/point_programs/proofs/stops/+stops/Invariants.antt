use Rattle.std.proofs.Common.{◌≡◌, ◌||◌, drop}
use Rattle.point_programs.specs.Running.{has_stop}
use Rattle.point_programs.specs.Tree.{statements}
use Rattle.point_programs.proofs.stops.+stops.Given as goal

abbrev pub invariant-stops_in-loop-stmt : goal.invariant-stops_in-loop-stmt
invariant-stops_in-loop-stmt l = (l.found || has_stop (statements (drop l.stmt-index l.stmts))) ≡ has_stop (statements l.stmts)
