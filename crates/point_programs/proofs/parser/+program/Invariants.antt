use Rattle.std.proofs.Common.{◌≤◌, ◌+◌, ◌-◌, ◌*◌, codes, drop, length, map}
use Rattle.expression_text.specs.Lexing.{token_texts}
use Rattle.point_programs.specs.Reading.{program_in, statement}
use Rattle.point_programs.specs.Tree.{statement_of}
use Rattle.point_programs.proofs.ReadSeparated.{Reached}
use Rattle.point_programs.proofs.parser.+program.Given as goal

abbrev pub decreases-read_program : goal.decreases-read_program
decreases-read_program l = 7 * l.levels

abbrev pub decreases-read_part : goal.decreases-read_part
decreases-read_part l = 7 * l.levels + 1

abbrev pub decreases-read_else : goal.decreases-read_else
decreases-read_else l = 7 * l.levels + 2

abbrev pub decreases-read_if : goal.decreases-read_if
decreases-read_if l = 7 * l.levels + 3

abbrev pub decreases-read_statement_by : goal.decreases-read_statement_by
decreases-read_statement_by l = 7 * l.levels + 4

abbrev pub decreases-read_statement : goal.decreases-read_statement
decreases-read_statement l = 7 * l.levels + 5

abbrev pub decreases-read_statements : goal.decreases-read_statements
decreases-read_statements l = 7 * l.levels + 6

abbrev pub invariant-read_statements-loop-stmts : goal.invariant-read_statements-loop-stmts
invariant-read_statements-loop-stmts l = record {
  reached : Reached (codes ";") (statement (program_in l.levels l.names) l.names) (drop l.from (token_texts l.tokens)) (map statement_of l.stmts.items) (drop l.at (token_texts l.tokens));
  onward : l.from ≤ l.at;
}

abbrev pub decreases-read_statements-loop-stmts : goal.decreases-read_statements-loop-stmts
decreases-read_statements-loop-stmts l = length (token_texts l.tokens) - l.at
