use Rattle.std.proofs.Common.{◌≤◌, ◌-◌, codes, drop, length, map}
use Rattle.expression_text.specs.Lexing.{token_texts}
use Rattle.point_programs.specs.Reading.{item}
use Rattle.point_programs.specs.Tree.{item_of}
use Rattle.point_programs.proofs.ReadSeparated.{Reached}
use Rattle.point_programs.proofs.parser.read_items.Given as goal

abbrev pub invariant-loop-items : goal.invariant-loop-items
invariant-loop-items l = record {
  reached : Reached (codes ",") (item l.names) (drop l.from (token_texts l.tokens)) (map item_of l.items.items) (drop l.at (token_texts l.tokens));
  onward : l.from ≤ l.at;
}

abbrev pub decreases-loop-items : goal.decreases-loop-items
decreases-loop-items l = length (token_texts l.tokens) - l.at
