-- What a watch is.
use Rattle.std.specs.Prelude.{◌≡◌, List, Option, ℤ}
use Rattle.expression_text.specs.Expression.{Expression}
use Rattle.watch_expr.specs.Parts.{Part, parts_of, places_of_parts}
use Rattle.watch_expr.specs.Reads.{AreMemories, no_variables, reads_of_expression}
use Rattle.watch_expr.specs.Value.{value}
use Rattle.watch_expr.specs.View.{Node}

-- an expression, with a value and its parts
pub record Watched : Type 0 where
  pub expression : Expression
  pub value : Option ℤ
  pub parts : List Part

-- the value, the parts and what these are read from are those of the expression in this state, which is one of memories
pub record WatchStands (watch : Watched) (nodes : List Node) : Type 0 where
  pub value : watch.value ≡ value nodes no_variables watch.expression
  pub parts : watch.parts ≡ parts_of nodes watch.expression
  pub places : places_of_parts watch.parts ≡ reads_of_expression nodes watch.expression
  pub sound : AreMemories nodes
