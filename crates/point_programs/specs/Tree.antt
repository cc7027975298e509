-- Programs as contracts see them: trees, with lists where the program has vectors.
use Rattle.std.specs.Prelude.{ℕ, List, [], ◌∷◌, map}
use Rattle.expression_text.specs.Expression.{Expression, expression_of}
use Rattle.point_programs.specs.declared.program.Program.{Program}
use Rattle.point_programs.specs.declared.program.SayItem.{SayItem}
use Rattle.point_programs.specs.declared.program.SayItem.TheVariants as said
use Rattle.point_programs.specs.declared.program.Stmt.{Stmt, Row_of-Stmt, end_of-Stmt, more_of-Stmt}
use Rattle.point_programs.specs.declared.program.Stmt as stmt

-- what a line says: the bytes of a string, a value, or the name of the node of the position's event
pub data SaidItem : Type 0 where
  Words : (bytes : List ℕ) → SaidItem
  Value : (x : Expression) → SaidItem
  NodeOfEvent : SaidItem

mutual
  -- a statement with those inside it
  pub data Statement : Type 0 where
    Set : (name : List ℕ) → (x : Expression) → Statement
    Say : (items : List SaidItem) → Statement
    Stop : Statement
    If : (x : Expression) → (on_true on_false : Statements) → Statement

  -- statements, one after the other
  pub data Statements : Type 0 where
    End : Statements
    Then : (first : Statement) → (rest : Statements) → Statements

-- statements of a list
abbrev pub sequence : List Statement → Statements
sequence [] = End
sequence (first ∷ rest) = Then first (sequence rest)

abbrev pub item_of : SayItem → SaidItem
item_of (said.Words bytes) = Words bytes
item_of (said.Value x) = Value (expression_of x)
item_of said.OfEvent = NodeOfEvent

abbrev mutual
  -- the statement that the value in memory is
  pub statement_of : Stmt → Statement
  statement_of (stmt.Set name x) = Set name (expression_of x)
  statement_of (stmt.Say items) = Say (map {A = SayItem} item_of items.items)
  statement_of stmt.Stop = Stop
  statement_of (stmt.If' x n on_true m on_false) = If (expression_of x) (statements_of_row on_true) (statements_of_row on_false)

  -- the statements of the elements of a vector inside a statement
  pub statements_of_row : {m : _} → Row_of-Stmt m → Statements
  statements_of_row end_of-Stmt = End
  statements_of_row (more_of-Stmt first rest) = Then (statement_of first) (statements_of_row rest)

-- the statements of a list
abbrev pub statements : List Stmt → Statements
statements [] = End
statements (first ∷ rest) = Then (statement_of first) (statements rest)

-- the statements of a program
abbrev pub program_body : Program → Statements
program_body p = statements p.stmts.items
