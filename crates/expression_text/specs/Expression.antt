-- Expressions without where they lie in memory.
use Rattle.std.specs.Prelude.{ℕ, List}
use Rattle.expression_text.specs.declared.expr.Agg.{Agg}
use Rattle.expression_text.specs.declared.expr.Binary.{Binary}
use Rattle.expression_text.specs.declared.expr.Expr.{Expr}
use Rattle.expression_text.specs.declared.expr.Expr as expr
use Rattle.expression_text.specs.declared.expr.NodeName.{NodeName}
use Rattle.expression_text.specs.declared.expr.Unary.{Unary}
use Rattle.expression_text.specs.declared.expr.Width.{Width}

-- an expression
pub data Expression : Type 0 where
  Number : (n : ℕ) → Expression
  Var : (name : List ℕ) → Expression
  One : (op : Unary) → (x : Expression) → Expression
  Two : (op : Binary) → (x y : Expression) → Expression
  Over : (agg : Agg) → (x : Expression) → Expression
  Load : (name : NodeName) → (width : Width) → (x : Expression) → Expression
  Global : (name : NodeName) → (n : ℕ) → Expression
  Clock : (name : NodeName) → Expression
  Events : (name : NodeName) → Expression
  Size : (name : NodeName) → Expression
  LastThread : (name : NodeName) → Expression
  HasEnded : (name : NodeName) → Expression

-- the expression that the value in memory is
abbrev pub expression_of : Expr → Expression
expression_of (expr.Number n) = Number n
expression_of (expr.Var name) = Var name
expression_of (expr.One' op p x) = One op (expression_of x)
expression_of (expr.Two' op p x q y) = Two op (expression_of x) (expression_of y)
expression_of (expr.Over' agg p x) = Over agg (expression_of x)
expression_of (expr.Load' name width p x) = Load name width (expression_of x)
expression_of (expr.Global name n) = Global name n
expression_of (expr.Clock name) = Clock name
expression_of (expr.Events name) = Events name
expression_of (expr.Size name) = Size name
expression_of (expr.LastThread name) = LastThread name
expression_of (expr.HasEnded name) = HasEnded name
