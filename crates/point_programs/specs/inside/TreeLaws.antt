-- The bridge from a statement that the program makes to the tree that contracts see.
use Rattle.std.proofs.Common.{◌≡◌, refl, ap, ◌∙◌}
use Rattle.std.specs.Global.{Vec}
use Rattle.expression_text.specs.declared.expr.Expr.{Expr}
use Rattle.expression_text.specs.Expression.{expression_of}
use Rattle.point_programs.specs.declared.program.Stmt.{Stmt, Row_of-Stmt, end_of-Stmt, more_of-Stmt, items-the_row-Stmt, items_hidden-the_row-Stmt-0}
use Rattle.point_programs.specs.declared.program.Stmt.TheBlock.{hidden-the_row-Stmt-0}
use Rattle.point_programs.specs.declared.program.Stmt.TheVariants as stmt
use Rattle.point_programs.specs.Tree.{Statements, If, Then, statement_of, statements, statements_of_row}

-- a row's statements are those of its list
statements_of_row_is : (m : _) (row : Row_of-Stmt m) → statements_of_row row ≡ statements (items-the_row-Stmt m row)
statements_of_row_is m end_of-Stmt = refl
statements_of_row_is m (more_of-Stmt first rest) = ap (Then (statement_of first)) (statements_of_row_is _ rest)

-- the statements of a vector inside a statement are those of its list
pub statements_of_vec : (v : Vec Stmt) → statements_of_row (hidden-the_row-Stmt-0 v) ≡ statements v.items
statements_of_vec v = statements_of_row_is _ (hidden-the_row-Stmt-0 v) ∙ ap statements (items_hidden-the_row-Stmt-0 v)

-- the statement that a choice is
pub statement_of-if : (x : Expr) (on_true on_false : Vec Stmt)
    → statement_of (stmt.If x on_true on_false) ≡ If (expression_of x) (statements on_true.items) (statements on_false.items)
statement_of-if x on_true on_false =
    ap (λ (s : Statements). If (expression_of x) s (statements_of_row (hidden-the_row-Stmt-0 on_false))) (statements_of_vec on_true)
    ∙ ap (If (expression_of x) (statements on_true.items)) (statements_of_vec on_false)
