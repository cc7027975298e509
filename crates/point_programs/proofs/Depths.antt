-- How deep statements nest.
use Rattle.std.proofs.Common.{◌≡◌, ◌+◌, ◌*◌, ◌<◌, List, max, arith, ap}
use Rattle.std.specs.Global.{Vec}
use denote.Param.Weighed.{most}
use Rattle.expression_text.specs.declared.expr.Expr.{Expr}
use Rattle.point_programs.proofs.program.Stmt.TheLaws.{the_size}
use Rattle.point_programs.specs.declared.program.Stmt.{Stmt}
use Rattle.point_programs.specs.declared.program.Stmt.TheVariants as stmt
use Rattle.point_programs.specs.declared.program.Stmt.TheViews.{sized-If}

-- a choice nests deeper than the statements of its first part
pub first_deep : (s : Stmt) (x : Expr) (a b : Vec Stmt) (xs : List Stmt) → s ≡ stmt.If x a b → xs ≡ a.items → 2 * most the_size xs + 1 < 2 * the_size s
first_deep s x a b xs is same =
    let e : the_size (stmt.If x a b) ≡ max 0 (max (most the_size a.items) (max (most the_size b.items) 0)) + 1 = sized-If x a b in
    omega (arith, ap the_size is, ap (most the_size) same)

-- and of its second part
pub second_deep : (s : Stmt) (x : Expr) (a b : Vec Stmt) (xs : List Stmt) → s ≡ stmt.If x a b → xs ≡ b.items → 2 * most the_size xs + 1 < 2 * the_size s
second_deep s x a b xs is same =
    let e : the_size (stmt.If x a b) ≡ max 0 (max (most the_size a.items) (max (most the_size b.items) 0)) + 1 = sized-If x a b in
    omega (arith, ap the_size is, ap (most the_size) same)
