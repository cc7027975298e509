-- What may be wrong with a choice.
use Rattle.std.proofs.Common.{◌≡◌, ◌||◌, Bool, false, ap, ◌∙◌, sym}
use Rattle.std.specs.Global.{Vec}
use Rattle.expression_text.specs.declared.expr.Expr.{Expr}
use Rattle.expression_text.specs.Faulty.{is_nested, lacks_node}
use Rattle.expression_text.specs.Expression.{expression_of}
use Rattle.point_programs.specs.declared.program.Stmt.{Stmt}
use Rattle.point_programs.specs.declared.program.Stmt.TheVariants as stmt
use Rattle.point_programs.specs.Running.{has_stop, has_stop_in}
use Rattle.point_programs.specs.Faulty.{lacks_names, lacks_one, nests_aggregates, nests_one}
use Rattle.point_programs.specs.Tree.{statement_of, statements}
use Rattle.point_programs.specs.inside.TreeLaws.{statement_of-if}

-- an aggregate is in an aggregate, in the value or inside
pub nests_if : (s : Stmt) (x : Expr) (on_true on_false : Vec Stmt) (all value inside first second : Bool) → s ≡ stmt.If x on_true on_false → all ≡ (value || inside) → value ≡ is_nested (expression_of x) → inside ≡ (first || second) → first ≡ nests_aggregates (statements on_true.items) → second ≡ nests_aggregates (statements on_false.items) → all ≡ nests_one (statement_of s)
nests_if s x on_true on_false all value inside first second is a v i f g =
    a ∙ rw (v, i, f, g) (sym (ap (λ (s : Stmt). nests_one (statement_of s)) is ∙ ap nests_one (statement_of-if x on_true on_false)))

-- a name is that of no node, in the value or inside
pub lacks_if : (s : Stmt) (x : Expr) (on_true on_false : Vec Stmt) (all value inside first second : Bool) → s ≡ stmt.If x on_true on_false → all ≡ (value || inside) → value ≡ lacks_node false (expression_of x) → inside ≡ (first || second) → first ≡ lacks_names (statements on_true.items) → second ≡ lacks_names (statements on_false.items) → all ≡ lacks_one (statement_of s)
lacks_if s x on_true on_false all value inside first second is a v i f g =
    a ∙ rw (v, i, f, g) (sym (ap (λ (s : Stmt). lacks_one (statement_of s)) is ∙ ap lacks_one (statement_of-if x on_true on_false)))

-- a `stop` is in the first or in the second
pub stops_if : (s : Stmt) (x : Expr) (on_true on_false : Vec Stmt) (all first second : Bool) → s ≡ stmt.If x on_true on_false → all ≡ (first || second) → first ≡ has_stop (statements on_true.items) → second ≡ has_stop (statements on_false.items) → all ≡ has_stop_in (statement_of s)
stops_if s x on_true on_false all first second is a f g =
    a ∙ rw (f, g) (sym (ap (λ (s : Stmt). has_stop_in (statement_of s)) is ∙ ap has_stop_in (statement_of-if x on_true on_false)))
