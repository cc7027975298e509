-- A choice runs one of its parts, and sets what both set.
use Rattle.std.proofs.Common.{◌≡◌, List, Bool, true, false, cond, ap, sym, ◌∙◌}
use Rattle.std.specs.Global.{Vec}
use Rattle.expression_text.specs.Expression.{expression_of}
use Rattle.expression_text.specs.declared.expr.Expr.{Expr}
use Rattle.point_programs.proofs.MentionOrder.{mention_all_append}
use Rattle.point_programs.specs.Faulty.{set_by_statement, set_names}
use Rattle.point_programs.specs.Running.{ProgramSetting, ProgramState, after_statement, after_statements, is_nonzero, value_over}
use Rattle.point_programs.specs.Tree.{If, Statement, statement_of, statements}
use Rattle.point_programs.specs.inside.TreeLaws.{statement_of-if}
use Rattle.point_programs.specs.Variables.{Variable, mention_all}
use Rattle.point_programs.specs.declared.program.Stmt.{Stmt}
use Rattle.point_programs.specs.declared.program.Stmt.TheVariants as stmt

module _ (s : Stmt) (x : Expr) (a b : Vec Stmt) (is : s ≡ stmt.If x a b) where
  choice_is : statement_of s ≡ If (expression_of x) (statements a.items) (statements b.items)
  choice_is = ap statement_of is ∙ statement_of-if x a b

  module _ (here : ProgramSetting) (r : ProgramState) where
    chosen : (which : Bool) → is_nonzero (value_over here r.variables (expression_of x)) ≡ which → after_statement here r (statement_of s) ≡ cond which (after_statements here r (statements a.items)) (after_statements here r (statements b.items))
    chosen which test =
        ap (after_statement here r) choice_is
        ∙ ap (λ (w : Bool). cond w (after_statements here r (statements a.items)) (after_statements here r (statements b.items))) test

    -- the first is run where the value holds
    pub runs_first : (xs : List Stmt) → xs ≡ a.items → is_nonzero (value_over here r.variables (expression_of x)) ≡ true → after_statements here r (statements xs) ≡ after_statement here r (statement_of s)
    runs_first xs same test = ap (λ (ys : List Stmt). after_statements here r (statements ys)) same ∙ sym (chosen true test)

    -- and the second where it doesn't
    pub runs_second : (xs : List Stmt) → xs ≡ b.items → is_nonzero (value_over here r.variables (expression_of x)) ≡ false → after_statements here r (statements xs) ≡ after_statement here r (statement_of s)
    runs_second xs same test = ap (λ (ys : List Stmt). after_statements here r (statements ys)) same ∙ sym (chosen false test)

  -- what both parts set is mentioned, the first part's in front
  pub mentions_both : (vs between : List Variable) (xs ys : List Stmt) → xs ≡ a.items → ys ≡ b.items → between ≡ mention_all vs (set_names (statements xs)) → mention_all between (set_names (statements ys)) ≡ mention_all vs (set_by_statement (statement_of s))
  mentions_both vs between xs ys first second first_done =
      ap (λ (zs : List Stmt). mention_all between (set_names (statements zs))) second
      ∙ ap (λ (us : List Variable). mention_all us (set_names (statements b.items))) (first_done ∙ ap (λ (zs : List Stmt). mention_all vs (set_names (statements zs))) first)
      ∙ sym (mention_all_append vs (set_names (statements a.items)) (set_names (statements b.items)))
      ∙ sym (ap (λ (t : Statement). mention_all vs (set_by_statement t)) choice_is)
