use Rattle.std.proofs.Common.{◌≡◌, List, OnOk, subst, arith}
use Rattle.std.proofs.lemmas.Grind.{common_steps}
use Rattle.point_programs.proofs.MentionOrder.{mention_all_append}
use Rattle.point_programs.proofs.Choices.{mentions_both}
use Rattle.point_programs.specs.Variables.{Variable}
use Rattle.point_programs.proofs.variables.+mention.Goals as goal

pub mention_statement-returns-in_ok-mention_statements-in-If-clause-ok : goal.mention_statement-returns-in_ok-mention_statements-in-If-clause-ok
mention_statement-returns-in_ok-mention_statements-in-If-clause-ok t c =
    subst (λ (vs : List Variable). OnOk c.mention_statements-in-If.result (c.mention_statements-in-If.new.vars ≡ vs))
    (mentions_both c.args.stmt.now c.in-If.field-0 c.in-If.on_true c.in-If.on_false c.in-If.is c.args.vars.now c.mention_statements.new.vars c.deref.result.now c.deref-in-If.result.now c.deref.ensures.value c.deref-in-If.ensures.value c.in_ok-mention_statements-in-If.ensures.ok)
    c.mention_statements-in-If.ensures.ok

pub mention_statements-loop-stmt-preserved : goal.mention_statements-loop-stmt-preserved
mention_statements-loop-stmt-preserved t c = grind (arith, common_steps, mention_all_append)
