use Rattle.std.proofs.Common.{sym}
use Rattle.friday_shell.specs.Answer.{variable_text}
use Rattle.friday_shell.proofs.ListLines.{listed_more}
use Rattle.friday_shell.proofs.variables.list_variables.Goals as goal

pub loop-n-preserved : goal.loop-n-preserved
loop-n-preserved c =
    listed_more variable_text c.args.variables.now c.loop-n.n (c.in-Some.name.now, c.in-Some.value) c.loop-n.text c.push_variable.new.text (sym c.in-Some.ensures) c.loop-n.invariant c.in_ok-push_variable.ensures
