use Rattle.command_run.proofs.CommandEnds.{finishes}
use Rattle.command_run.proofs.printing.finish.Goals as goal

pub returns : goal.returns
returns g c = λ expected old new performed.
    finishes expected.outcome expected.written expected.inputs expected.may_diverge c.args.ended c.print_end.result _ _ performed c.print_end.ensures.ends c.print_end.ensures.heard
