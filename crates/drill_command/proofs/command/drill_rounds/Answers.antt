use Rattle.drill_command.proofs.DrillOutcome.{done_performs, stops_perform}
use Rattle.drill_command.proofs.command.drill_rounds.Goals as goal

pub perform-requires-clause-some : goal.perform-requires-clause-some
perform-requires-clause-some c = c.requires.some

pub perform-requires-clause-few : goal.perform-requires-clause-few
perform-requires-clause-few c = c.requires.few

pub returns-in_err-perform : goal.returns-in_err-perform
returns-in_err-perform c = stops_perform c.args.rounds c.from_residual.result c.from_residual.ensures.1

pub returns : goal.returns
returns c = done_performs c.args.rounds c.in_ok-perform.field-0 c.in_ok-perform.ensures
