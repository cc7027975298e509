use Rattle.std.proofs.Common.{[]}
use Rattle.command_run.proofs.CommandEnds.{nothing_begun}
use Rattle.command_run.proofs.printing.give_up.Goals as goal

pub returns-clause-ends : goal.returns-clause-ends
returns-clause-ends c = λ expected written o. nothing_begun expected written (λ folder. []) o
