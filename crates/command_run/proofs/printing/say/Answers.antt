use Rattle.std.proofs.Common.{refl}
use Rattle.command_run.specs.OutcomeLaws.{prints_all}
use Rattle.command_run.proofs.printing.say.Goals as goal

pub returns-in-Ok-clause-text : goal.returns-in-Ok-clause-text
returns-in-Ok-clause-text g c = prints_all _ _ _ _ _ refl c.in-Ok.ensures.ok
