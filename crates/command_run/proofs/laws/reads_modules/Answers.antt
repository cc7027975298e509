use Rattle.command_run.proofs.ReadModules.{modules_read}
use Rattle.command_run.proofs.laws.reads_modules.Goals as goal

pub returns : goal.returns
returns c = modules_read c.keeps_files.ensures c.module_is_spelled.ensures c.exact_fault.ensures
