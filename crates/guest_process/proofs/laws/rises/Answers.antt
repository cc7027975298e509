use Rattle.guest_process.proofs.KeptFits.{clock_rises}
use Rattle.guest_process.proofs.laws.rises.Goals as goal

pub returns : goal.returns
returns c = clock_rises c.never_stuck.ensures.same_module
