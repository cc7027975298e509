use Rattle.guest_process.proofs.CrewLemmas.{locks_kept}
use Rattle.guest_process.proofs.laws.lock_kept.Goals as goal

pub returns : goal.returns
returns c = locks_kept c.never_stuck.ensures.same_module
