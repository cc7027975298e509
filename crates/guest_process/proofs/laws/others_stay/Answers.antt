use Rattle.guest_process.proofs.CrewLemmas.{others_kept, spawn_adds}
use Rattle.guest_process.proofs.laws.others_stay.Goals as goal

pub returns-clause-stay : goal.returns-clause-stay
returns-clause-stay c = others_kept c.never_stuck.ensures.same_module

pub returns-clause-made : goal.returns-clause-made
returns-clause-made c = spawn_adds c.never_stuck.ensures.same_module
