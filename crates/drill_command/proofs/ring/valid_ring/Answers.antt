use Rattle.drill_command.proofs.RingIsValid.{is_valid}
use Rattle.drill_command.proofs.ring.valid_ring.Goals as goal

pub claim-requires : goal.claim-requires
claim-requires c = is_valid c.exact_fault.ensures c.in_ok-ring_module.field-0 c.in_ok-ring_module.ensures
