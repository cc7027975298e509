use Rattle.std.proofs.Common.{◌≡◌, true, take}
use Rattle.guest_process.specs.GoesOn.{all_over}
use Rattle.guest_process.proofs.body.is_all_over.Given as goal

abbrev pub invariant-loop-t : goal.invariant-loop-t
invariant-loop-t l = all_over (take l.t l.crew.threads) ≡ true
