use Rattle.std.proofs.Common.{◌≡◌, ◌↔◌, ℕ, false, subst}
use Rattle.std.specs.Prelude.{IsTrue}
use Rattle.guest_signals.specs.Signals.{is_pending_in}
use Rattle.group_world.specs.World.{Surroundings}
use Rattle.group_world.proofs.surroundings.Surroundings.has_no_signal.Goals as goal

pub returns : goal.returns
returns c = subst (λ (around : Surroundings). IsTrue c.is_empty.result ↔ ((s : ℕ) → is_pending_in around.pending s ≡ false)) c.self.view_is c.is_empty.ensures
