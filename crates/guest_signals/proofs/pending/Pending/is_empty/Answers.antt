use Rattle.std.proofs.Common.{◌≡◌, ◌↔◌, ℕ, Bool, false, not, List, subst}
use Rattle.std.specs.Prelude.{IsTrue}
use Rattle.guest_signals.specs.Signals.{is_pending_in}
use Rattle.guest_signals.proofs.AnyOf.{none_any}
use Rattle.guest_signals.proofs.pending.Pending.is_empty.Goals as goal

pub returns : goal.returns
returns c =
    let inside = c.self.inside in
    subst (λ (now : List Bool). IsTrue (not inside.any) ↔ ((s : ℕ) → is_pending_in now s ≡ false)) c.self.view_is (none_any inside.signals inside.any c.self.invariant)
