use Rattle.std.proofs.Common.{◌≡◌, ◌↔◌, ℕ, ◌<◌, Bool, false, length, get_or, subst, rules}
use Rattle.std.specs.Prelude.{IsTrue}
use Rattle.std.proofs.lemmas.List.{get_or_read}
use Rattle.guest_signals.specs.Signals.{is_pending_in}
use Rattle.group_world.specs.World.{Surroundings, World, has_pending, no_surroundings}
use Rattle.group_world.proofs.world.World.has_no_signal.Goals as goal

-- what is said of the place of a process is said of the process
quiet_at : (inside w : World) (p : ℕ) (place : Surroundings) (quiet : Bool) → inside ≡ w → p < length inside.surroundings → place ≡ get_or inside.surroundings p place
    → IsTrue quiet ↔ ((s : ℕ) → is_pending_in place.pending s ≡ false) → IsTrue quiet ↔ ((s : ℕ) → has_pending w p s ≡ false)
quiet_at inside w p place quiet view within read is =
    let here : IsTrue quiet ↔ ((s : ℕ) → has_pending inside p s ≡ false) =
    subst (λ (place : Surroundings). IsTrue quiet ↔ ((s : ℕ) → is_pending_in place.pending s ≡ false)) (get_or_read inside.surroundings p place within read no_surroundings) is in
    subst (λ (w : World). IsTrue quiet ↔ ((s : ℕ) → has_pending w p s ≡ false)) view here

pub returns : goal.returns
returns c =
    let inside : World = record { net = c.self.inside.net; surroundings = c.self.inside.surroundings.items } in
    quiet_at inside c.args.self.now c.args.p c.index.result.now c.has_no_signal.result c.self.view_is (search rules) c.index.ensures c.has_no_signal.ensures
