-- What holds of each live thread.
use Rattle.std.proofs.Common.{◌≡◌, ℕ, zero, suc, List, [], ◌∷◌, Some, subst}
use Rattle.std.proofs.lemmas.Option.{same_Some}
use Rattle.std.specs.Prelude.{option_and_then, slice_get}
use Rattle.coop_threads.specs.Crew.{value_of}
use Rattle.coop_threads.specs.declared.slot.Slot.{Slot}
use Rattle.coop_threads.specs.declared.slot.Slot.TheVariants.{Kept, Lent, Over}
use Rattle.guest_process.specs.declared.waiting.Waiting.{Waiting}
use Rattle.guest_process.specs.Fits.{Each}

-- it holds of one
pub live_has : (P : Waiting → Type 0) (slots : List (Slot Waiting)) (t : ℕ) → Each P slots
    → (w : Waiting) → option_and_then value_of (slice_get slots t) ≡ Some w → P w
live_has P [] t f w h = cc
live_has P (Kept v ∷ slots) zero f w h = subst P (same_Some _ _ h) f.0
live_has P (Lent ∷ slots) zero f w h = cc
live_has P (Over ∷ slots) zero f w h = cc
live_has P (slot ∷ slots) (suc t) f w h = live_has P slots t f.1 w h
