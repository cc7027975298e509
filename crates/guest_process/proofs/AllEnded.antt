-- Whether all threads of a crew have ended.
use Rattle.std.proofs.Common.{◌≡◌, ℕ, zero, suc, ◌<◌, true, false, List, [], ◌∷◌, length, take, refl, arith}
use Rattle.std.specs.Prelude.{slice_get}
use Rattle.coop_threads.specs.Crew.{status_of}
use Rattle.coop_threads.specs.declared.slot.Slot.{Slot}
use Rattle.coop_threads.specs.declared.slot.Slot.TheVariants.{Kept, Lent, Over}
use Rattle.coop_threads.specs.declared.status.Status.TheVariants.{Ended}
use Rattle.guest_process.specs.declared.waiting.Waiting.{Waiting}
use Rattle.guest_process.specs.GoesOn.{all_over}

pub over_more : (xs : List (Slot Waiting)) (t : ℕ) → all_over (take t xs) ≡ true → status_of (slice_get xs t) ≡ Ended → all_over (take (suc t) xs) ≡ true
over_more [] t h s = cc
over_more (Over ∷ xs) zero h s = refl
over_more (Kept w ∷ xs) zero h s = cc
over_more (Lent ∷ xs) zero h s = cc
over_more (Over ∷ xs) (suc t) h s = over_more xs t h s
over_more (Kept w ∷ xs) (suc t) h s = cc
over_more (Lent ∷ xs) (suc t) h s = cc

pub not_over : (xs : List (Slot Waiting)) (t : ℕ) → t < length xs → (status_of (slice_get xs t) ≡ Ended → ⊥) → false ≡ all_over xs
not_over [] t low h = absurd (omega arith)
not_over (Over ∷ xs) zero low h = absurd (h refl)
not_over (Kept w ∷ xs) zero low h = refl
not_over (Lent ∷ xs) zero low h = refl
not_over (Over ∷ xs) (suc t) low h = not_over xs t (omega arith) h
not_over (Kept w ∷ xs) (suc t) low h = refl
not_over (Lent ∷ xs) (suc t) low h = refl
