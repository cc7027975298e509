-- A value that answers the call at which a thread stands.
use Rattle.std.proofs.Common.{◌≡◌, ℕ, Option, Some, refl, subst, sym}
use Rattle.call_table.specs.declared.kind.Kind.{Kind}
use Rattle.call_table.specs.declared.kind.Kind.TheVariants.{Begin}
use Rattle.wasm_types.specs.declared.code.Value.{Value}
use Rattle.wasm_step.specs.Strand.{IsAnswer, IsResult, library_result}
use Rattle.guest_process.specs.declared.waiting.Waiting.{Waiting}
use Rattle.guest_process.specs.Kinds.{reply_value}
use Rattle.guest_process.specs.Sound.{StandsAtKind}

by_stand : (w : Waiting) (k : Kind) (reply : ℕ) → (func : ℕ) × (w.strand.call ≡ Some func) × ((reply : ℕ) → IsResult (library_result w.strand.«module» func) (reply_value k reply)) → (value : Option Value) → value ≡ reply_value k reply → IsAnswer w.strand value
by_stand w k reply at value e = record { func = at.0; stands = at.1; typed = subst (IsResult (library_result w.strand.«module» at.0)) (sym e) (at.2 reply) }

stand_of : (w : Waiting) (k : Kind) → StandsAtKind w.strand.«module» w k → (k ≡ Begin → ⊥) → (func : ℕ) × (w.strand.call ≡ Some func) × ((reply : ℕ) → IsResult (library_result w.strand.«module» func) (reply_value k reply))
stand_of w Begin at other = absurd (other refl)
stand_of w _ at other = at

pub is_answer : (w : Waiting) (k : Kind) (reply : ℕ) (value : Option Value) → StandsAtKind w.strand.«module» w k → (k ≡ Begin → ⊥) → value ≡ reply_value k reply → IsAnswer w.strand value
is_answer w k reply value at other e = by_stand w k reply (stand_of w k at other) value e
