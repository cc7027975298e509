-- The function that says why a module is refused, against the refusals themselves.
use Rattle.std.proofs.Common.{◌≡◌, ◌≢◌, Bool, true, false, not, cond, Option, Some, None, refl, subst}
use Rattle.std.specs.Prelude.{All}
use Rattle.std.specs.Bool.{Decides}
use Rattle.std.proofs.lemmas.Option.{same_Some}
use Rattle.wasm_types.specs.Floats.{is_with_floats}
use Rattle.guest_module.specs.Library.{IsOfLibrary}
use Rattle.wasm_types.specs.Modules.{Module}
use Rattle.wasm_types.specs.Rules.{IsTyped}
use Rattle.guest_module.specs.Valid.{IsValid, is_over_limit, has_no_start}
use Rattle.wasm_validate.specs.declared.invalid.Invalid.{Invalid}
use Rattle.wasm_validate.specs.declared.invalid.Invalid.TheVariants.{HasFloat, BadImport, Untyped, OverLimit, NoStart, NoMemory}
use Rattle.wasm_validate.specs.Deciding.{are_of_library, is_typed}
use Rattle.wasm_validate.specs.Fault.{fault}
use Rattle.wasm_validate.specs.Refusals.{IsFirst, IsTypedWithoutFloats}
use Rattle.wasm_validate.proofs.DecidingLemmas.{imports-Decides, typed-Decides}

-- a test of what does not hold
fails : {P : Type 0} (b : Bool) → Decides b P → (P → ⊥) → b ≡ false
fails true decides never = absurd (never (decides.0 refl))
fails false decides never = refl

-- what does not hold, since its test fails
refuted : {P : Type 0} (b : Bool) → Decides b P → b ≡ false → P → ⊥
refuted b decides fails holds = let passes : b ≡ true = decides.1 holds in cc

-- a module with these answers of the five tests
record Tests (m : Module) (floats imports typed over unstarted : Bool) : Type 0 where
  floats_is : is_with_floats m ≡ floats
  imports_is : are_of_library m ≡ imports
  typed_is : is_typed m ≡ typed
  over_is : is_over_limit m ≡ over
  unstarted_is : has_no_start m ≡ unstarted

-- what is found of such a module, by its tests
abbrev found_of : Bool → Bool → Bool → Bool → Bool → Option Invalid
found_of floats imports typed over unstarted =
    cond floats (Some HasFloat) (cond (not imports) (Some BadImport) (cond (not typed) (Some Untyped) (cond over (Some OverLimit) (cond unstarted (Some NoStart) None))))

all_hold : (m : Module) → are_of_library m ≡ true → All (IsOfLibrary m.types) m.imports
all_hold m is = (imports-Decides m).0 is

is_well_typed : (m : Module) → is_typed m ≡ true → IsTyped m
is_well_typed m is = (typed-Decides m).0 is

without_floats : (m : Module) {over unstarted : Bool} → Tests m false true true over unstarted → IsTypedWithoutFloats m
without_floats m t = record { no_float = t.floats_is; imports = all_hold m t.imports_is; typed = is_well_typed m t.typed_is }

-- nothing was found
valid_by : (m : Module) (floats imports typed over unstarted : Bool) → Tests m floats imports typed over unstarted → found_of floats imports typed over unstarted ≡ None → IsValid m
valid_by m true imports typed over unstarted t e = absurd cc
valid_by m false false typed over unstarted t e = absurd cc
valid_by m false true false over unstarted t e = absurd cc
valid_by m false true true true unstarted t e = absurd cc
valid_by m false true true false true t e = absurd cc
valid_by m false true true false false t e = record {
  no_float = t.floats_is;
  imports = all_hold m t.imports_is;
  typed = is_well_typed m t.typed_is;
  within_limits = t.over_is;
  has_start = t.unstarted_is;
}

-- this was found
first_by : (m : Module) (floats imports typed over unstarted : Bool) (why : Invalid) → Tests m floats imports typed over unstarted → found_of floats imports typed over unstarted ≡ Some why → IsFirst m why
first_by m true imports typed over unstarted why t e = subst (IsFirst m) (same_Some HasFloat why e) t.floats_is
first_by m false false typed over unstarted why t e =
    subst (IsFirst m) (same_Some BadImport why e) (t.floats_is, refuted (are_of_library m) (imports-Decides m) t.imports_is)
first_by m false true false over unstarted why t e =
    subst (IsFirst m) (same_Some Untyped why e) (t.floats_is, all_hold m t.imports_is, refuted (is_typed m) (typed-Decides m) t.typed_is)
first_by m false true true true unstarted why t e = subst (IsFirst m) (same_Some OverLimit why e) (without_floats m t, t.over_is)
first_by m false true true false true why t e = subst (IsFirst m) (same_Some NoStart why e) (without_floats m t, t.over_is, t.unstarted_is)
first_by m false true true false false why t e = absurd cc

tests_of : (m : Module) → Tests m (is_with_floats m) (are_of_library m) (is_typed m) (is_over_limit m) (has_no_start m)
tests_of m = record { floats_is = refl; imports_is = refl; typed_is = refl; over_is = refl; unstarted_is = refl }

pub is_valid : (m : Module) → fault m ≡ None → IsValid m
unfolding fault
is_valid m e = valid_by m _ _ _ _ _ (tests_of m) e

pub found_first : (m : Module) (why : Invalid) → fault m ≡ Some why → IsFirst m why
unfolding fault
found_first m why e = first_by m _ _ _ _ _ why (tests_of m) e

-- ---- and back

pub no_fault : (m : Module) → IsValid m → fault m ≡ None
unfolding fault
no_fault m v = rw (v.no_float, (imports-Decides m).1 v.imports, (typed-Decides m).1 v.typed, v.within_limits, v.has_start) refl

pub first_found : (m : Module) (why : Invalid) → why ≢ NoMemory → IsFirst m why → fault m ≡ Some why
unfolding fault
first_found m HasFloat caused h = rw h refl
first_found m BadImport caused h = rw (h.0, fails (are_of_library m) (imports-Decides m) h.1) refl
first_found m Untyped caused h = rw (h.0, (imports-Decides m).1 h.1, fails (is_typed m) (typed-Decides m) h.2) refl
first_found m OverLimit caused h = rw (h.0.no_float, (imports-Decides m).1 h.0.imports, (typed-Decides m).1 h.0.typed, h.1) refl
first_found m NoStart caused h = rw (h.0.no_float, (imports-Decides m).1 h.0.imports, (typed-Decides m).1 h.0.typed, h.1, h.2) refl
first_found m NoMemory caused h = absurd (caused refl)
