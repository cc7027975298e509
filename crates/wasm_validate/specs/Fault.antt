-- Why a module is refused, as a function, and what holds of it.
use Rattle.std.specs.Prelude.{◌≡◌, ◌≢◌, ◌↔◌, not, Option, Some, None, if◌then◌else◌}
use Rattle.wasm_types.specs.Floats.{is_with_floats}
use Rattle.wasm_types.specs.Modules.{Module}
use Rattle.guest_module.specs.Valid.{IsValid, is_over_limit, has_no_start}
use Rattle.wasm_validate.specs.declared.invalid.Invalid.{Invalid}
use Rattle.wasm_validate.specs.declared.invalid.Invalid.TheVariants.{HasFloat, BadImport, Untyped, OverLimit, NoStart, NoMemory}
use Rattle.wasm_validate.specs.Deciding.{are_of_library, is_typed}
use Rattle.wasm_validate.specs.Refusals.{IsFirst}

-- the first test that the module fails, if there is one
unfoldable pub fault : Module → Option Invalid
fault m =
    if is_with_floats m then Some HasFloat else
    (if not (are_of_library m) then Some BadImport else
    (if not (is_typed m) then Some Untyped else
    (if is_over_limit m then Some OverLimit else
    (if has_no_start m then Some NoStart else None))))

-- exactly a valid module has no fault, and a fault is exactly the first refusal that holds
pub record ExactFault : Type 0 where
  pub none : (m : Module) → (fault m ≡ None) ↔ IsValid m
  pub first : (m : Module) (why : Invalid) → why ≢ NoMemory → (fault m ≡ Some why) ↔ IsFirst m why
