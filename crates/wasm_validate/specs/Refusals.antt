-- Why a module is refused.
use Rattle.std.specs.Prelude.{◌≡◌, false, All}
use Rattle.wasm_types.specs.Floats.{is_with_floats}
use Rattle.guest_module.specs.Library.{IsOfLibrary}
use Rattle.wasm_types.specs.Modules.{Module}
use Rattle.wasm_types.specs.Rules.{IsTyped}
use Rattle.guest_module.specs.Valid as valid
use Rattle.wasm_validate.specs.declared.invalid.Invalid.{Invalid}
use Rattle.wasm_validate.specs.declared.invalid.Invalid.TheVariants.{HasFloat, BadImport, Untyped, OverLimit, NoStart, NoMemory}

-- the module's imports and its code are those of an accepted module
pub record IsTypedWithoutFloats (m : Module) : Type 0 where
  pub no_float : is_with_floats m ≡ false
  pub imports : All (IsOfLibrary m.types) m.imports
  pub typed : IsTyped m

-- The first of the refusals that holds, in their order. Want of memory has no cause in the module, but floats and
-- imports are looked at before any memory is asked for.
abbrev pub IsFirst : Module → Invalid → Type 0
IsFirst m HasFloat = valid.HasFloat m
IsFirst m BadImport = (is_with_floats m ≡ false) × valid.HasBadImport m
IsFirst m Untyped = (is_with_floats m ≡ false) × All (IsOfLibrary m.types) m.imports × valid.IsUntyped m
IsFirst m OverLimit = IsTypedWithoutFloats m × valid.IsOverLimit m
IsFirst m NoStart = IsTypedWithoutFloats m × (valid.is_over_limit m ≡ false) × valid.HasNoStart m
IsFirst m NoMemory = (is_with_floats m ≡ false) × All (IsOfLibrary m.types) m.imports
