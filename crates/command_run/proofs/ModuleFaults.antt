-- Why a module is refused, from what the validator says.
use Rattle.std.proofs.Common.{◌≡◌, ◌≢◌, ℕ, List, Some, None, refl, ap}
use Rattle.std.specs.Prelude.{option_and_then}
use Rattle.wasm_types.specs.Modules.{Module}
use Rattle.guest_module.specs.Valid.{IsValid}
use Rattle.wasm_validate.specs.declared.invalid.Invalid.{Invalid}
use Rattle.wasm_validate.specs.declared.invalid.Invalid.TheVariants as invalid
use Rattle.wasm_validate.specs.Fault.{ExactFault}
use Rattle.wasm_validate.specs.Refusals.{IsFirst}
use Rattle.command_run.specs.declared.refusal.Reason.{Reason}
use Rattle.command_run.specs.declared.refusal.Reason.TheVariants as reason
use Rattle.command_run.specs.declared.refusal.StopCause.{StopCause}
use Rattle.command_run.specs.declared.refusal.StopCause.TheVariants as refusal
use Rattle.command_run.specs.Call.{RefusesFile, StopsAsCause}
use Rattle.command_run.specs.Inputs.{valid_module}
use Rattle.command_run.specs.Fault.{fault_of, reason_of}

module _ (exact : ExactFault) where
  pub no_fault : (m : Module) → IsValid m → fault_of m ≡ None
  unfolding fault_of
  no_fault m v = ap (option_and_then reason_of) ((exact.none m).1 v)

  caused_by : (m : Module) (why : Invalid) → why ≢ invalid.NoMemory → IsFirst m why → fault_of m ≡ reason_of why
  unfolding fault_of
  caused_by m why caused first = ap (option_and_then reason_of) ((exact.first m why caused).1 first)

  pub has_float : (m : Module) → IsFirst m invalid.HasFloat → fault_of m ≡ Some reason.HasFloat
  has_float m first = caused_by m invalid.HasFloat (λ e. absurd cc) first

  pub bad_import : (m : Module) → IsFirst m invalid.BadImport → fault_of m ≡ Some reason.BadImport
  bad_import m first = caused_by m invalid.BadImport (λ e. absurd cc) first

  pub untyped : (m : Module) → IsFirst m invalid.Untyped → fault_of m ≡ Some reason.Untyped
  untyped m first = caused_by m invalid.Untyped (λ e. absurd cc) first

  pub over_limit : (m : Module) → IsFirst m invalid.OverLimit → fault_of m ≡ Some reason.OverLimit
  over_limit m first = caused_by m invalid.OverLimit (λ e. absurd cc) first

  pub no_start : (m : Module) → IsFirst m invalid.NoStart → fault_of m ≡ Some reason.NoStart
  no_start m first = caused_by m invalid.NoStart (λ e. absurd cc) first

-- what is refused so is what is expected
pub fault_stops : (name : List ℕ) (m : Module) (why : Reason) (r : StopCause) → fault_of m ≡ Some why → RefusesFile name why r → StopsAsCause (valid_module name m) r
fault_stops name m why (refusal.Refused file found) is (named, same) = rw (is, named, same) refl
fault_stops name m why refusal.NoMemory is named = tt
fault_stops name m why other is named = absurd named
