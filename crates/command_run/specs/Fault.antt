-- Why a module is refused, by the first test that it fails.
use Rattle.std.specs.Prelude.{Option, Some, None, option_and_then}
use Rattle.wasm_types.specs.Modules.{Module}
use Rattle.wasm_validate.specs.declared.invalid.Invalid.{Invalid}
use Rattle.wasm_validate.specs.declared.invalid.Invalid.TheVariants as invalid
use Rattle.wasm_validate.specs.Fault.{fault}
use Rattle.command_run.specs.declared.refusal.Reason.{Reason}
use Rattle.command_run.specs.declared.refusal.Reason.TheVariants as reason

-- the reason that is printed; want of memory is no fault of a module
abbrev pub reason_of : Invalid → Option Reason
reason_of invalid.HasFloat = Some reason.HasFloat
reason_of invalid.BadImport = Some reason.BadImport
reason_of invalid.Untyped = Some reason.Untyped
reason_of invalid.OverLimit = Some reason.OverLimit
reason_of invalid.NoStart = Some reason.NoStart
reason_of invalid.NoMemory = None

-- nothing, exactly where the module is valid
unfoldable pub fault_of : Module → Option Reason
fault_of m = option_and_then reason_of (fault m)
