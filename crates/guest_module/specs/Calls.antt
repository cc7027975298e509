-- What calls of a function take and leave.
use Rattle.std.specs.Prelude.{◌≡◌, ℕ, Option, Some, length, slice_get}
use Rattle.wasm_types.specs.declared.code.ValType.{ValType}
use Rattle.wasm_types.specs.Calls.{result_of}
use Rattle.wasm_types.specs.Modules.{Func, FuncType, Module}

-- the function has a type, by which a call takes this many operands and leaves this
pub record HasCallType (m : Module) (f : Func) (takes : ℕ) (gives : Option ValType) : Type 0 where
  pub type : FuncType
  pub at : slice_get m.types f.type_index ≡ Some type
  pub takes_is : takes ≡ length type.params
  pub gives_is : gives ≡ result_of type
