-- What a call of a thread is to be.
use Rattle.std.specs.Prelude.{◌≡◌, ℕ, Option, Some, slice_get}
use Rattle.wasm_types.specs.Functions.{type_of}
use Rattle.wasm_types.specs.Modules.{Module, Func, FuncType}
use Rattle.wasm_stack.specs.Thread.{Thread}
use Rattle.wasm_step.specs.Reduce.{call, call_if_same}

-- a call through the table that wants a function of this type calls one of the other type as it is
abbrev pub MatchesCallType : Module → FuncType → Option FuncType → Type 0
MatchesCallType m type wanted = (f : ℕ) (t : Thread) → call_if_same m f (Some type) wanted t ≡ call m f t

-- the same of a function by its type
abbrev pub CallsAsTyped : Module → Func → Option FuncType → Type 0
CallsAsTyped m func wanted = (type : FuncType) → slice_get m.types func.type_index ≡ Some type → MatchesCallType m type wanted

-- the function with this index is one of the module's own, and has a type
pub record HasOwnType (m : Module) (f : ℕ) (func : Func) : Type 0 where
  pub type : FuncType
  pub of : type_of m f ≡ Some type
  pub at : slice_get m.types func.type_index ≡ Some type
