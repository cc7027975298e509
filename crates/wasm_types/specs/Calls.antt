-- What calls and operators take and give.
use Rattle.std.specs.Prelude.{ℕ, Bool, List, Option, Some, None, slice_get, if◌then◌else◌}
use Rattle.wasm_types.specs.declared.code.ValType.{ValType}
use Rattle.wasm_types.specs.declared.code.ValType.TheVariants.{I32}
use Rattle.wasm_types.specs.Modules.{FuncType}
use Rattle.wasm_types.specs.Maybe.{◌>>=◌}
use Rattle.wasm_types.specs.Numeric.{operator_of}
use Rattle.wasm_types.specs.Stack.{BlockStack, pop_type, operate}

-- the result of a function type, which has one at most where it is well formed
abbrev pub result_of : FuncType → Option ValType
result_of type = slice_get type.results 0

-- a call of a function of this type
abbrev pub call_type : List FuncType → ℕ → BlockStack → Option BlockStack
call_type types t s = do
  callee ← slice_get types t
  operate callee.params (result_of callee) s

-- a call of the function with this index; `funcs` has the index of each function's type
abbrev pub typed_call : List FuncType → List ℕ → ℕ → BlockStack → Option BlockStack
typed_call types funcs f s = do
  t ← slice_get funcs f
  call_type types t s

-- a call through the table
abbrev pub typed_call_indirect : Bool → List FuncType → ℕ → BlockStack → Option BlockStack
typed_call_indirect has_table types t s = do
  below ← pop_type I32 s
  if has_table then call_type types t below else None

abbrev pub typed_operator : ℕ → BlockStack → Option BlockStack
typed_operator n s = do
  op ← operator_of n
  operate op.takes (Some op.gives) s
