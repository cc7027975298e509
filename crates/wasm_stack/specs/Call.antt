-- Calls of the library.
use Rattle.std.specs.Prelude.{ℕ, List, Option, Some, None, slice_get}
use Rattle.wasm_types.specs.declared.code.Value.{Value}
use Rattle.wasm_values.specs.Values.{bits_of}
use Rattle.wasm_stack.specs.declared.call.CallSite.{CallSite}

-- the call of the function f with these arguments; no function of the library has more than three
abbrev pub site_of : ℕ → List Value → CallSite
site_of f args = record {
  func = f;
  a0 = bits_of (slice_get args 0);
  a1 = bits_of (slice_get args 1);
  a2 = bits_of (slice_get args 2);
}

-- the same, if there are arguments
abbrev pub call_sited : ℕ → Option (List Value) → Option CallSite
call_sited f None = None
call_sited f (Some args) = Some (site_of f args)
