-- What is kept of each of the module's own functions for calls of it.
use Rattle.std.specs.Prelude.{◌&&◌, List, length, map, nat_le, option_and_then, slice_get}
use Rattle.std.specs.Option.{option_map_or}
use Rattle.guest_module.specs.declared.valid.CallRow.{CallRow}
use Rattle.wasm_types.specs.Calls.{result_of}
use Rattle.wasm_types.specs.Context.{filled_runs}
use Rattle.wasm_types.specs.Locals.{zeros}
use Rattle.wasm_types.specs.Modules.{Func, FuncType, Module}

-- its locals without empty runs, what its type says, and whether it has at most four parameters and as many locals
abbrev pub row_of : Module → Func → CallRow
row_of m f =
    let takes = option_map_or (λ (type : FuncType). length type.params) (slice_get m.types f.type_index) 0 in record {
      declared = filled_runs f.locals;
      takes = takes;
      gives = option_and_then result_of (slice_get m.types f.type_index);
      few = nat_le takes 4 && nat_le (length (zeros (filled_runs f.locals))) 4;
    }

abbrev pub call_rows : Module → List CallRow
call_rows m = map (row_of m) m.funcs
