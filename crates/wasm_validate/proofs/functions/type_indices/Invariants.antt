use Rattle.std.proofs.Common.{◌≡◌, ◌++◌, map, drop}
use Rattle.wasm_types.specs.Context.{imported_funcs, funcs_of}
use Rattle.wasm_types.specs.Modules.{Func, import_of, func, module_of}
use Rattle.wasm_validate.proofs.functions.type_indices.Given as goal

abbrev pub invariant-loop-import : goal.invariant-loop-import
invariant-loop-import l =
    l.type_indices.items ++ imported_funcs (map import_of (drop l.import-index l.«module».imports.items))
    ≡ imported_funcs (map import_of l.«module».imports.items)

abbrev pub invariant-loop-function : goal.invariant-loop-function
invariant-loop-function l =
    l.type_indices.items ++ map (λ (f : Func). f.type_index) (map func (drop l.function-index l.«module».funcs.items))
    ≡ funcs_of (module_of l.«module»)
