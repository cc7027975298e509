use Rattle.std.proofs.Common.{◌≡◌, ◌++◌, map, drop}
use Rattle.guest_module.specs.inside.CallRows.{call_rows, row_of}
use Rattle.wasm_types.specs.Modules.{func, module_of}
use Rattle.guest_module.proofs.valid.call_rows.Given as goal

abbrev pub invariant-loop-function : goal.invariant-loop-function
invariant-loop-function l =
    l.all.items ++ map (row_of (module_of l.«module»)) (map func (drop l.function-index l.«module».funcs.items)) ≡ call_rows (module_of l.«module»)
