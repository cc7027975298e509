use Rattle.std.proofs.Common.{take, All}
use Rattle.wasm_types.specs.Modules.{func, module_of}
use Rattle.wasm_types.specs.Rules.{IsTypedFunc}
use Rattle.wasm_validate.proofs.ListLoops.{IsSeen}
use Rattle.wasm_validate.proofs.functions.check_functions.Given as goal

abbrev pub invariant-loop-function : goal.invariant-loop-function
invariant-loop-function l =
    All (IsSeen (IsTypedFunc (module_of l.«module»)) func) (take l.function-index l.«module».funcs.items)
