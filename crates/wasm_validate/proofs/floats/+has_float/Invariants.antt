use Rattle.std.proofs.Common.{◌≡◌, drop}
use Rattle.wasm_types.specs.Code.{trees}
use Rattle.wasm_types.specs.Floats.{have_float}
use Rattle.wasm_validate.proofs.floats.+has_float.Given as goal

abbrev pub invariant-have_float-loop-instr : goal.invariant-have_float-loop-instr
invariant-have_float-loop-instr l = have_float (trees (drop l.instr-index l.instrs)) ≡ have_float (trees l.instrs)
