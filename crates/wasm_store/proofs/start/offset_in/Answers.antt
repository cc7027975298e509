use Rattle.std.proofs.Common.{◌≡◌, ◌≤◌, List, [], ◌∷◌, length, refl, arith}
use Rattle.wasm_types.specs.declared.code.Instr.{Instr}
use Rattle.wasm_types.specs.declared.code.Value.{Value}
use Rattle.wasm_types.specs.Code.{trees}
use Rattle.wasm_store.specs.inside.Begun.{first_values}
use Rattle.wasm_store.specs.Start.{offset_in}
use Rattle.wasm_store.proofs.start.offset_in.Goals as goal

several : (globals : List Value) (is : List Instr) → 2 ≤ length is → 0 ≡ offset_in globals (trees is)
several globals [] h = absurd (omega arith)
several globals (i ∷ []) h = absurd (omega arith)
several globals (i ∷ (j ∷ is)) h = refl

pub returns-in_default-2 : goal.returns-in_default-2
returns-in_default-2 c = several (first_values c.args.globals.now) c.args.offset.now c.in_default.len_at_least
