-- Globals as the code keeps them.
use Rattle.std.specs.Prelude.{ℕ, List, map}
use Rattle.wasm_types.specs.declared.code.Value.{Value}
use Rattle.wasm_store.specs.declared.global.Global.{Global}

-- their values
abbrev pub values_of_globals : List Global → List Value
values_of_globals globals = map (λ (global : Global). global.value) globals

-- and the numbers of the events that set them last
abbrev pub stamps_of_globals : List Global → List ℕ
stamps_of_globals globals = map (λ (global : Global). global.stamp) globals
