-- The globals as the code keeps them, and the two lists as which a store is seen.
use Rattle.std.proofs.Common.{◌≡◌, ℕ, List, [], ◌∷◌, Option, refl, ap, ◌∙◌}
use Rattle.std.specs.Prelude.{map}
use Rattle.std.proofs.Math.ListN.{set}
use Rattle.std.proofs.lemmas.List.{map-set}
use Rattle.guest_memory.specs.Memory.{Memory}
use Rattle.wasm_types.specs.declared.code.Value.{Value}
use Rattle.wasm_types.specs.declared.modules.GlobalDef.{GlobalDef}
use Rattle.wasm_types.specs.Modules.{Module, global_def}
use Rattle.wasm_store.specs.declared.global.Global.{Global}
use Rattle.wasm_store.specs.inside.Globals.{stamps_of_globals, values_of_globals}
use Rattle.wasm_store.specs.inside.Begun.{first_globals, first_values}
use Rattle.wasm_store.specs.Start.{initial_value, unset_globals}
use Rattle.wasm_store.specs.Store.{Store, with_global}

pub first_values_are : (globals : List GlobalDef) → values_of_globals (first_globals globals) ≡ first_values globals
first_values_are [] = refl
first_values_are (d ∷ ds) = ap (λ (vs : List Value). initial_value (global_def d) ∷ vs) (first_values_are ds)

pub first_stamps_are : (globals : List GlobalDef) → stamps_of_globals (first_globals globals) ≡ unset_globals (map global_def globals)
first_stamps_are [] = refl
first_stamps_are (d ∷ ds) = ap (λ (ss : List ℕ). 0 ∷ ss) (first_stamps_are ds)

-- a store of these parts
abbrev seen : Module → Memory → List Global → List (Option ℕ) → ℕ → Store
seen m memory globals table size = record { «module» = m; memory = memory; globals = values_of_globals globals; global_stamps = stamps_of_globals globals; table = table; size_stamp = size }

pub set_seen : (m : Module) (memory : Memory) (globals : List Global) (table : List (Option ℕ)) (size n number : ℕ) (v : Value) → number ≡ memory.number
    → seen m memory (set globals n (record { value = v; stamp = number })) table size ≡ with_global (seen m memory globals table size) n v
set_seen m memory globals table size n number v e =
    let new : Global = record { value = v; stamp = number } in
    let values : values_of_globals (set globals n new) ≡ set (values_of_globals globals) n v = map-set (λ (g : Global). g.value) globals n new in
    let stamps : stamps_of_globals (set globals n new) ≡ set (stamps_of_globals globals) n memory.number =
    map-set (λ (g : Global). g.stamp) globals n new ∙ ap (set (stamps_of_globals globals) n) e in
    ap (λ (vs : List Value). record { «module» = m; memory = memory; globals = vs; global_stamps = stamps_of_globals (set globals n new); table = table; size_stamp = size }) values
    ∙ ap (λ (ss : List ℕ). record { «module» = m; memory = memory; globals = set (values_of_globals globals) n v; global_stamps = ss; table = table; size_stamp = size }) stamps
