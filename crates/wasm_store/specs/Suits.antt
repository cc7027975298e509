-- Stores that suit their module.
use Rattle.std.specs.Prelude.{◌≡◌, ℕ, Some, map, length, slice_get, IsSome}
use Rattle.wasm_types.specs.Functions.{type_of}
use Rattle.wasm_types.specs.Modules.{GlobalDef}
use Rattle.wasm_values.specs.Values.{types_of_values}
use Rattle.wasm_store.specs.Start.{first_min, first_most}
use Rattle.wasm_store.specs.Store.{Store}

-- The store has the memory, the table and the globals that the module declares, and each function that
-- the table holds is one of the module.
pub record SuitsModule (g : Store) : Type 0 where
  pub most : g.memory.max ≡ first_most g.«module».mems
  pub places : length g.table ≡ first_min g.«module».tables
  pub globals : types_of_values g.globals ≡ map (λ (d : GlobalDef). d.value_type) g.«module».globals
  pub elements : (k f : ℕ) → slice_get g.table k ≡ Some (Some f) → IsSome (type_of g.«module» f)
