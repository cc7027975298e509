-- The store that a module begins with, as the code makes it.
use Rattle.std.specs.Prelude.{List, map}
use Rattle.wasm_types.specs.declared.code.Value.{Value}
use Rattle.wasm_types.specs.declared.modules.GlobalDef.{GlobalDef}
use Rattle.wasm_types.specs.Modules.{Module, global_def}
use Rattle.wasm_store.specs.declared.global.Global.{Global}
use Rattle.wasm_store.specs.declared.start.Begun.{Begun}
use Rattle.wasm_store.specs.inside.Globals.{stamps_of_globals, values_of_globals}
use Rattle.wasm_store.specs.Start.{initial_value}
use Rattle.wasm_store.specs.Store.{Store}

abbrev pub store_begun_so : Module → Begun → Store
store_begun_so m p = record {
  «module» = m;
  memory = p.memory;
  globals = values_of_globals p.globals.items;
  global_stamps = stamps_of_globals p.globals.items;
  table = p.table.items;
  size_stamp = 0;
}

-- the first values of these globals
abbrev pub first_values : List GlobalDef → List Value
first_values globals = map initial_value (map global_def globals)

-- a global with its first value, which no event has set
abbrev pub first_global : GlobalDef → Global
first_global global = record { value = initial_value (global_def global); stamp = 0 }

abbrev pub first_globals : List GlobalDef → List Global
first_globals globals = map first_global globals
