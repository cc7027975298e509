-- Globals as contracts see them.
use Rattle.wasm_types.specs.Modules.{GlobalType}
use Rattle.wasm_types.specs.declared.modules.GlobalDef.{GlobalDef as RustGlobalDef}

-- the type of a global of the program's
abbrev pub global_of : RustGlobalDef → GlobalType
global_of g = record { value_type = g.kind; mutable = g.mutable }
