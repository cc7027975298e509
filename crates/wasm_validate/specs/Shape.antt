-- The rules of a module but those of its functions' code, as tests.
use Rattle.std.specs.Prelude.{Bool, true, false, ◌&&◌, length, nat_le}
use Rattle.std.specs.List.{list_all}
use Rattle.std.specs.Option.{option_map_or}
use Rattle.wasm_types.specs.Context.{func_type_of}
use Rattle.wasm_types.specs.Modules.{Import, Export, FuncType, Module}
use Rattle.wasm_types.specs.Rules.{has_type, is_elem, is_initial_value, is_memory, is_ordered, is_segment, names_something}
use Rattle.guest_module.specs.Valid.{is_plain}

-- few results, tables and memories, and their limits
abbrev pub is_within_limits : Module → Bool
is_within_limits m =
    list_all (λ (t : FuncType). nat_le (length t.results) 1) m.types
    && (nat_le (length m.tables) 1
    && (nat_le (length m.mems) 1
    && (list_all is_ordered m.tables
    && list_all is_memory m.mems)))

-- the start function has no parameters and no result
abbrev pub has_plain_start : Module → Bool
has_plain_start m = option_map_or (λ f. option_map_or is_plain (func_type_of m f) false) m.start true

-- indices that name something, and constant expressions
abbrev pub is_linked : Module → Bool
is_linked m =
    list_all (λ (i : Import). has_type m i.desc) m.imports
    && (list_all is_initial_value m.globals
    && (list_all (λ (e : Export). names_something m e.desc) m.exports
    && (has_plain_start m
    && (list_all (is_elem m) m.elems
    && list_all (is_segment m) m.segments))))
