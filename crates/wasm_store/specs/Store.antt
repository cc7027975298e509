-- What the threads of a module share.
use Rattle.std.specs.Prelude.{ℕ, Bool, true, false, ◌&&◌, nat_le, nat_lt, List, [], ◌∷◌, length, slice_get, slice_index_or, slice_set, Option, Some, None, if◌then◌else◌}
use Rattle.std.specs.Option.{option_map_or}
use Rattle.guest_memory.specs.Memory.{Memory, after_grow, can_grow}
use Rattle.wasm_types.specs.declared.code.Value.{Value}
use Rattle.wasm_types.specs.declared.code.ValType.{ValType}
use Rattle.wasm_types.specs.declared.code.ValType.TheVariants as types
use Rattle.wasm_types.specs.Functions.{type_of}
use Rattle.wasm_types.specs.Modules.{Module, FuncType}

-- the module, its memory, the values of its globals with the number of the last event that set each, its
-- table, which holds the index of a function or nothing at each place, and the number of the last event that
-- made the memory larger
pub record Store : Type 0 where
  pub «module» : Module
  pub memory : Memory
  pub globals : List Value
  pub global_stamps : List ℕ
  pub table : List (Option ℕ)
  pub size_stamp : ℕ

-- a global has this value, by the event that writes now
abbrev pub with_global : Store → ℕ → Value → Store
with_global g n v = record g { globals = slice_set g.globals n v; global_stamps = slice_set g.global_stamps n g.memory.number }

-- the memory grows by at least one page
abbrev pub is_enlarged : Memory → ℕ → Bool
is_enlarged memory pages = nat_lt 0 pages && can_grow memory pages

-- the memory has so many pages more, where it can grow so
abbrev pub with_growth : Store → ℕ → Store
with_growth g pages = record g { memory = after_grow g.memory pages; size_stamp = if is_enlarged g.memory pages then g.memory.number else g.size_stamp }

-- the number of the last event that set the global, which is 0 where there is no such global
abbrev pub global_stamp_of : Store → ℕ → ℕ
global_stamp_of g n = slice_index_or g.global_stamps n 0

-- the function at a place of a table, if there is the place and it isn't empty
abbrev pub func_in_table : Option (Option ℕ) → Option ℕ
func_in_table None = None
func_in_table (Some func) = func

abbrev pub is_number_param : List ValType → Bool
is_number_param (types.I32 ∷ []) = true
is_number_param _ = false

-- one parameter of 32 bits and no result
abbrev pub takes_number : FuncType → Bool
takes_number type = is_number_param type.params && nat_le (length type.results) 0

-- the module itself defines the function, with such a type
abbrev pub is_handler : Module → ℕ → Bool
is_handler m f = nat_le (length m.imports) f && option_map_or takes_number (type_of m f) false

abbrev pub handler_in : Module → Option ℕ → Option ℕ
handler_in m None = None
handler_in m (Some f) = if is_handler m f then Some f else None

-- the function at a place of the table, if it can begin a thread or handle a signal
abbrev pub handler_at : Store → ℕ → Option ℕ
handler_at g index = handler_in g.«module» (func_in_table (slice_get g.table index))
