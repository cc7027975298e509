-- How a module begins: its globals, its table and its memory (WebAssembly 1.0, section 4.5.4), and the
-- thread that runs first.
use Rattle.std.specs.Prelude.{ℕ, ◌+◌, Bool, ◌&&◌, nat_le, min, List, [], ◌∷◌, ◌++◌, Option, Some, None, length, map, slice_get, replicate, take, drop, if◌then◌else◌}
use Rattle.std.specs.List.{list_all}
use Rattle.guest_memory.specs.Limits.{most_pages}
use Rattle.guest_memory.specs.Memory.{Memory, fresh_memory, after_write_at}
use Rattle.wasm_types.specs.declared.code.Value.{Value}
use Rattle.wasm_types.specs.declared.code.Value.TheVariants.{I32, I64}
use Rattle.wasm_types.specs.declared.modules.Limits.{Limits}
use Rattle.wasm_types.specs.Code.{Tree, ConstI32, ConstI64, GlobalGet, Trees, End, Then}
use Rattle.wasm_types.specs.Locals.{zero_of}
use Rattle.wasm_types.specs.Modules.{Module, GlobalDef, Elem, Segment}
use Rattle.wasm_values.specs.Values.{bits_of}
use Rattle.wasm_store.specs.Store.{Store}

-- ---- globals

-- a constant as a value; the initial values of a valid module are all such
abbrev pub constant : Tree → Value → Value
constant (ConstI32 bits) otherwise = I32 bits
constant (ConstI64 bits) otherwise = I64 bits
constant _ otherwise = otherwise

-- the value of an expression of one instruction
abbrev pub initial_in : Trees → Value → Value
initial_in (Then i End) otherwise = constant i otherwise
initial_in _ otherwise = otherwise

abbrev pub initial_value : GlobalDef → Value
initial_value g = initial_in g.init (zero_of g.value_type)

abbrev pub initial_globals : Module → List Value
initial_globals m = map initial_value m.globals

-- no event has set any of them
abbrev pub unset_globals : List GlobalDef → List ℕ
unset_globals globals = map (λ (d : GlobalDef). 0) globals

-- ---- where segments begin

-- a constant, or the value of a global; the offsets of a valid module are all such
abbrev pub offset_at : List Value → Tree → ℕ
offset_at globals (ConstI32 bits) = bits
offset_at globals (GlobalGet x) = bits_of (slice_get globals x)
offset_at globals _ = 0

abbrev pub offset_in : List Value → Trees → ℕ
offset_in globals (Then i End) = offset_at globals i
offset_in globals _ = 0

-- ---- the table

-- the least size of the first table or memory, if there is one
abbrev pub first_min : List Limits → ℕ
first_min [] = 0
first_min (l ∷ ls) = l.min

-- the table without its segments, all of whose places are empty
abbrev pub empty_table : Module → List (Option ℕ)
empty_table m = replicate (first_min m.tables) None

-- the segment lies in a table of this length
abbrev pub is_elem_inside : List Value → ℕ → Elem → Bool
is_elem_inside globals len e = nat_le (offset_in globals e.offset + length e.funcs) len

-- the functions in the places from this one on
abbrev pub put_funcs : List (Option ℕ) → ℕ → List ℕ → List (Option ℕ)
put_funcs table at funcs = take at table ++ (map Some funcs ++ drop (at + length funcs) table)

abbrev pub put_elems : List Value → List Elem → List (Option ℕ) → List (Option ℕ)
put_elems globals [] table = table
put_elems globals (e ∷ es) table = put_elems globals es (put_funcs table (offset_in globals e.offset) e.funcs)

-- ---- the memory

-- the most pages: the declared maximum, within the limit of a memory
abbrev pub most_pages_within : Option ℕ → ℕ
most_pages_within None = most_pages
most_pages_within (Some max) = min most_pages max

abbrev pub first_most : List Limits → ℕ
first_most [] = 0
first_most (l ∷ ls) = most_pages_within l.max

-- the memory without its segments
abbrev pub memory_before_segments : Module → Memory
memory_before_segments m = fresh_memory (first_min m.mems) (first_most m.mems)

-- the segment lies in a memory of so many bytes
abbrev pub is_segment_within : List Value → ℕ → Segment → Bool
is_segment_within globals len s = nat_le (offset_in globals s.offset + length s.bytes) len

-- the segment lies in the memory
abbrev pub is_segment_inside : List Value → Memory → Segment → Bool
is_segment_inside globals memory s = is_segment_within globals (length memory.bytes) s

abbrev pub put_segments : List Value → List Segment → Memory → Memory
put_segments globals [] memory = memory
put_segments globals (s ∷ ss) memory =
    put_segments globals ss (after_write_at memory (offset_in globals s.offset) s.bytes)

-- ---- the whole

-- each element segment lies in the table, and each data segment in the memory
abbrev pub segments_fit : Module → Bool
segments_fit m =
    list_all (is_elem_inside (initial_globals m) (length (empty_table m))) m.elems
    && list_all (is_segment_inside (initial_globals m) (memory_before_segments m)) m.segments

-- the globals with their first values, and the table and the memory with their segments; they are no event's work
abbrev pub initial_store : Module → Store
initial_store m = record {
  «module» = m;
  memory = put_segments (initial_globals m) m.segments (memory_before_segments m);
  globals = initial_globals m;
  global_stamps = unset_globals m.globals;
  table = put_elems (initial_globals m) m.elems (empty_table m);
  size_stamp = 0;
}

-- what the threads of a module share at first, unless some segment ends past the table or the memory
abbrev pub first_store : Module → Option Store
first_store m = if segments_fit m then Some (initial_store m) else None
