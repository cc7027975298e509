-- What one instruction does to a thread and to the store (WebAssembly 1.0, section 4.4).
use Rattle.std.specs.Prelude.{ℕ, ◌+◌, ◌-◌, ◌^◌, false, true, List, [], ◌∷◌, Option, Some, None, is_some, slice_get, length, nat_lt, if◌then◌else◌}
use Rattle.guest_memory.specs.Memory.{Memory, size_of, loaded_number, is_inside, after_store, growth_size}
use Rattle.wasm_types.specs.declared.code.Value.{Value}
use Rattle.wasm_types.specs.declared.code.Value.TheVariants.{I32, I64}
use Rattle.wasm_types.specs.declared.traps.Trap.TheVariants as traps
use Rattle.wasm_types.specs.Code.{Tree, Unreachable, Nop, Block, Loop, If, Br, BrIf, BrTable, Return, CallFunc, CallIndirect, DropTop, Select, LocalGet, LocalSet, LocalTee, GlobalGet, GlobalSet, Load, Store as StoreIn, MemorySize, MemoryGrow, ConstI32, ConstI64, ConstF32, ConstF64, Op}
use Rattle.wasm_types.specs.Functions.{imported_type, type_of, same_type}
use Rattle.wasm_types.specs.Modules.{Module, Func, FuncType}
use Rattle.wasm_values.specs.Access.{load_width, load_value, store_width}
use Rattle.wasm_values.specs.Values.{bits_of}
use Rattle.wasm_stack.specs.After.{AfterStep, Goes, Stops, Calls, Sticks, at_trap, frame_goes_on, limited_thread, on_i32, with_top}
use Rattle.wasm_stack.specs.Call.{site_of}
use Rattle.wasm_stack.specs.Control.{branch, branch_if, branch_table, choose, leave_frame}
use Rattle.wasm_stack.specs.Rows.{drop_top, got, local_get, local_set, local_tee, numeric, select}
use Rattle.wasm_stack.specs.Thread.{Thread, arguments, called_function, has_room, opened_level, with_operand, without_operands}
use Rattle.wasm_store.specs.Store.{Store, with_global, with_growth}

-- what comes after an instruction, with the store
pub record ThreadAndStore : Type 0 where
  pub after : AfterStep
  pub store : Store

-- the store stays
abbrev pub store_stays : Store → AfterStep → ThreadAndStore
store_stays g a = record { after = a; store = g }

-- ---- globals

abbrev pub global_get : ℕ → Store → Thread → AfterStep
global_get x g t = got (slice_get g.globals x) t

abbrev pub set_global : ℕ → Store → List Value → Thread → ThreadAndStore
set_global x g [] t = store_stays g (Stops Sticks)
set_global x g (v ∷ rest) t =
    if nat_lt x (length g.globals)
    then record { after = Goes (record t { stack = rest }); store = with_global g x v }
    else store_stays g (Stops Sticks)

abbrev pub global_set : ℕ → Store → Thread → ThreadAndStore
global_set x g t = set_global x g t.stack t

-- ---- memory

abbrev pub read_at : Option ℕ → ℕ → Thread → AfterStep
read_at None op t = at_trap t traps.MemoryRange
read_at (Some n) op t = got (load_value op n) t

abbrev pub load_at : Option ℕ → ℕ → ℕ → Memory → Thread → AfterStep
load_at None op addr memory t = Stops Sticks
load_at (Some width) op addr memory t = read_at (loaded_number memory addr width) op t

-- the address is the operand, unsigned, plus the offset, and doesn't wrap
abbrev pub load : ℕ → ℕ → Memory → Thread → AfterStep
load op offset memory t = with_top t (λ v t'. on_i32 v (λ base. load_at (load_width op) op (base + offset) memory t'))

abbrev pub write_at : Option ℕ → ℕ → ℕ → Store → Thread → ThreadAndStore
write_at None addr bits g t = store_stays g (Stops Sticks)
write_at (Some width) addr bits g t = record {
  after = if is_inside g.memory addr width then Goes t else at_trap t traps.MemoryRange;
  store = record g { memory = after_store g.memory addr width bits };
}

abbrev pub write_value : ℕ → ℕ → Value → List Value → Store → Thread → ThreadAndStore
write_value op offset v [] g t = store_stays g (Stops Sticks)
write_value op offset v (I64 base ∷ rest) g t = store_stays g (Stops Sticks)
write_value op offset v (I32 base ∷ rest) g t =
    write_at (store_width op v) (base + offset) (bits_of (Some v)) g (record t { stack = rest })

abbrev pub write_top : ℕ → ℕ → List Value → Store → Thread → ThreadAndStore
write_top op offset [] g t = store_stays g (Stops Sticks)
write_top op offset (v ∷ rest) g t = write_value op offset v rest g t

abbrev pub write : ℕ → ℕ → Store → Thread → ThreadAndStore
write op offset g t = write_top op offset t.stack g t

abbrev pub memory_size : Memory → Thread → AfterStep
memory_size memory t = Goes (with_operand t (I32 (size_of memory)))

-- the size before, or -1
abbrev pub grow_answer : Option ℕ → Value
grow_answer None = I32 (2 ^ 32 - 1)
grow_answer (Some pages) = I32 pages

abbrev pub grow_top : List Value → Store → Thread → ThreadAndStore
grow_top [] g t = store_stays g (Stops Sticks)
grow_top (I64 x ∷ rest) g t = store_stays g (Stops Sticks)
grow_top (I32 pages ∷ rest) g t = record {
  after = Goes (with_operand (record t { stack = rest }) (grow_answer (growth_size g.memory pages)));
  store = with_growth g pages;
}

abbrev pub memory_grow : Store → Thread → ThreadAndStore
memory_grow g t = grow_top t.stack g t

-- ---- calls

-- a call of the library is counted with its results among the operands
abbrev pub at_call : Option (List Value) → ℕ → FuncType → Thread → AfterStep
at_call None f type t = Stops Sticks
at_call (Some args) f type t =
    if has_room (length type.results) (without_operands (length type.params) t)
    then Stops (Calls (without_operands (length type.params) t) (site_of f args))
    else at_trap t traps.Exhausted

abbrev pub call_library : ℕ → Option FuncType → Thread → AfterStep
call_library f None t = Stops Sticks
call_library f (Some type) t = at_call (arguments (length type.params) t) f type t

abbrev pub call_typed : ℕ → Func → Option FuncType → Thread → AfterStep
call_typed f func None t = Stops Sticks
call_typed f func (Some type) t = frame_goes_on t (called_function t f func type)

abbrev pub call_own : Module → ℕ → Option Func → Thread → AfterStep
call_own m f None t = Stops Sticks
call_own m f (Some func) t = call_typed f func (slice_get m.types func.type_index) t

-- the imports, which are functions of the library, have the first indices
abbrev pub call : Module → ℕ → Thread → AfterStep
call m f t =
    if nat_lt f (length m.imports)
    then call_library f (imported_type m (slice_get m.imports f)) t
    else call_own m f (slice_get m.funcs (f - length m.imports)) t

abbrev pub call_if_same : Module → ℕ → Option FuncType → Option FuncType → Thread → AfterStep
call_if_same m f None wanted t = Stops Sticks
call_if_same m f (Some type) None t = Stops Sticks
call_if_same m f (Some type) (Some wanted) t = if same_type type wanted then call m f t else at_trap t traps.TypeDiffers

abbrev pub call_element : Module → ℕ → Option (Option ℕ) → Thread → AfterStep
call_element m type None t = at_trap t traps.TableRange
call_element m type (Some None) t = at_trap t traps.EmptyElement
call_element m type (Some (Some f)) t = call_if_same m f (type_of m f) (slice_get m.types type) t

abbrev pub call_indirect : ℕ → Store → Thread → AfterStep
call_indirect type g t =
    with_top t (λ v t'. on_i32 v (λ i. call_element g.«module» type (slice_get g.table i) t'))

-- ---- the rows, one for each instruction i, which the thread has passed

abbrev pub instr_row : Tree → Thread → Store → ThreadAndStore
instr_row Unreachable t g = store_stays g (at_trap t traps.Unreachable)
instr_row Nop t g = store_stays g (Goes t)
instr_row (Block gives body) t g = store_stays g (Goes (opened_level t gives body t.todo (is_some gives) false))
instr_row (Loop gives body) t g = store_stays g (Goes (opened_level t gives body body false true))
instr_row (If gives on_true on_false) t g = store_stays g (choose gives on_true on_false t)
instr_row (Br n) t g = store_stays g (branch n t)
instr_row (BrIf n) t g = store_stays g (branch_if n t)
instr_row (BrTable labels default) t g = store_stays g (branch_table labels default t)
instr_row Return t g = store_stays g (leave_frame t)
instr_row (CallFunc f) t g = store_stays g (call g.«module» f t)
instr_row (CallIndirect type) t g = store_stays g (call_indirect type g t)
instr_row DropTop t g = store_stays g (drop_top t)
instr_row Select t g = store_stays g (select t)
instr_row (LocalGet x) t g = store_stays g (local_get x t)
instr_row (LocalSet x) t g = store_stays g (local_set x t)
instr_row (LocalTee x) t g = store_stays g (local_tee x t)
instr_row (GlobalGet x) t g = store_stays g (global_get x g t)
instr_row (GlobalSet x) t g = global_set x g t
instr_row (Load op align offset) t g = store_stays g (load op offset g.memory t)
instr_row (StoreIn op align offset) t g = write op offset g t
instr_row MemorySize t g = store_stays g (memory_size g.memory t)
instr_row MemoryGrow t g = memory_grow g t
instr_row (ConstI32 bits) t g = store_stays g (Goes (with_operand t (I32 bits)))
instr_row (ConstI64 bits) t g = store_stays g (Goes (with_operand t (I64 bits)))
instr_row (ConstF32 bits) t g = store_stays g (Stops Sticks)
instr_row (ConstF64 bits) t g = store_stays g (Stops Sticks)
instr_row (Op op) t g = store_stays g (numeric op t)

-- one instruction; its own trap comes before the limits
abbrev pub reduce_instruction : Tree → Thread → Store → ThreadAndStore
reduce_instruction i t g = let r = instr_row i t g in record { after = limited_thread r.after; store = r.store }
