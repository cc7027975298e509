-- No instruction changes the module.
use Rattle.std.proofs.Common.{◌≡◌, ℕ, ◌+◌, Bool, true, false, List, [], ◌∷◌, Option, Some, None, refl}
use Rattle.std.specs.Prelude.{length, nat_lt, if◌then◌else◌}
use Rattle.wasm_types.specs.declared.code.Value.{Value}
use Rattle.wasm_types.specs.declared.code.Value.TheVariants.{I32, I64}
use Rattle.wasm_types.specs.Code.{Tree, Unreachable, Nop, Block, Loop, If, Br, BrIf, BrTable, Return, CallFunc, CallIndirect, DropTop, Select, LocalGet, LocalSet, LocalTee, GlobalGet, GlobalSet, Load, Store as StoreIn, MemorySize, MemoryGrow, ConstI32, ConstI64, ConstF32, ConstF64, Op}
use Rattle.wasm_types.specs.Modules.{Module}
use Rattle.wasm_values.specs.Access.{store_width}
use Rattle.wasm_values.specs.Values.{bits_of}
use Rattle.wasm_step.specs.Reduce.{ThreadAndStore, reduce_instruction, set_global, write_at, write_value, write_top, grow_top}
use Rattle.wasm_store.specs.Store.{Store}
use Rattle.wasm_stack.specs.Thread.{Thread}

choice_module : (b : Bool) (p q : ThreadAndStore) (m : Module) → p.store.«module» ≡ m → q.store.«module» ≡ m → (if b then p else q).store.«module» ≡ m
choice_module true p q m hp hq = hp
choice_module false p q m hp hq = hq

set_module : (x : ℕ) (g : Store) (stack : List Value) (t : Thread) → (set_global x g stack t).store.«module» ≡ g.«module»
set_module x g [] t = refl
set_module x g (v ∷ rest) t = choice_module (nat_lt x (length g.globals)) _ _ g.«module» refl refl

write_at_module : (width : Option ℕ) (addr bits : ℕ) (g : Store) (t : Thread) → (write_at width addr bits g t).store.«module» ≡ g.«module»
write_at_module None addr bits g t = refl
write_at_module (Some width) addr bits g t = refl

write_value_module : (op offset : ℕ) (v : Value) (stack : List Value) (g : Store) (t : Thread) → (write_value op offset v stack g t).store.«module» ≡ g.«module»
write_value_module op offset v [] g t = refl
write_value_module op offset v (I64 base ∷ rest) g t = refl
write_value_module op offset v (I32 base ∷ rest) g t =
    write_at_module (store_width op v) (base + offset) (bits_of (Some v)) g (record t { stack = rest })

write_module : (op offset : ℕ) (stack : List Value) (g : Store) (t : Thread) → (write_top op offset stack g t).store.«module» ≡ g.«module»
write_module op offset [] g t = refl
write_module op offset (v ∷ rest) g t = write_value_module op offset v rest g t

grow_module : (stack : List Value) (g : Store) (t : Thread) → (grow_top stack g t).store.«module» ≡ g.«module»
grow_module [] g t = refl
grow_module (I64 x ∷ rest) g t = refl
grow_module (I32 x ∷ rest) g t = refl

-- an instruction leaves the module as it is
pub keeps_module : (i : Tree) (t : Thread) (g : Store) → (reduce_instruction i t g).store.«module» ≡ g.«module»
keeps_module Unreachable t g = refl
keeps_module Nop t g = refl
keeps_module (Block gives body) t g = refl
keeps_module (Loop gives body) t g = refl
keeps_module (If gives on_true on_false) t g = refl
keeps_module (Br n) t g = refl
keeps_module (BrIf n) t g = refl
keeps_module (BrTable labels default) t g = refl
keeps_module Return t g = refl
keeps_module (CallFunc f) t g = refl
keeps_module (CallIndirect type) t g = refl
keeps_module DropTop t g = refl
keeps_module Select t g = refl
keeps_module (LocalGet x) t g = refl
keeps_module (LocalSet x) t g = refl
keeps_module (LocalTee x) t g = refl
keeps_module (GlobalGet x) t g = refl
keeps_module (GlobalSet x) t g = set_module x g t.stack t
keeps_module (Load op align offset) t g = refl
keeps_module (StoreIn op align offset) t g = write_module op offset t.stack g t
keeps_module MemorySize t g = refl
keeps_module MemoryGrow t g = grow_module t.stack g t
keeps_module (ConstI32 bits) t g = refl
keeps_module (ConstI64 bits) t g = refl
keeps_module (ConstF32 bits) t g = refl
keeps_module (ConstF64 bits) t g = refl
keeps_module (Op op) t g = refl
