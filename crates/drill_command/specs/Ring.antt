-- The module `ring`: each process of it takes a number from the process before, adds one, and sends it to the next. How
-- often it did so is in its memory at 1024. Process 0 sends first.
use Rattle.std.specs.Prelude.{ℕ, List, [], ◌∷◌, Some, None, codes, replicate}
use Rattle.wasm_types.specs.declared.code.ValType.TheVariants.{I32}
use Rattle.wasm_types.specs.declared.modules.ExportDesc.TheVariants as exported
use Rattle.wasm_types.specs.declared.modules.ImportDesc.TheVariants as imported
use Rattle.wasm_types.specs.Code.{Tree, Trees, End, Then, If, Loop, Br, CallFunc, DropTop, LocalGet, LocalSet, Load, Store, ConstI32, ConstI64, Op}
use Rattle.wasm_types.specs.Modules.{FuncType, Import, Module}

-- instructions one after the other
abbrev pub instruction_sequence : List Tree → Trees
instruction_sequence [] = End
instruction_sequence (first ∷ rest) = Then first (instruction_sequence rest)

-- ---- the functions, by their numbers

-- no parameter and an i32; three of them and an i32; nothing
abbrev pub ring_types : List FuncType
ring_types =
    record { params = []; results = I32 ∷ [] }
    ∷ record { params = replicate 3 I32; results = I32 ∷ [] }
    ∷ record { params = []; results = [] }
    ∷ []

abbrev pub library_call : List ℕ → ℕ → Import
library_call name type = record { «module» = codes "liblog"; name = name; desc = imported.Func type }

abbrev pub call_me : Tree
call_me = CallFunc 0

abbrev pub call_send : Tree
call_send = CallFunc 1

abbrev pub call_recv : Tree
call_recv = CallFunc 2

-- ---- the code

-- i32.eqz, i32.add, i32.and, i64.add; and i64.load and i64.store
abbrev pub eqz : Tree
eqz = Op 69

abbrev pub add_32 : Tree
add_32 = Op 106

abbrev pub and_32 : Tree
and_32 = Op 113

abbrev pub add_64 : Tree
add_64 = Op 124

abbrev pub load_64 : Tree
load_64 = Load 41 3 0

abbrev pub store_64 : Tree
store_64 = Store 55 3 0

-- the 8 bytes at 64 go to process 1
abbrev pub ring_send_first : Trees
ring_send_first = instruction_sequence (ConstI32 1 ∷ ConstI32 64 ∷ ConstI32 8 ∷ call_send ∷ DropTop ∷ [])

-- 8 bytes come to 64, and the sender's number to 32; one is added there, and one at 1024; and they go to the next process
abbrev pub ring_hand_on : Trees
ring_hand_on = instruction_sequence (
    ConstI32 64 ∷ ConstI32 8 ∷ ConstI32 32 ∷ call_recv ∷ DropTop
    ∷ ConstI32 64 ∷ ConstI32 64 ∷ load_64 ∷ ConstI64 1 ∷ add_64 ∷ store_64
    ∷ ConstI32 1024 ∷ ConstI32 1024 ∷ load_64 ∷ ConstI64 1 ∷ add_64 ∷ store_64
    ∷ LocalGet 0 ∷ ConstI32 1 ∷ add_32 ∷ ConstI32 3 ∷ and_32 ∷ ConstI32 64 ∷ ConstI32 8 ∷ call_send ∷ DropTop
    ∷ Br 0 ∷ [])

abbrev pub ring_body : Trees
ring_body = instruction_sequence (call_me ∷ LocalSet 0 ∷ LocalGet 0 ∷ eqz ∷ If None ring_send_first End ∷ Loop None ring_hand_on ∷ [])

abbrev pub ring_module : Module
ring_module = record {
  types = ring_types;
  imports = library_call (codes "me") 0 ∷ library_call (codes "send") 1 ∷ library_call (codes "recv") 1 ∷ [];
  funcs = record { type_index = 2; locals = (1, I32) ∷ []; body = ring_body } ∷ [];
  tables = [];
  mems = record { min = 1; max = Some 1 } ∷ [];
  globals = [];
  exports = record { name = codes "_start"; desc = exported.Func 3 } ∷ [];
  start = None;
  elems = [];
  segments = [];
}
