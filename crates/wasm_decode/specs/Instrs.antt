-- Reading instructions from the front of bytes.
use Rattle.std.specs.Prelude.{ℕ, zero, suc, length, Option, Some, None, Bool, ◌==◌, ◌&&◌, ◌||◌, nat_le, if◌then◌else◌}
use Rattle.fri_bytes.specs.Reading.{byte_at}
use Rattle.wasm_types.specs.declared.code.ValType.{ValType}
use Rattle.wasm_types.specs.Code.{Tree, Trees, Unreachable, Nop, Block, Loop, If, Br, BrIf, BrTable, Return, CallFunc, CallIndirect, DropTop, Select, LocalGet, LocalSet, LocalTee, GlobalGet, GlobalSet, Load, Store, MemorySize, MemoryGrow, ConstI32, ConstI64, ConstF32, ConstF64, Op, End, Then}
use Rattle.wasm_decode.specs.Values.{Reader, ◌>>=◌, u32_at, i32_at, i64_at, f32_at, f64_at, exact_byte_at, vector_at, result_type_at}

-- instructions with the byte that ends them, 05 or 0B
abbrev pub EndedInstructions : Type 0
EndedInstructions = Trees × ℕ

-- instructions that 0B ends
unfoldable pub whole_at : Reader EndedInstructions → Reader Trees
whole_at inner bytes = do
  b ← inner bytes
  if b.0.1 == 0x0b then Some (b.0.0, b.1) else None

-- a block or a loop
unfoldable pub block_at : (Option ValType → Trees → Tree) → Reader EndedInstructions → Reader Tree
block_at make inner bytes = do
  result ← result_type_at bytes
  body ← whole_at inner result.1
  Some (make result.0 body.0, body.1)

-- an `if`, with a second branch where 05 ends the first
unfoldable pub if_at : Reader EndedInstructions → Reader Tree
if_at inner bytes = do
  result ← result_type_at bytes
  first ← inner result.1
  if first.0.1 == 0x0b then Some (If result.0 first.0.0 End, first.1) else (do
    second ← whole_at inner first.1
    Some (If result.0 first.0.0 second.0, second.1))

-- an instruction with one number
abbrev pub with_number : Reader ℕ → (ℕ → Tree) → Reader Tree
with_number read make bytes = do
  n ← read bytes
  Some (make n.0, n.1)

-- an instruction that the byte 00 ends
unfoldable pub zero_at : Tree → Reader Tree
zero_at tree bytes = do
  rest ← exact_byte_at 0x00 bytes
  Some (tree, rest)

-- a `br_table`
unfoldable pub br_table_at : Reader Tree
br_table_at bytes = do
  labels ← vector_at u32_at bytes
  default ← u32_at labels.1
  Some (BrTable labels.0 default.0, default.1)

-- a `call_indirect`
unfoldable pub indirect_at : Reader Tree
indirect_at bytes = do
  type ← u32_at bytes
  zero_at (CallIndirect type.0) type.1

-- a load or a store
unfoldable pub access_at : (ℕ → ℕ → Tree) → Reader Tree
access_at make bytes = do
  align ← u32_at bytes
  offset ← u32_at align.1
  Some (make align.0 offset.0, offset.1)

-- ---- an instruction with none inside it, after its first byte

-- a control instruction
unfoldable pub control_at : ℕ → Reader Tree
control_at opcode bytes =
    if opcode == 0x00 then Some (Unreachable, bytes) else
    (if opcode == 0x01 then Some (Nop, bytes) else
    (if opcode == 0x0c then with_number u32_at Br bytes else
    (if opcode == 0x0d then with_number u32_at BrIf bytes else
    (if opcode == 0x0e then br_table_at bytes else
    (if opcode == 0x0f then Some (Return, bytes) else
    (if opcode == 0x10 then with_number u32_at CallFunc bytes else
    (if opcode == 0x11 then indirect_at bytes else None)))))))

-- a parametric instruction or one on variables
unfoldable pub variable_instr_at : ℕ → Reader Tree
variable_instr_at opcode bytes =
    if opcode == 0x1a then Some (DropTop, bytes) else
    (if opcode == 0x1b then Some (Select, bytes) else
    (if opcode == 0x20 then with_number u32_at LocalGet bytes else
    (if opcode == 0x21 then with_number u32_at LocalSet bytes else
    (if opcode == 0x22 then with_number u32_at LocalTee bytes else
    (if opcode == 0x23 then with_number u32_at GlobalGet bytes else
    (if opcode == 0x24 then with_number u32_at GlobalSet bytes else None))))))

-- a memory instruction
unfoldable pub memory_at : ℕ → Reader Tree
memory_at opcode bytes =
    if nat_le 0x28 opcode && nat_le opcode 0x35 then access_at (Load opcode) bytes else
    (if nat_le 0x36 opcode && nat_le opcode 0x3e then access_at (Store opcode) bytes else
    (if opcode == 0x3f then zero_at MemorySize bytes else
    (if opcode == 0x40 then zero_at MemoryGrow bytes else None)))

-- a numeric instruction
unfoldable pub numeric_at : ℕ → Reader Tree
numeric_at opcode bytes =
    if opcode == 0x41 then with_number i32_at ConstI32 bytes else
    (if opcode == 0x42 then with_number i64_at ConstI64 bytes else
    (if opcode == 0x43 then with_number f32_at ConstF32 bytes else
    (if opcode == 0x44 then with_number f64_at ConstF64 bytes else
    (if nat_le 0x45 opcode && nat_le opcode 0xc4 then Some (Op opcode, bytes) else None))))

-- one of these
unfoldable pub plain_at : ℕ → Reader Tree
plain_at opcode bytes =
    if nat_le opcode 0x11 then control_at opcode bytes else
    (if nat_le opcode 0x24 then variable_instr_at opcode bytes else
    (if nat_le opcode 0x40 then memory_at opcode bytes else numeric_at opcode bytes))

-- ---- instructions

-- an instruction after its first byte, where `inner` reads the instructions of a block
unfoldable pub instr_at : Reader EndedInstructions → ℕ → Reader Tree
instr_at inner opcode bytes =
    if opcode == 0x02 then block_at Block inner bytes else
    (if opcode == 0x03 then block_at Loop inner bytes else
    (if opcode == 0x04 then if_at inner bytes else plain_at opcode bytes))

-- 0B ends instructions, and so does 05
abbrev pub is_end_opcode : ℕ → Bool
is_end_opcode b = b == 0x0b || b == 0x05

-- at most so many instructions and their end
unfoldable pub sequence_at : Reader EndedInstructions → ℕ → Reader EndedInstructions
sequence_at inner zero bytes = None
sequence_at inner (suc count) bytes = do
  b ← byte_at bytes
  if is_end_opcode b.0 then Some ((End, b.0), b.1) else (do
    first ← instr_at inner b.0 b.1
    others ← sequence_at inner count first.1
    Some ((Then first.0 others.0.0, others.0.1), others.1))

-- instructions and their end, in less than this many levels; each of them takes a byte at least
unfoldable pub levels_at : ℕ → Reader EndedInstructions
levels_at zero bytes = None
levels_at (suc less) bytes = sequence_at (levels_at less) (length bytes) bytes

-- an expression, with the levels of blocks that nest at most 1,000 deep
unfoldable pub expression_at : Reader Trees
expression_at = whole_at (levels_at 1001)
