-- Instructions as contracts see them: trees, with lists where the program has vectors.
use Rattle.std.specs.Prelude.{ℕ, List, [], ◌∷◌, Option}
use Rattle.wasm_types.specs.declared.code.ValType.{ValType}
use Rattle.wasm_types.specs.declared.code.Instr.{Instr, Row_of-Instr, end_of-Instr, more_of-Instr}
use Rattle.wasm_types.specs.declared.code.Instr as instr

mutual
  -- an instruction with those inside it
  pub data Tree : Type 0 where
    Unreachable : Tree
    Nop : Tree
    Block : (result : Option ValType) → (body : Trees) → Tree
    Loop : (result : Option ValType) → (body : Trees) → Tree
    If : (result : Option ValType) → (on_true on_false : Trees) → Tree
    Br : (label : ℕ) → Tree
    BrIf : (label : ℕ) → Tree
    BrTable : (labels : List ℕ) → (default : ℕ) → Tree
    Return : Tree
    CallFunc : (func : ℕ) → Tree
    CallIndirect : (type : ℕ) → Tree
    DropTop : Tree
    Select : Tree
    LocalGet : (local : ℕ) → Tree
    LocalSet : (local : ℕ) → Tree
    LocalTee : (local : ℕ) → Tree
    GlobalGet : (global : ℕ) → Tree
    GlobalSet : (global : ℕ) → Tree
    Load : (opcode align offset : ℕ) → Tree
    Store : (opcode align offset : ℕ) → Tree
    MemorySize : Tree
    MemoryGrow : Tree
    ConstI32 : (bits : ℕ) → Tree
    ConstI64 : (bits : ℕ) → Tree
    ConstF32 : (bits : ℕ) → Tree
    ConstF64 : (bits : ℕ) → Tree
    Op : (opcode : ℕ) → Tree

  -- a sequence of instructions
  pub data Trees : Type 0 where
    End : Trees
    Then : (first : Tree) → (rest : Trees) → Trees

abbrev mutual
  -- the tree of an instruction
  pub tree : Instr → Tree
  tree instr.Unreachable = Unreachable
  tree instr.Nop = Nop
  tree (instr.Block' result n body) = Block result (trees_of_row body)
  tree (instr.Loop' result n body) = Loop result (trees_of_row body)
  tree (instr.If' result n on_true m on_false) = If result (trees_of_row on_true) (trees_of_row on_false)
  tree (instr.Br label) = Br label
  tree (instr.BrIf label) = BrIf label
  tree (instr.BrTable labels default) = BrTable labels.items default
  tree instr.Return = Return
  tree (instr.CallFunc func) = CallFunc func
  tree (instr.CallIndirect type) = CallIndirect type
  tree instr.DropTop = DropTop
  tree instr.Select = Select
  tree (instr.LocalGet local) = LocalGet local
  tree (instr.LocalSet local) = LocalSet local
  tree (instr.LocalTee local) = LocalTee local
  tree (instr.GlobalGet global) = GlobalGet global
  tree (instr.GlobalSet global) = GlobalSet global
  tree (instr.Load opcode align offset) = Load opcode align offset
  tree (instr.Store opcode align offset) = Store opcode align offset
  tree instr.MemorySize = MemorySize
  tree instr.MemoryGrow = MemoryGrow
  tree (instr.ConstI32 bits) = ConstI32 bits
  tree (instr.ConstI64 bits) = ConstI64 bits
  tree (instr.ConstF32 bits) = ConstF32 bits
  tree (instr.ConstF64 bits) = ConstF64 bits
  tree (instr.Op opcode) = Op opcode

  -- the trees of the elements of a vector inside an instruction
  pub trees_of_row : {m : _} → Row_of-Instr m → Trees
  trees_of_row end_of-Instr = End
  trees_of_row (more_of-Instr first rest) = Then (tree first) (trees_of_row rest)

-- the instructions of a list in front of others
abbrev pub instructions_before : List Instr → Trees → Trees
instructions_before [] rest = rest
instructions_before (first ∷ others) rest = Then (tree first) (instructions_before others rest)

-- the instructions of a list
abbrev pub trees : List Instr → Trees
trees instrs = instructions_before instrs End
