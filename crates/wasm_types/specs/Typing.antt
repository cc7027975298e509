-- Which code is well typed (WebAssembly 1.0, section 3.3). The code of a block is typed from an empty
-- stack of its own.
use Rattle.std.specs.Prelude.{[], ◌∷◌, Option, Some, None, IsSome}
use Rattle.wasm_types.specs.declared.code.ValType.TheVariants.{I32, I64, F32, F64}
use Rattle.wasm_types.specs.Code.{Tree, Trees, Unreachable, Nop, Block, Loop, If, Br, BrIf, BrTable, Return, CallFunc, CallIndirect, DropTop, Select, LocalGet, LocalSet, LocalTee, GlobalGet, GlobalSet, Load, Store, MemorySize, MemoryGrow, ConstI32, ConstI64, ConstF32, ConstF64, Op, End, Then}
use Rattle.wasm_types.specs.Context.{Context}
use Rattle.wasm_types.specs.Maybe.{◌>>=◌}
use Rattle.wasm_types.specs.Stack.{BlockStack, no_operands, jumped_stack, push_operand, typed_select, typed_drop_top, jump_with, is_exactly}
use Rattle.wasm_types.specs.Labels.{Labels, typed_branch, typed_branch_if, typed_branch_table, block_of, stack_after_choice}
use Rattle.wasm_types.specs.Accesses.{typed_local_get, typed_local_set, typed_local_tee, typed_global_get, typed_global_set, typed_load, typed_store, typed_memory_size, typed_memory_grow}
use Rattle.wasm_types.specs.Calls.{typed_call, typed_call_indirect, typed_operator}

module _ (context : Context) where
  abbrev mutual
    -- the stack after an instruction, if it is well typed from this stack
    pub typed_instr : Tree → Labels → BlockStack → Option BlockStack
    typed_instr Unreachable labels s = Some jumped_stack
    typed_instr Nop labels s = Some s
    typed_instr (Block result body) labels s = block_of result (typed_instrs body (result ∷ labels) no_operands) s
    typed_instr (Loop result body) labels s = block_of result (typed_instrs body (None ∷ labels) no_operands) s
    typed_instr (If result on_true on_false) labels s =
        stack_after_choice result (typed_instrs on_true (result ∷ labels) no_operands) (typed_instrs on_false (result ∷ labels) no_operands) s
    typed_instr (Br n) labels s = typed_branch labels n s
    typed_instr (BrIf n) labels s = typed_branch_if labels n s
    typed_instr (BrTable ns default) labels s = typed_branch_table labels ns default s
    typed_instr Return labels s = jump_with context.gives s
    typed_instr (CallFunc f) labels s = typed_call context.types context.funcs f s
    typed_instr (CallIndirect t) labels s = typed_call_indirect context.has_table context.types t s
    typed_instr DropTop labels s = typed_drop_top s
    typed_instr Select labels s = typed_select s
    typed_instr (LocalGet x) labels s = typed_local_get context.locals x s
    typed_instr (LocalSet x) labels s = typed_local_set context.locals x s
    typed_instr (LocalTee x) labels s = typed_local_tee context.locals x s
    typed_instr (GlobalGet x) labels s = typed_global_get context.globals x s
    typed_instr (GlobalSet x) labels s = typed_global_set context.globals x s
    typed_instr (Load opcode align offset) labels s = typed_load context.has_memory opcode align s
    typed_instr (Store opcode align offset) labels s = typed_store context.has_memory opcode align s
    typed_instr MemorySize labels s = typed_memory_size context.has_memory s
    typed_instr MemoryGrow labels s = typed_memory_grow context.has_memory s
    typed_instr (ConstI32 bits) labels s = Some (push_operand (Some I32) s)
    typed_instr (ConstI64 bits) labels s = Some (push_operand (Some I64) s)
    typed_instr (ConstF32 bits) labels s = Some (push_operand (Some F32) s)
    typed_instr (ConstF64 bits) labels s = Some (push_operand (Some F64) s)
    typed_instr (Op opcode) labels s = typed_operator opcode s

    -- the stack after these instructions, if they are well typed from this stack
    pub typed_instrs : Trees → Labels → BlockStack → Option BlockStack
    typed_instrs End labels s = Some s
    typed_instrs (Then first rest) labels s = typed_instr first labels s >>= typed_instrs rest labels

  -- the body of a function leaves exactly the function's result
  abbrev pub IsWellTyped : Trees → Type 0
  IsWellTyped body = IsSome (typed_instrs body (context.gives ∷ []) no_operands >>= is_exactly context.gives)
