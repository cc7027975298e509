-- The stack after an instruction of the program's that holds others.
use Rattle.std.proofs.Common.{◌≡◌, ◌∷◌, Vec, Global, Option, None, ap}
use Rattle.wasm_types.specs.CodeLaws.{tree-block, tree-loop, tree-if}
use Rattle.wasm_types.specs.Code.{Tree, tree, trees}
use Rattle.wasm_types.specs.declared.code.ValType.{ValType}
use Rattle.wasm_types.specs.declared.code.Instr.{Instr, Block, Loop, If}
use Rattle.wasm_types.specs.Context.{Context}
use Rattle.wasm_types.specs.Labels.{Labels, block_of, stack_after_choice}
use Rattle.wasm_types.specs.Stack.{BlockStack, no_operands}
use Rattle.wasm_types.specs.Typing.{typed_instr, typed_instrs}

module _ (context : Context) (labels : Labels) (s : BlockStack) where
  abbrev from_here : Tree → Option BlockStack
  from_here t = typed_instr context t labels s

  pub after-block : (result : Option ValType) (body : Vec Instr Global) →
      typed_instr context (tree (Block result body)) labels s
      ≡ block_of result (typed_instrs context (trees body.items) (result ∷ labels) no_operands) s
  after-block result body = ap from_here (tree-block result body)

  pub after-loop : (result : Option ValType) (body : Vec Instr Global) →
      typed_instr context (tree (Loop result body)) labels s
      ≡ block_of result (typed_instrs context (trees body.items) (None ∷ labels) no_operands) s
  after-loop result body = ap from_here (tree-loop result body)

  pub after-if : (result : Option ValType) (on_true on_false : Vec Instr Global) →
      typed_instr context (tree (If result on_true on_false)) labels s
      ≡ stack_after_choice result
      (typed_instrs context (trees on_true.items) (result ∷ labels) no_operands)
      (typed_instrs context (trees on_false.items) (result ∷ labels) no_operands) s
  after-if result on_true on_false = ap from_here (tree-if result on_true on_false)
