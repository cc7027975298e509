-- The stacks of the open blocks, which lie in one list of operands, cut at the frames' heights.
use Rattle.std.specs.Prelude.{◌≤◌, List, [], ◌∷◌, length, reverse, take, drop}
use Rattle.wasm_types.specs.Stack.{Operand, BlockStack}
use Rattle.wasm_typing.specs.declared.operands.Frame.{Frame}

-- the stacks of the blocks that are open: the innermost, and those around it, from the inside out
pub record Blocks : Type 0 where
  pub current : BlockStack
  pub outer : List BlockStack

-- the stack above a frame's height
abbrev pub stack_above : Frame → List Operand → BlockStack
stack_above f types = record { types = reverse (drop f.height types); after_jump = f.after_jump }

abbrev pub stacks_of : List Frame → List Operand → List BlockStack
stacks_of [] types = []
stacks_of (f ∷ fs) types = stack_above f types ∷ stacks_of fs (take f.height types)

-- each height lies within what is below
abbrev pub AreHeights : List Frame → List Operand → Type 0
AreHeights [] types = Unit {0}
AreHeights (f ∷ fs) types = (f.height ≤ length types) × AreHeights fs (take f.height types)

-- the frames come from the inside out
abbrev pub blocks_of : Frame → List Frame → List Operand → Blocks
blocks_of f fs types = record { current = stack_above f types; outer = stacks_of fs (take f.height types) }
