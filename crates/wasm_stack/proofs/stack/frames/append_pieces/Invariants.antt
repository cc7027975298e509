use Rattle.std.proofs.Common.{◌≡◌, ◌+◌, ◌≤◌, ◌++◌, length}
use Rattle.std.specs.Vec.{vec_capacity}
use Rattle.wasm_stack.proofs.stack.frames.append_pieces.Given as goal

-- what is appended and what is left make the whole, and there is room for what is left
abbrev pub invariant-loop-rest : goal.invariant-loop-rest
invariant-loop-rest l = record {
  whole : l.items.items ++ l.rest ≡ l.initial.items.items ++ l.more;
  reserved : length l.items.items + length l.rest ≤ vec_capacity l.items;
  capacity : vec_capacity l.initial.items ≤ vec_capacity l.items;
}

abbrev pub decreases-loop-rest : goal.decreases-loop-rest
decreases-loop-rest l = length l.rest
