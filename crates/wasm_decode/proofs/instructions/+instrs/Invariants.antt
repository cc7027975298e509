use Rattle.std.proofs.Common.{◌≡◌, ◌+◌, ◌-◌, ◌*◌, ◌≤◌, length}
use Rattle.wasm_decode.specs.Instrs.{sequence_at, levels_at}
use Rattle.wasm_decode.proofs.InstrLoop.{with_front}
use Rattle.wasm_decode.proofs.instructions.+instrs.Given as goal

abbrev pub decreases-instr : goal.decreases-instr
decreases-instr l = 3 * l.levels + 2

abbrev pub decreases-sequence : goal.decreases-sequence
decreases-sequence l = 3 * l.levels

abbrev pub decreases-whole : goal.decreases-whole
decreases-whole l = 3 * l.levels + 1

abbrev pub invariant-sequence-loop-opcode : goal.invariant-sequence-loop-opcode
invariant-sequence-loop-opcode l = record {
  so_far : with_front l.instrs.items (sequence_at (levels_at (l.levels - 1)) (length l.fn.cursor.left - length l.instrs.items) l.cursor.left) ≡ levels_at l.levels l.fn.cursor.left;
  room : length l.cursor.left + length l.instrs.items ≤ length l.fn.cursor.left;
}

abbrev pub decreases-sequence-loop-opcode : goal.decreases-sequence-loop-opcode
decreases-sequence-loop-opcode l = length l.cursor.left
