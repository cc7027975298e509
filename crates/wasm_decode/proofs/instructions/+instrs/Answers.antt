use Rattle.std.proofs.Common.{◌≡◌, ℕ, zero, suc, ◌<◌, ◌≤◌, ◌⊎◌, ◌-◌, ◌∷◌, [], ◌++◌, length, true, false, refl, ap, arith, length-append, inl, inr}
use Rattle.std.proofs.lemmas.Bool.{ne_eqb}
use Rattle.std.proofs.lemmas.Result.{err_from_is_err_and}
use Rattle.wasm_types.specs.Code.{tree}
use Rattle.wasm_decode.specs.Instrs.{is_end_opcode, levels_at}
use Rattle.wasm_decode.proofs.ReaderSteps.{byte_takes}
use Rattle.wasm_decode.proofs.InstrLoop.{block_made, loop_made, if_made_one, if_made_two, pushed, starts, no_levels, no_byte, ended, no_instr, more, shorter}
use Rattle.wasm_decode.proofs.instructions.+instrs.Goals as goal
use Rattle.wasm_decode.proofs.instructions.+instrs.Goals.{instr-then-end-ne-END+in_ok-whole-in-4, instr-else-end-ne-END, sequence-then-opcode-eq-END-via-then-opcode-eq-END, sequence-then-opcode-eq-END-via-else-opcode-eq-END+then-opcode-eq-ELSE}

two_or_three : (n : ℕ) → 2 ≤ n → n < 4 → (n ≡ 2) ⊎ (n ≡ 3)
two_or_three zero least most = absurd (omega (arith, least))
two_or_three (suc zero) least most = absurd (omega (arith, least))
two_or_three (suc (suc zero)) least most = inl refl
two_or_three (suc (suc (suc zero))) least most = inr refl
two_or_three (suc (suc (suc (suc n)))) least most = absurd (omega (arith, most))

pub instr-returns-in_ok-whole-in-2 : goal.instr-returns-in_ok-whole-in-2
instr-returns-in_ok-whole-in-2 t c = elim (two_or_three c.args.opcode (omega arith) (omega arith)) [
  | inl block ↦
      pushed _ _ _ _ _ _ (c.push_nested.ensures.block block)
      (block_made (levels_at c.args.levels) c.args.opcode c.args.cursor.now.left c.result_type-in-2.new.cursor.left c.whole-in-2.new.cursor.left c.in_ok-label-in-2.label c.whole-in-2.new.instrs
      block c.in_ok-label-in-2.ensures c.in_ok-whole-in-2.ensures)
  | inr loops ↦
      pushed _ _ _ _ _ _ (c.push_nested.ensures.loops loops)
      (loop_made (levels_at c.args.levels) c.args.opcode c.args.cursor.now.left c.result_type-in-2.new.cursor.left c.whole-in-2.new.cursor.left c.in_ok-label-in-2.label c.whole-in-2.new.instrs
      loops c.in_ok-label-in-2.ensures c.in_ok-whole-in-2.ensures)
]

pub instr-returns-after-end-ne-END : goal.instr-returns-after-end-ne-END
instr-returns-after-end-ne-END t c =
    pushed _ _ _ _ _ _ c.push_if.ensures (elim c.if-end-ne-END.branch [
      | instr-then-end-ne-END+in_ok-whole-in-4 w ↦
          if_made_two (levels_at c.args.levels) c.args.opcode c.args.cursor.now.left c.result_type.new.cursor.left c.sequence.new.cursor.left _ c.in_ok-label-in-4.label c.sequence.new.instrs c.if-end-ne-END.on_false c.in_ok-end-in-4.end
          c.in-4.is c.in_ok-label-in-4.ensures c.in_ok-end-in-4.ensures (ne_eqb c.in_ok-end-in-4.end 0x0b w.if-end-ne-END.true) (rw (w.cursor-is, w.on_false-is) w.in_ok-whole-in-4.ensures)
      | instr-else-end-ne-END w ↦
          rw w.cursor-is
          (if_made_one (levels_at c.args.levels) c.args.opcode c.args.cursor.now.left c.result_type.new.cursor.left c.sequence.new.cursor.left c.in_ok-label-in-4.label c.sequence.new.instrs c.if-end-ne-END.on_false c.in_ok-end-in-4.end
          c.in-4.is c.in_ok-label-in-4.ensures c.in_ok-end-in-4.ensures w.if-end-ne-END.false (rw w.on_false-is c.new-on_false.ensures.items))
    ])

pub sequence-returns-then-levels-eq0 : goal.sequence-returns-then-levels-eq0
sequence-returns-then-levels-eq0 t c = no_levels c.args.levels c.args.cursor.now.left c.if-levels-eq0.true

pub sequence-loop-opcode-init : goal.sequence-loop-opcode-init
sequence-loop-opcode-init t c =
    rw c.requires (record { so_far = starts c.args.levels c.args.cursor.now.left c.if-levels-eq0.false; room = omega arith })

pub sequence-returns-in_err-opcode : goal.sequence-returns-in_err-opcode
sequence-returns-in_err-opcode t c =
    let p = err_from_is_err_and c.from_residual.result c.from_residual.ensures.1 in
    rw (p.1, p.2) (no_byte c.in_err-opcode.field-0.0 (c.args.levels - 1) _ c.loop-opcode.instrs.items c.loop-opcode.cursor.left _ c.in_err-opcode.ensures c.loop-opcode.invariant.so_far)

pub sequence-returns-then-opcode-eq-END : goal.sequence-returns-then-opcode-eq-END
sequence-returns-then-opcode-eq-END t c =
    let taken = ap length (byte_takes c.loop-opcode.cursor.left c.in_ok-opcode.opcode c.byte.new.cursor.left c.in_ok-opcode.ensures) in
    let ends : is_end_opcode c.in_ok-opcode.opcode ≡ true = elim c.then-opcode-eq-END.branch [
      | sequence-then-opcode-eq-END-via-then-opcode-eq-END w ↦ rw w.if-opcode-eq-END.true refl
      | sequence-then-opcode-eq-END-via-else-opcode-eq-END+then-opcode-eq-ELSE w ↦ rw w.if-opcode-eq-ELSE.true refl
    ] in
    ended (c.args.levels - 1) _ c.loop-opcode.instrs.items c.loop-opcode.cursor.left c.in_ok-opcode.opcode c.byte.new.cursor.left _ (omega (arith, taken, c.loop-opcode.invariant.room)) c.in_ok-opcode.ensures ends c.loop-opcode.invariant.so_far

pub sequence-returns-in_err-instr : goal.sequence-returns-in_err-instr
sequence-returns-in_err-instr t c =
    let p = err_from_is_err_and c.from_residual-in_err-instr.result c.from_residual-in_err-instr.ensures.1 in
    let goes_on : is_end_opcode c.in_ok-opcode.opcode ≡ false = rw (ne_eqb c.in_ok-opcode.opcode 0x0b c.if-opcode-eq-END.false, ne_eqb c.in_ok-opcode.opcode 0x05 c.if-opcode-eq-ELSE.false) refl in
    rw (p.1, p.2) (no_instr c.in_err-instr.field-0.0 (c.args.levels - 1) _ c.loop-opcode.instrs.items c.loop-opcode.cursor.left c.in_ok-opcode.opcode c.byte.new.cursor.left _ c.in_ok-opcode.ensures goes_on c.in_err-instr.ensures c.loop-opcode.invariant.so_far)

pub sequence-loop-opcode-smaller : goal.sequence-loop-opcode-smaller
sequence-loop-opcode-smaller t c =
    let made = c.in_ok-instr.ensures in
    shorter c.exact_readers.ensures (c.args.levels - 1) c.loop-opcode.cursor.left c.in_ok-opcode.opcode c.byte.new.cursor.left (tree made.0) c.instr.new.cursor.left c.in_ok-opcode.ensures made.2

pub sequence-loop-opcode-preserved : goal.sequence-loop-opcode-preserved
sequence-loop-opcode-preserved t c =
    let start = length c.args.cursor.now.left in
    let items = c.loop-opcode.instrs.items in
    let made = c.in_ok-instr.ensures in
    let goes_on : is_end_opcode c.in_ok-opcode.opcode ≡ false = rw (ne_eqb c.in_ok-opcode.opcode 0x0b c.if-opcode-eq-END.false, ne_eqb c.in_ok-opcode.opcode 0x05 c.if-opcode-eq-ELSE.false) refl in
    let less = shorter c.exact_readers.ensures (c.args.levels - 1) c.loop-opcode.cursor.left c.in_ok-opcode.opcode c.byte.new.cursor.left (tree made.0) c.instr.new.cursor.left c.in_ok-opcode.ensures made.2 in
    let fuel : start - length (items ++ made.0 ∷ []) ≡ start - length items - 1 = omega (arith, length-append items (made.0 ∷ [])) in
    let next = more (c.args.levels - 1) (start - length items) items c.loop-opcode.cursor.left c.in_ok-opcode.opcode c.byte.new.cursor.left made.0 c.instr.new.cursor.left _ (omega (arith, less, c.loop-opcode.invariant.room)) c.in_ok-opcode.ensures goes_on made.2 c.loop-opcode.invariant.so_far in
    rw made.1 (record { so_far = rw fuel next; room = omega (arith, less, c.loop-opcode.invariant.room, length-append items (made.0 ∷ [])) })
