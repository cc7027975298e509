use Rattle.std.proofs.Common.{sym, ap, ◌∙◌}
use Rattle.std.proofs.lemmas.Result.{IfOk-weaker}
use Rattle.wasm_step.specs.Reduce.{ThreadAndStore}
use Rattle.wasm_stack.specs.After.{Goes, limited_thread}
use Rattle.wasm_stack.specs.Thread.{Thread}
use Rattle.wasm_step.proofs.LevelEnds.{row_enters, row_chooses}
use Rattle.wasm_step.proofs.step.instr_row.Goals as goal

pub returns-in_ok-open-in-Block-clause-after : goal.returns-in_ok-open-in-Block-clause-after
returns-in_ok-open-in-Block-clause-after c =
    ap (λ (t : Thread). limited_thread (Goes t)) c.in_ok-open-in-Block.ensures
    ∙ sym (ap (λ (b : ThreadAndStore). limited_thread b.after) (row_enters c.args.instr.now c.in-Block.body c.deref-in-Block.result.now c.args.thread.now c.args.store.now c.in-Block.is c.deref-in-Block.ensures.value))

pub returns-in-If-clause-after : goal.returns-in-If-clause-after
returns-in-If-clause-after c =
    let same = row_chooses c.args.instr.now c.in-If.field-0 c.in-If.on_true c.in-If.on_false c.deref.result.now c.deref-in-If.result.now c.args.thread.now c.args.store.now c.in-If.is c.deref.ensures.value c.deref-in-If.ensures.value in
    IfOk-weaker c.choose.result _ _ (λ a e. ap limited_thread (e ∙ sym (ap (λ (b : ThreadAndStore). b.after) same))) c.choose.ensures
