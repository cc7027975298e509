use Rattle.wasm_step.proofs.RuledThreads.{has_place}
use Rattle.wasm_step.proofs.calls.call_indirect_in_place.Goals as goal

pub last_i32-requires : goal.last_i32-requires
last_i32-requires c = has_place c.args.type_index c.args.store.now c.args.thread.now c.requires.rule
