use Rattle.wasm_store.proofs.SegmentsFit.{value_read}
use Rattle.wasm_store.proofs.start.first_value.Goals as goal

pub returns : goal.returns
returns c =
    let found = c.in-Some.ensures.lookup in
    value_read c.args.globals.now c.args.index c.in-Some.global.now c.initial_value.result found.3.0 found.1 c.initial_value.ensures
