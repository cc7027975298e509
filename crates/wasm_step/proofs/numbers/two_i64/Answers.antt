use Rattle.wasm_step.proofs.RuledNumbers.{two_i64}
use Rattle.wasm_step.proofs.numbers.two_i64.Goals as goal

pub as_long-x-requires : goal.as_long-x-requires
as_long-x-requires c =
    let two = two_i64 c.args.op c.args.k c.args.thread.now c.requires.same c.requires.rule c.requires.takes c.requires.only in
    let at = c.last_two-x.ensures in
    let are = two.1.1 in
    (two.0, cc)

pub as_long-y-requires : goal.as_long-y-requires
as_long-y-requires c =
    let two = two_i64 c.args.op c.args.k c.args.thread.now c.requires.same c.requires.rule c.requires.takes c.requires.only in
    let at = c.last_two-x.ensures in
    let are = two.1.1 in
    (two.1.0, cc)
