use Rattle.wasm_step.proofs.RuledNumbers.{two_i32}
use Rattle.wasm_step.proofs.numbers.two_i32.Goals as goal

pub as_narrow-x-requires : goal.as_narrow-x-requires
as_narrow-x-requires c =
    let two = two_i32 c.args.op c.args.k c.args.thread.now c.requires.same c.requires.rule c.requires.takes c.requires.only in
    let at = c.last_two-x.ensures in
    let are = two.1.1 in
    (two.0, cc)

pub as_narrow-y-requires : goal.as_narrow-y-requires
as_narrow-y-requires c =
    let two = two_i32 c.args.op c.args.k c.args.thread.now c.requires.same c.requires.rule c.requires.takes c.requires.only in
    let at = c.last_two-x.ensures in
    let are = two.1.1 in
    (two.1.0, cc)
