use Rattle.std.proofs.Common.{arith}
use Rattle.lib_calls.proofs.MemoryRanges.{read_more}
use Rattle.lib_calls.proofs.arguments.push_range.Goals as goal

pub loop-count-preserved : goal.loop-count-preserved
loop-count-preserved c =
    read_more c.args.memory.now.bytes c.args.addr c.args.len c.loop-count.count _ _ _ _ (omega (arith, c.requires.inside)) (omega arith) c.loop-count.invariant.1 c.in-Some.ensures.value c.in_ok-put_bytes.ensures.ok
