use Rattle.std.proofs.Common.{◌∙◌, sym}
use Rattle.lib_calls.proofs.MemoryRanges.{range_inside}
use Rattle.lib_calls.proofs.arguments.push_named.Goals as goal

pub push_range-requires-clause-inside : goal.push_range-requires-clause-inside
push_range-requires-clause-inside c = range_inside c.args.memory.now c.args.addr c.args.len (sym c.is_range.ensures.value ∙ c.if-not-is_range.false)
