use Rattle.lib_calls.specs.Entry.{entry_of}
use Rattle.call_log.proofs.LogRewriting.{written_more}
use Rattle.call_log.proofs.rewriting.rewrite.Goals as goal

pub loop-preserved : goal.loop-preserved
loop-preserved c =
    written_more c.loop.out.items c.put_entry.new.out.items _ c.loop.last c.args.most c.loop.counter (entry_of c.in-Some.entry) _ _ c.loop-test.true c.in-Some.ensures.entries c.in_ok-put_entry.ensures.ok c.loop.invariant
