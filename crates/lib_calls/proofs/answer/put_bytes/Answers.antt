use Rattle.std.proofs.lemmas.Result.{on_err_weaker}
use Rattle.lib_calls.specs.Answer.{answer_of}
use Rattle.lib_calls.specs.Entry.{entry_of}
use Rattle.lib_calls.proofs.MemoryRanges.{part_of_payload}
use Rattle.lib_calls.proofs.answer.put_bytes.Goals as goal

pub returns-clause-err : goal.returns-clause-err
returns-clause-err c = on_err_weaker c.put.result (part_of_payload c.args.entry.now.call (answer_of (entry_of c.args.entry.now)) c.args.memory.now c.put.new.memory) c.put.ensures.err
