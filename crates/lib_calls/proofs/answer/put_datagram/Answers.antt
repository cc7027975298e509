use Rattle.std.proofs.Common.{◌∙◌, ap}
use Rattle.std.specs.Int.{w32, to_le_bytes}
use Rattle.std.proofs.lemmas.Result.{on_err_weaker}
use Rattle.lib_calls.specs.Answer.{answer_of}
use Rattle.lib_calls.specs.Entry.{entry_of}
use Rattle.lib_calls.proofs.MemoryRanges.{on_err, part_of_payload, part_of_sender}
use Rattle.lib_calls.proofs.answer.put_datagram.Goals as goal

pub returns-in_err-put-clause-err : goal.returns-in_err-put-clause-err
returns-in_err-put-clause-err c =
    on_err c.from_residual.result (part_of_payload c.args.entry.now.call (answer_of (entry_of c.args.entry.now)) c.args.memory.now c.put.new.memory c.in_err-put.ensures.err)

pub returns-clause-err : goal.returns-clause-err
returns-clause-err c =
    on_err_weaker c.put-2.result (part_of_sender c.args.entry.now.call (answer_of (entry_of c.args.entry.now)) c.args.memory.now c.put.new.memory c.put-2.new.memory _ c.in_ok-put.ensures.ok (c.to_le_bytes.ensures ∙ ap (to_le_bytes w32) c.sender_of.ensures)) c.put-2.ensures.err
