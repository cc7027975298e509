use Rattle.std.proofs.Common.{◌∙◌, ◌++◌, length, ap, sym, subst}
use Rattle.call_table.specs.Table.{row}
use Rattle.lib_calls.specs.Effects.{outgoing_of}
use Rattle.lib_calls.specs.Entry.{entry_of}
use Rattle.call_log.specs.Spelling.{IsLengthIf}
use Rattle.group_record.proofs.SpelledEvents.{length_fits, shaped_without, spelled_so}
use Rattle.group_record.proofs.event.spell_event.Goals as goal

pub put_before_outgoing-requires-clause-shape : goal.put_before_outgoing-requires-clause-shape
put_before_outgoing-requires-clause-shape c =
    shaped_without (entry_of c.args.event.now) (outgoing_of c.args.event.now.call c.args.process.now.store.memory) c.requires.plain c.requires.shape

pub put_before_outgoing-requires-clause-sent : goal.put_before_outgoing-requires-clause-sent
put_before_outgoing-requires-clause-sent c =
    let call = c.args.event.now.call in
    let size = c.outgoing_length-sent.ensures ∙ ap (λ m. length (outgoing_of call m)) c.memory-memory.ensures in
    subst (IsLengthIf (row call.kind).entry.outgoing) (sym size) (length_fits (row call.kind).entry.outgoing (outgoing_of call c.args.process.now.store.memory) c.requires.shape.outgoing)

pub returns : goal.returns
returns c =
    let call = c.args.event.now.call in
    let outgoing = outgoing_of call c.args.process.now.store.memory in
    let size = c.outgoing_length-sent.ensures ∙ ap (λ m. length (outgoing_of call m)) c.memory-memory.ensures in
    let put = c.in_ok-push_outgoing.ensures ∙ ap (λ m. c.put_before_outgoing.new.out.items ++ outgoing_of call m) c.memory-memory.ensures in
    spelled_so (entry_of c.args.event.now) c.args.last c.outgoing_length-sent.result c.len-start.result outgoing c.clear.new.self.items c.put_before_outgoing.new.out.items c.push_outgoing.new.out.items
    c.in_ok-put_before_outgoing.ensures.ok (sym size) c.clear.ensures.items (c.len-start.ensures ∙ c.put_before_outgoing.new.out.ok.0) put
