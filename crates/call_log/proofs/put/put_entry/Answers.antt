use Rattle.std.proofs.Common.{◌∙◌, length, refl}
use Rattle.call_table.specs.Table.{row}
use Rattle.lib_calls.specs.declared.entry.Entry.{Entry}
use Rattle.lib_calls.specs.Entry.{entry_of}
use Rattle.call_log.proofs.Leads.{entry_added, length_of_string}
use Rattle.call_log.proofs.put.put_entry.Goals as goal

pub returns-clause-ok : goal.returns-clause-ok
returns-clause-ok c =
    let e : Entry = entry_of c.args.entry.now in
    c.in_default.ensures.ok
    ∙ entry_added c.args.version c.args.last (length e.outgoing) e c.args.out.now.items c.put_framed.new.out.items e.outgoing
    (length_of_string (row e.call.kind).entry.outgoing e.outgoing c.requires.outgoing) refl c.in_ok-put_framed.ensures.ok
