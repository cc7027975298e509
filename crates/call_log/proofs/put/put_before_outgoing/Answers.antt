use Rattle.lib_calls.specs.Entry.{entry_of}
use Rattle.call_log.proofs.FieldLemmas.{on_ok}
use Rattle.call_log.proofs.Leads.{adds_before}
use Rattle.call_log.proofs.put.put_before_outgoing.Goals as goal

pub returns-clause-ok : goal.returns-clause-ok
returns-clause-ok c =
    on_ok _ (adds_before c.args.version c.args.last c.args.sent (entry_of c.args.entry.now) c.args.out.now.items c.put_framed.new.out.items c.requires.sent) c.put_framed.ensures.ok
