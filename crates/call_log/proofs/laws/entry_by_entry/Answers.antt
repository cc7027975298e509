use Rattle.call_log.proofs.EntryWalks.{end, step}
use Rattle.call_log.proofs.laws.entry_by_entry.Goals as goal

pub returns-clause-end : goal.returns-clause-end
returns-clause-end c = end c.exact_readers.ensures

pub returns-clause-step : goal.returns-clause-step
returns-clause-step c = step c.exact_readers.ensures
