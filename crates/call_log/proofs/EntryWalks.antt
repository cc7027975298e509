-- Reading a log entry by entry.
use Rattle.std.proofs.Common.{sym, subst}
use Rattle.fri_bytes.specs.Laws.{ExactReaders}
use Rattle.call_log.specs.Walk.{IsEndOfLog, EntryStep, IsNextEntry}
use Rattle.call_log.proofs.AllEntries.{entries_of-next, entries_of-none, rest_of-next, rest_of-none, shorter}
use Rattle.call_log.proofs.EntryLemmas.{entry_at-found}

module _ (readers : ExactReaders) where
  pub step : EntryStep
  step left e next found =
      let there = entry_at-found left e next found in
      subst (IsNextEntry left e) (sym there.left_is) (record {
        shorter = shorter left.version left.last left.bytes e next.bytes there.spelled;
        entries = entries_of-next readers left e next.bytes there.shaped there.spelled;
        rest = rest_of-next readers left e next.bytes there.shaped there.spelled;
      })

  pub end : IsEndOfLog
  end left none = record {
    entries = entries_of-none readers left none;
    rest = rest_of-none readers left none;
  }
