use Rattle.std.proofs.Common.{sym, ap, ◌∙◌}
use Rattle.std.specs.Prelude.{Some}
use Rattle.call_log.specs.Log.{Unread}
use Rattle.call_log.proofs.EntryLemmas.{entry_at-begins, entry_at-found}
use Rattle.call_log.proofs.AllEntries.{held_alone, held_cut, holds_exactly}
use Rattle.call_log.proofs.HeadLemmas.{head_at-begins, head_at-found}
use Rattle.call_log.proofs.laws.exact_logs.Goals as goal

pub returns : goal.returns
returns c =
    let readers = c.exact_readers.ensures in
    record {
      heads = λ bytes head left. (
        λ e. let found = head_at-found bytes head left e in (found.fits, (found.spelled, found.left_is)),
        λ h. head_at-begins readers bytes head left.bytes h.0 h.1.0 ∙ ap (λ (l : Unread). Some (head, l)) (sym h.1.1),
      );
      entries = λ left e next. (
        λ is. let found = entry_at-found left e next is in (found.shaped, (found.spelled, found.left_is)),
        λ h. entry_at-begins readers left e next.bytes h.0 h.1.0 ∙ ap (λ (l : Unread). Some (e, l)) (sym h.1.1),
      );
      all = holds_exactly readers;
      holds_written = held_alone;
      holds_cut = held_cut readers;
    }
