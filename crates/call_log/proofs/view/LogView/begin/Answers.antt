use Rattle.std.proofs.Common.{◌∙◌, Some, ap, sym}
use Rattle.call_log.specs.Log.{Log}
use Rattle.call_log.proofs.HeadLemmas.{head_at-begins, head_at-none}
use Rattle.call_log.proofs.view.LogView.begin.Goals as goal

pub returns-in_default-clause-missing : goal.returns-in_default-clause-missing
returns-in_default-clause-missing c = head_at-none _ c.in_default.ensures.none

pub returns-clause-found : goal.returns-clause-found
returns-clause-found c =
    head_at-begins c.exact_readers.ensures _ _ _ c.in-Some.ensures.head c.in-Some.ensures.spelled ∙ ap (λ (log : Log). Some (log.head, log.left)) (sym c.after_head.ensures)
