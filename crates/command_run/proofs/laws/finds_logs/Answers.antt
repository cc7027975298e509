use Rattle.std.proofs.Common.{◌++◌, ℕ, List, Result, refl, ap, ◌∙◌}
use Rattle.call_log.specs.Head.{head_bytes}
use Rattle.call_log.specs.Limits.{most_log}
use Rattle.call_log.specs.Log.{unread_after_head, head_at}
use Rattle.command_run.specs.declared.refusal.Reason.TheVariants as reason
use Rattle.command_run.specs.Outcome.{CommandStop, and_then, some_or_refused}
use Rattle.command_run.proofs.laws.finds_logs.Goals as goal

pub returns : goal.returns
returns c = λ folder name h.
    ap (λ (r : Result (List ℕ) CommandStop). and_then r (λ bytes. some_or_refused name reason.BadHead (head_at bytes)))
    (c.reads_modules.ensures.files folder name most_log (head_bytes h.head ++ h.left) h.stands)
    ∙ ap (some_or_refused name reason.BadHead) ((c.exact_logs.ensures.heads (head_bytes h.head ++ h.left) h.head (unread_after_head h.head h.left)).1 (h.in_range, (refl, refl)))
