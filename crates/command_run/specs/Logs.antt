-- The logs that files hold.
use Rattle.std.specs.Prelude.{ℕ, List, Result}
use Rattle.fri_outside.specs.Outside.{Folder}
use Rattle.call_log.specs.Head.{Head}
use Rattle.call_log.specs.Log.{Unread, head_at}
use Rattle.call_log.specs.Limits.{most_log}
use Rattle.command_run.specs.declared.refusal.Reason.TheVariants as reason
use Rattle.command_run.specs.Outcome.{CommandStop, and_then, file_of, some_or_refused}

-- the log of a log file, given by its head and what is after it
abbrev pub log_in : Folder → List ℕ → Result (Head × Unread) CommandStop
log_in folder name = and_then (file_of folder name most_log) (λ bytes. some_or_refused name reason.BadHead (head_at bytes))
