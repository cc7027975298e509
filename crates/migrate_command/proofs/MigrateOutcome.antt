-- The outcome of `migrate`, from the bytes that it read.
use Rattle.std.proofs.Common.{◌≡◌, ◌∙◌, ℕ, List, Result, Ok, ap}
use Rattle.fri_outside.specs.Outside.{Folder}
use Rattle.call_log.specs.Head.{Head}
use Rattle.call_log.specs.Limits.{most_log}
use Rattle.call_log.specs.Log.{Unread, head_at}
use Rattle.command_run.specs.declared.refusal.Reason.TheVariants as reason
use Rattle.command_run.specs.Outcome.{CommandStop, and_then, file_of, some_or_refused}
use Rattle.migrate_command.specs.Migrate.{migrate_outcome, work_unless_grown}

pub at_log : (log_name new_name : List ℕ) (folder : Folder) (bytes : List ℕ) (log : Head × Unread) → file_of folder log_name most_log ≡ Ok bytes → some_or_refused log_name reason.BadHead (head_at bytes) ≡ Ok log
    → migrate_outcome log_name new_name folder ≡ work_unless_grown log_name new_name log
at_log log_name new_name folder bytes log read found =
    ap (λ (r : Result (List ℕ) CommandStop). and_then (and_then r (λ bytes. some_or_refused log_name reason.BadHead (head_at bytes))) (work_unless_grown log_name new_name)) read
    ∙ ap (λ (r : Result (Head × Unread) CommandStop). and_then r (work_unless_grown log_name new_name)) found
