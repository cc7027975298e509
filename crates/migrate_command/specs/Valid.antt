-- Files at which `migrate` does its work.
use Rattle.std.specs.Prelude.{ℕ, ◌≤◌, List, length}
use Rattle.fri_outside.specs.Outside.{Folder}
use Rattle.call_log.specs.Limits.{most_log}
use Rattle.call_log.specs.Log.{unread_after_head}
use Rattle.command_run.specs.LogValid.{IsLogFile}
use Rattle.migrate_command.specs.Migrate.{new_log}

-- a file is a log, and its newer form is within the limit
pub record IsMigration (folder : Folder) (log_name : List ℕ) : Type 0 where
  pub log : IsLogFile folder log_name
  pub fits : length (new_log (log.head, unread_after_head log.head log.left)) ≤ most_log
