-- What is so of all migrations.
use Rattle.std.specs.Prelude.{◌≡◌, ℕ, List, [], ◌∷◌, Some, Ok}
use Rattle.fri_outside.specs.Outside.{Folder}
use Rattle.fri_outside.specs.Several.{with_files}
use Rattle.call_log.specs.declared.version.Version.TheVariants.{Two}
use Rattle.call_log.specs.Head.{Head}
use Rattle.call_log.specs.Log.{Unread, entries_of, head_at, rest_of_log}
use Rattle.command_run.specs.Outcome.{CommandWork}
use Rattle.command_run.specs.Logs.{log_in}
use Rattle.migrate_command.specs.Migrate.{migrate_outcome}
use Rattle.migrate_command.specs.Valid.{IsMigration}

-- the head in version 2
abbrev pub newer_head : Head → Head
newer_head head = record head { version = Two }

-- The log that is read under a name and the one that is written under another: the new file has the same head in version
-- 2 and the same entries, and nothing after them; and so it is read in the folder that has it.
pub record KeepsLog (folder : Folder) (log_name new_name : List ℕ) (work : CommandWork) : Type 0 where
  pub head : Head
  pub left : Unread
  pub was : log_in folder log_name ≡ Ok (head, left)
  pub bytes : List ℕ
  pub written : work.writes ≡ (new_name, bytes) ∷ []
  pub newer : Unread
  pub found : head_at bytes ≡ Some (newer_head head, newer)
  pub entries : entries_of newer ≡ entries_of left
  pub rest : rest_of_log newer ≡ []
  pub read : (after : Folder) → Some after ≡ with_files work.writes (Some folder) → log_in after new_name ≡ Ok (newer_head head, newer)

-- whatever the folder, a migration that is done keeps the log
abbrev pub MigrationsKeep : Type 0
MigrationsKeep = (log_name new_name : List ℕ) (folder : Folder) (work : CommandWork) → migrate_outcome log_name new_name folder ≡ Ok work
    → KeepsLog folder log_name new_name work

-- a log whose newer form is within the limit has an outcome that is work
abbrev pub MigrationsWork : Type 0
MigrationsWork = (log_name new_name : List ℕ) (folder : Folder) → IsMigration folder log_name
    → (work : CommandWork) × (migrate_outcome log_name new_name folder ≡ Ok work)
