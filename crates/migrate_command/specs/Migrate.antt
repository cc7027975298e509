-- The outcome of `migrate`, given the files.
use Rattle.std.specs.Prelude.{ℕ, List, [], ◌∷◌, ◌++◌, false, length, decimal, codes, nat_le, if◌then◌else◌, Ok, Err}
use Rattle.fri_outside.specs.Outside.{Folder}
use Rattle.call_log.specs.Head.{Head}
use Rattle.call_log.specs.Limits.{most_log}
use Rattle.call_log.specs.Log.{Unread, entries_of, rest_of_log, rewritten_log}
use Rattle.command_run.specs.declared.refusal.Reason.TheVariants as reason
use Rattle.command_run.specs.Outcome.{CommandOutcome, CommandWork, and_then, refuses_at_once}
use Rattle.command_run.specs.Logs.{log_in}

-- the process's name, how many entries there are, and how many bytes are left after them
abbrev pub migrate_text : List ℕ → ℕ → ℕ → List ℕ
migrate_text name entries left = name ++ (codes ": " ++ (decimal entries ++ (codes " entries, " ++ (decimal left ++ codes " bytes left out\n"))))

-- the newer form of a log: its head in version 2, and all its entries
abbrev pub new_log : Head × Unread → List ℕ
new_log log = rewritten_log log.0 (entries_of log.1)

-- the work of a migration: the new file, and what is said of it
abbrev pub migrate_work : List ℕ → Head × Unread → CommandWork
migrate_work new_name log = record {
  text = migrate_text log.0.name (length (entries_of log.1)) (length (rest_of_log log.1));
  writes = (new_name, new_log log) ∷ [];
  diverged = false;
}

-- the log is refused where its newer form would pass the limit
abbrev pub work_unless_grown : List ℕ → List ℕ → Head × Unread → CommandOutcome
work_unless_grown log_name new_name log =
    if nat_le (length (new_log log)) most_log then Ok (migrate_work new_name log) else Err (refuses_at_once log_name reason.Grown)

abbrev pub migrate_outcome : List ℕ → List ℕ → Folder → CommandOutcome
migrate_outcome log_name new_name folder = and_then (log_in folder log_name) (work_unless_grown log_name new_name)
