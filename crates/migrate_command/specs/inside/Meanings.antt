-- The work that a migration of the code stands for.
use Rattle.std.specs.Prelude.{ℕ, List, [], ◌∷◌, false}
use Rattle.command_run.specs.Outcome.{CommandWork}
use Rattle.migrate_command.specs.declared.newer.Migration.{Migration}

-- the work of a migration that was made ready, for a file of this name
abbrev pub work_of_migration : List ℕ → Migration → CommandWork
work_of_migration new_name m = record { text = m.text; writes = (new_name, m.bytes.items) ∷ []; diverged = false }
