use Rattle.migrate_command.proofs.NewFileIsRead.{migration_keeps}
use Rattle.migrate_command.proofs.laws.migrations_keep.Goals as goal

pub returns : goal.returns
returns c = migration_keeps c.keeps_files.ensures c.exact_logs.ensures c.rewritten_is_read.ensures c.reads_modules.ensures
