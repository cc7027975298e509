use Rattle.migrate_command.proofs.NewFileIsRead.{migration_works}
use Rattle.migrate_command.proofs.laws.migrations_work.Goals as goal

pub returns : goal.returns
returns c = migration_works c.finds_logs.ensures
