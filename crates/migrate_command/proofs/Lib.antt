pub mod MigrateOutcome
pub mod NewFileIsRead
