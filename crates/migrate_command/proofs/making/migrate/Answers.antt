use Rattle.std.proofs.lemmas.Result.{err_from_is_err_and}
use Rattle.command_run.specs.AskedLaws.{asks_first_only, asks_no_more}
use Rattle.command_run.specs.OutcomeLaws.{refused_makes_whole, refused_tells}
use Rattle.migrate_command.specs.Migrate.{migrate_outcome}
use Rattle.migrate_command.proofs.making.migrate.Goals as goal

pub returns-in_err-bytes-clause-tells : goal.returns-in_err-bytes-clause-tells
returns-in_err-bytes-clause-tells g c =
    let p = err_from_is_err_and c.from_residual.result c.from_residual.ensures.1 in
    rw (p.1, p.2) (refused_tells (migrate_outcome c.args.log_file.now c.args.new_file.now) (g.F.Files.told c.args.files.now) c.in_err-bytes.field-0.0 (c.in_err-bytes.ensures.answer c.args.new_file.now))

pub returns-in_err-bytes-clause-makes : goal.returns-in_err-bytes-clause-makes
returns-in_err-bytes-clause-makes g c =
    let p = err_from_is_err_and c.from_residual.result c.from_residual.ensures.1 in
    rw (p.1, p.2)
    (refused_makes_whole (migrate_outcome c.args.log_file.now c.args.new_file.now) (g.F.Files.told c.args.files.now) (g.F.Files.told c.take_migration.new.files) c.in_err-bytes.field-0.0 (c.in_err-bytes.ensures.answer c.args.new_file.now) c.take_migration.ensures.same)

pub returns-in_err-make_file-clause-asks : goal.returns-in_err-make_file-clause-asks
returns-in_err-make_file-clause-asks g c = asks_first_only _ _ _ _ c.take_migration.ensures.asks c.make_file.ensures.asked

pub returns-clause-asks : goal.returns-clause-asks
returns-clause-asks g c = asks_first_only _ _ _ _ c.take_migration.ensures.asks c.make_file.ensures.asked

pub returns-clause-asks_all : goal.returns-clause-asks_all
returns-clause-asks_all g c = asks_no_more _ (g.F.Files.counts c.args.files.now) (g.F.Files.counts c.take_migration.new.files) (g.F.Files.counts c.make_file.new.files) c.in_ok-bytes.ensures.asks_all c.make_file.ensures.asked
