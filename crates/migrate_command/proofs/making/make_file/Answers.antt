use Rattle.std.proofs.lemmas.Result.{err_from_is_err_and}
use Rattle.command_run.specs.FileLaws.{failed_makes}
use Rattle.migrate_command.proofs.making.make_file.Goals as goal

pub returns-in_err-replace-clause-made : goal.returns-in_err-replace-clause-made
returns-in_err-replace-clause-made g c =
    let p = err_from_is_err_and c.from_residual.result c.from_residual.ensures.1 in
    rw (p.1, p.2) (failed_makes c.in_err-replace.field-0.0 _ _ _ (0, c.in_err-replace.ensures.err))
