use Rattle.std.proofs.Common.{◌≡◌, ◌∙◌, Err, Ok, ap, subst, sym}
use Rattle.std.specs.Prelude.{MatchResult}
use Rattle.std.proofs.lemmas.Result.{err_from_is_err_and}
use Rattle.call_log.specs.Head.{Head}
use Rattle.call_log.specs.Log.{Log, Unread}
use Rattle.command_run.specs.Call.{StopsAsCause}
use Rattle.command_run.specs.CountLaws.{counts_still}
use Rattle.command_run.specs.Outcome.{CommandOutcome}
use Rattle.migrate_command.specs.Migrate.{work_unless_grown}
use Rattle.migrate_command.specs.inside.Meanings.{work_of_migration}
use Rattle.migrate_command.proofs.MigrateOutcome.{at_log}
use Rattle.migrate_command.proofs.newer.take_migration.Goals as goal

pub returns-in_err-log-clause-counts : goal.returns-in_err-log-clause-counts
returns-in_err-log-clause-counts g c =
    let p = err_from_is_err_and c.from_residual-in_err-log.result c.from_residual-in_err-log.ensures.1 in
    rw (p.1, p.2) (counts_still _ _ _ (Err c.in_err-log.field-0.0) c.in_err-log.ensures.still c.in_ok-bytes.ensures.counts)

pub returns-in_err-log-clause-cause : goal.returns-in_err-log-clause-cause
returns-in_err-log-clause-cause g c =
    let p = err_from_is_err_and c.from_residual-in_err-log.result c.from_residual-in_err-log.ensures.1 in
    rw (p.1, p.2) (c.in_err-log.ensures.cause (g.F.Files.counts c.args.files.now) (g.F.Files.counts c.take_log.new.files))

pub returns-clause-answer : goal.returns-clause-answer
returns-clause-answer g c = λ new_name folder told.
    let parts : Log → Head × Unread = λ log. (log.head, log.left) in
    let is = at_log c.args.log_file.now new_name folder c.in_ok-bytes.bytes.items (parts c.in_ok-log.log) (c.in_ok-bytes.ensures.answer folder told) c.in_ok-log.ensures.answer in
    subst (λ (o : CommandOutcome). MatchResult c.renew.result (λ m. o ≡ Ok (work_of_migration new_name m)) (StopsAsCause o))
    (ap (work_unless_grown c.args.log_file.now new_name) (ap parts c.view.ensures) ∙ sym is) (c.renew.ensures.answer new_name)

pub returns-clause-cause : goal.returns-clause-cause
returns-clause-cause g c = c.renew.ensures.cause (g.F.Files.counts c.args.files.now) (g.F.Files.counts c.take_log.new.files)

pub returns-clause-counts : goal.returns-clause-counts
returns-clause-counts g c = counts_still _ _ _ c.renew.result c.renew.ensures.still c.in_ok-bytes.ensures.counts
