use Rattle.command_run.specs.CountLaws.{counts_still}
use Rattle.record_command.proofs.inputs.take_schedule.Goals as goal

pub returns-clause-cause : goal.returns-clause-cause
returns-clause-cause g c = c.spelled.ensures.cause (g.F.Files.counts c.args.files.now) (g.F.Files.counts c.take_file.new.files)

pub returns-clause-counts : goal.returns-clause-counts
returns-clause-counts g c = counts_still _ _ _ c.spelled.result c.spelled.ensures.still c.in_ok-bytes.ensures.counts
