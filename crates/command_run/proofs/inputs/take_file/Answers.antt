use Rattle.command_run.specs.inside.Taking.{asks_by_read, counts_absent, counts_failed, counts_no_memory, counts_read, counts_too_large}
use Rattle.command_run.proofs.inputs.take_file.Goals as goal

pub returns-in-Err-Absent-clause-counts : goal.returns-in-Err-Absent-clause-counts
returns-in-Err-Absent-clause-counts g c =
    let counted = rw c.in-Err-Absent.field-0-is at c.in-Err-Absent.ensures.counted in
    counts_absent _ _ _ c.args.name.now c.absent.result counted c.absent.ensures

pub returns-in-Err-TooLarge-clause-counts : goal.returns-in-Err-TooLarge-clause-counts
returns-in-Err-TooLarge-clause-counts g c =
    let counted = rw c.in-Err-TooLarge.field-0-is at c.in-Err-TooLarge.ensures.counted in
    counts_too_large _ _ _ c.args.name.now c.refuse.result counted c.refuse.ensures
