use Rattle.schedule_text.specs.Reading.{schedule_part}
use Rattle.schedule_text.proofs.OutcomeLemmas.{schedule_found}
use Rattle.schedule_text.proofs.read.read_whole.Goals as goal

pub into_schedule-requires : goal.into_schedule-requires
into_schedule-requires c = (schedule_found c.args.bytes.now (schedule_part c.in_ok-draft.draft) c.in_ok-draft.ensures).1
