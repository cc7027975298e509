use Rattle.schedule_text.proofs.OutcomeLemmas as laws
use Rattle.schedule_text.proofs.laws.one_schedule.Goals as goal

pub returns : goal.returns
returns c = laws.one_schedule
