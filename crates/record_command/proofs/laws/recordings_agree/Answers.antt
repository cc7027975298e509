use Rattle.record_command.proofs.FolderRecordings.{recordings_agree_so}
use Rattle.record_command.proofs.laws.recordings_agree.Goals as goal

pub returns : goal.returns
returns c = recordings_agree_so c.reads_modules.ensures c.exact_outcome.ensures.schedules c.beginning.ensures (record {
  logs = c.agreement.ensures.whole;
  cut = c.agreement.ensures.cut;
  datagrams = c.delivery.ensures;
  waiting = c.taking.ensures.datagrams;
  random = c.taking.ensures.bytes;
})
