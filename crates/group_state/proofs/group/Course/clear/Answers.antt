use Rattle.std.proofs.Common.{refl}
use Rattle.group_state.proofs.NoLogs.{sound_without_logs}
use Rattle.group_state.proofs.group.Course.clear.Goals as goal

pub returns-clause-sound : goal.returns-clause-sound
returns-clause-sound c = sound_without_logs _ (record {
  start = c.clear.ensures.items;
  stands = c.clear-2.ensures.items;
  here = c.clear-3.ensures.items;
  at = refl;
  last = refl;
  heads = c.clear-4.ensures;
  motions = c.clear-5.ensures;
})
