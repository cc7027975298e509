use Rattle.std.proofs.Common.{arith}
use Rattle.proc_replay.proofs.replayer.Ahead.look.Goals as goal

pub overflow_add-self : goal.overflow_add-self
overflow_add-self c = omega (arith, c.requires.room, c.events.ensures.count)
