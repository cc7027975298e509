use Rattle.std.proofs.Common.{sym}
use Rattle.group_world.specs.World.{has_pending}
use Rattle.group_record.specs.inside.Around.{handlers_at}
use Rattle.group_record.proofs.ReadySignals.{none_ready}
use Rattle.group_record.proofs.signals.lowest_ready.Goals as goal

pub returns-then-has_no_signal : goal.returns-then-has_no_signal
returns-then-has_no_signal c = λ a.
    sym (none_ready (handlers_at c.args.process.now c.args.thread a) (has_pending c.args.world.now c.args.p) (c.has_no_signal.ensures.0 c.if-has_no_signal.true))
