use Rattle.drill_command.proofs.DrillText.{tells_if}
use Rattle.drill_command.proofs.command.perform.Goals as goal

pub returns : goal.returns
returns c =
    tells_if c.args.rounds c.in_ok-recording.recording c.in_ok-recording.ensures c.in_ok-replays.replays.items c.in_ok-replays.ensures.replays
    c.in_ok-begin.field-0 c.in_ok-begin.ensures c.in_ok-watched.watched c.in_ok-watched.ensures c.print.result c.print.ensures
