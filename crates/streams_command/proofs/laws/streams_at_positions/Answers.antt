use Rattle.streams_command.proofs.StreamPositions.{streams_at_positions}
use Rattle.streams_command.proofs.laws.streams_at_positions.Goals as goal

pub returns : goal.returns
returns c = streams_at_positions c.covered_was_written.ensures.written c.covered_was_written.ensures.read
