use Rattle.byte_streams.proofs.StreamsSteps.{nothing_stands}
use Rattle.byte_streams.proofs.streams.Streams.new.Goals as goal

pub returns : goal.returns
returns c = nothing_stands c.new.result c.new-2.result c.new.ensures c.new-2.ensures
