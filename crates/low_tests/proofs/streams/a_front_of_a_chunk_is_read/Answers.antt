use Rattle.std.proofs.Common.{[]}
use Rattle.low_tests.proofs.streams.a_front_of_a_chunk_is_read.Goals as goal

pub add_sent-requires : goal.add_sent-requires
add_sent-requires g c = c.unsent_is_free.ensures c.new-streams.result [] 0 1 c.new-streams.ensures tt
