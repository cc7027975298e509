use Rattle.byte_streams.proofs.TreeMaps.{by_stream_exact, insert-seen}
use Rattle.byte_streams.proofs.stream_map.StreamMap.put.Goals as goal

pub returns : goal.returns
returns c =
    insert-seen by_stream_exact c.self.inside.streams.entries c.insert.new.self.entries c.args.self.now c.args.key c.args.stream
    c.self.view_is c.in_ok-insert.ensures.updates.0
