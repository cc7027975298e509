use Rattle.byte_streams.proofs.TreeMaps.{by_sender_exact, insert-seen}
use Rattle.byte_streams.proofs.send_map.SendMap.add.Goals as goal

pub returns : goal.returns
returns c =
    insert-seen by_sender_exact c.self.inside.chunks.entries c.insert.new.self.entries c.args.self.now (c.args.from, c.args.clock) c.args.chunk
    c.self.view_is c.in_ok-insert.ensures.updates.0
