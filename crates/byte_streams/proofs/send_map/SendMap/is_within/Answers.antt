use Rattle.std.proofs.Common.{Option, ap, sym, ◌∙◌}
use Rattle.byte_streams.specs.inside.Keeping.{is_front_of_sent}
use Rattle.byte_streams.specs.Meanings.{piece_of}
use Rattle.byte_streams.specs.declared.send_map.SentChunk.{SentChunk}
use Rattle.byte_streams.proofs.TreeMaps.{by_sender_exact, get-seen}
use Rattle.byte_streams.proofs.send_map.SendMap.is_within.Goals as goal

pub returns-in_default : goal.returns-in_default
returns-in_default c =
    ap (λ (s : Option SentChunk). is_front_of_sent c.args.by (piece_of c.args.chunk.now) s)
    (sym (get-seen by_sender_exact c.self.inside.chunks.entries c.args.self.now (c.args.from, c.args.clock) _ c.self.view_is c.in_default.ensures.value))

pub returns : goal.returns
returns c =
    c.has_place_of.ensures
    ∙ ap (λ (s : Option SentChunk). is_front_of_sent c.args.by (piece_of c.args.chunk.now) s)
    (sym (get-seen by_sender_exact c.self.inside.chunks.entries c.args.self.now (c.args.from, c.args.clock) _ c.self.view_is c.in-Some.ensures.value))
