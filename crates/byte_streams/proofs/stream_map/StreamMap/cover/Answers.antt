use Rattle.std.proofs.Common.{None, Some, ap, sym, ◌∙◌, rules}
use Rattle.byte_streams.specs.inside.Keeping.{piece_stands_among}
use Rattle.byte_streams.specs.Meanings.{piece_of}
use Rattle.byte_streams.proofs.PieceChanges.{taken_there}
use Rattle.byte_streams.proofs.TreeMaps.{by_stream_exact, get-seen, insert-seen}
use Rattle.byte_streams.proofs.stream_map.StreamMap.cover.Goals as goal

pub returns-in_default-clause-stands : goal.returns-in_default-clause-stands
returns-in_default-clause-stands c =
    ap (piece_stands_among (piece_of c.args.chunk.now))
    (sym (get-seen by_stream_exact c.self.inside.streams.entries c.args.self.now _ None c.self.view_is c.in_default.ensures.value))

pub returns-clause-stands : goal.returns-clause-stands
returns-clause-stands c =
    c.cover.ensures.stands
    ∙ ap (piece_stands_among (piece_of c.args.chunk.now))
    (sym (get-seen by_stream_exact c.self.inside.streams.entries c.args.self.now _ (Some c.in-Some.stream.now) c.self.view_is c.in-Some.ensures.value))

pub returns-clause-streams : goal.returns-clause-streams
returns-clause-streams c =
    let after = c.cover.new.self in
    taken_there (c.args.from, (c.args.to, c.args.chunk.now.stream)) (piece_of c.args.chunk.now) c.args.self.now _ c.in-Some.stream.now after c.cover.result
    (get-seen by_stream_exact c.self.inside.streams.entries c.args.self.now _ (Some c.in-Some.stream.now) c.self.view_is c.in-Some.ensures.value)
    c.cover.ensures.contents
    (insert-seen by_stream_exact c.self.inside.streams.entries (c.get_mut.follows.lender after).entries c.args.self.now _ after c.self.view_is
    ((c.get_mut.follows.holds after).3 (search rules)).0)
