use Rattle.std.proofs.Common.{None, Some, ap, ◌∙◌, rules}
use Rattle.std.specs.BTreeMap.{BTreeMap}
use Rattle.std.specs.FinMap as map
use Rattle.byte_streams.specs.Keys.{StreamContents, StreamKey}
use Rattle.byte_streams.specs.Meanings.{piece_of}
use Rattle.byte_streams.proofs.PieceChanges.{begun, counts_there, sent_there}
use Rattle.byte_streams.proofs.TreeMaps.{by_stream_exact, get-seen, insert-seen}
use Rattle.byte_streams.proofs.stream_map.StreamMap.write.Goals as goal

pub returns-in-Some-clause-counts : goal.returns-in-Some-clause-counts
returns-in-Some-clause-counts c =
    counts_there (c.args.from, (c.args.to, c.args.chunk.now.stream)) (piece_of c.args.chunk.now) c.args.self.now c.write.result (Some c.in-Some.stream.now)
    (get-seen by_stream_exact c.self.inside.streams.entries c.args.self.now _ (Some c.in-Some.stream.now) c.self.view_is c.in-Some.ensures.value)
    c.write.ensures.counts

pub returns-in-Some-clause-streams : goal.returns-in-Some-clause-streams
returns-in-Some-clause-streams c =
    let after = c.write.new.self in
    sent_there (c.args.from, (c.args.to, c.args.chunk.now.stream)) (piece_of c.args.chunk.now) c.args.self.now _ c.write.result c.in-Some.stream.now after
    (get-seen by_stream_exact c.self.inside.streams.entries c.args.self.now _ (Some c.in-Some.stream.now) c.self.view_is c.in-Some.ensures.value)
    c.write.ensures.counts c.write.ensures.contents
    (insert-seen by_stream_exact c.self.inside.streams.entries (c.get_mut.follows.lender after).entries c.args.self.now _ after c.self.view_is
    ((c.get_mut.follows.holds after).3 (search rules)).0)

pub returns-clause-counts : goal.returns-clause-counts
returns-clause-counts c =
    counts_there (c.args.from, (c.args.to, c.args.chunk.now.stream)) (piece_of c.args.chunk.now) c.args.self.now c.begin.result None
    (get-seen by_stream_exact c.self.inside.streams.entries c.args.self.now _ None c.self.view_is c.in_default.ensures.value)
    c.begin.ensures.counts

pub returns-clause-streams : goal.returns-clause-streams
returns-clause-streams c =
    begun (c.args.from, (c.args.to, c.args.chunk.now.stream)) (piece_of c.args.chunk.now) c.args.self.now c.begin.new.self _ c.begin.result
    (ap (λ (m : BTreeMap StreamKey StreamContents). map.from_entries m.entries) c.get_mut.follows.holds-at-none ∙ c.self.view_is)
    (get-seen by_stream_exact c.self.inside.streams.entries c.args.self.now _ None c.self.view_is c.in_default.ensures.value)
    c.begin.ensures.streams
