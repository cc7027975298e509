use Rattle.std.proofs.Common.{◌≡◌, IfOk, List, map, sym, subst, rules, tests}
use Rattle.std.proofs.lemmas.Iterator.{YieldsList-from_map, items_from_collect}
use Rattle.std.proofs.lemmas.Iterator.Consumers.{YieldsList-at, YieldsList-from_rest}
use Rattle.byte_streams.specs.Keys.{StreamContents, StreamKey}
use Rattle.byte_streams.specs.Lines.{stream_line}
use Rattle.byte_streams.proofs.TreeMaps.{by_stream_exact, entries-seen}
use Rattle.byte_streams.proofs.stream_map.StreamMap.lines.Goals as goal

pub returns : goal.returns
returns c =
    subst (λ (entries : List (StreamKey × StreamContents)). IfOk c.collect.result (λ lines. lines.items ≡ map stream_line entries))
    (sym (entries-seen by_stream_exact c.self.inside.streams.entries c.args.self.now c.self.view_is c.iter.ensures.ordered))
    (items_from_collect _ c.collect.ensures.ran
    (YieldsList-from_map _ stream_line (YieldsList-at c.map.ensures.source (YieldsList-from_rest c.self.inside.streams.entries c.iter.ensures.rest)) c.map.ensures.closure
    (λ x r q k. search (rules, tests))))
