use Rattle.std.proofs.Common.{sym, ◌∙◌}
use Rattle.fri_text.proofs.FirstLines.{byte_drops, line_next, line_shortens, lines_of_some}
use Rattle.fri_text.proofs.line.next_line.Goals as goal

pub returns-clause-taken : goal.returns-clause-taken
returns-clause-taken c =
    let taken = c.in_ok-line.ensures in
    let line = line_next c.args.from.now.left c.rest-rest.result.now c.in_ok-line.line.now c.take.new.self.left c.unwrap_or-end.result c.line_feed_at.result c.rest-rest.ensures (sym c.is_empty.ensures ∙ c.if-is_empty.false) c.line_feed_at.ensures c.unwrap_or-end.ensures taken.0 in
    let moved = byte_drops c.take.new.self c.byte-line_feed.new.self c.byte-line_feed.result c.byte-line_feed.ensures in
    (rw (c.without_carriage_return.ensures, moved.0) line, moved.1 ∙ taken.1)

pub returns-clause-lines : goal.returns-clause-lines
returns-clause-lines c = lines_of_some _ _ _ (returns-clause-taken c).0

pub returns-clause-shorter : goal.returns-clause-shorter
returns-clause-shorter c = line_shortens _ _ _ (returns-clause-taken c).0
