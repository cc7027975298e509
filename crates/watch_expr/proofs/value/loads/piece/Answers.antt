use Rattle.std.proofs.Common.{List, ℕ, length, take, Some, ap, ◌∙◌}
use Rattle.guest_memory.specs.Memory.{put_piece}
use Rattle.watch_expr.proofs.SplitBytes.{two_parts}
use Rattle.watch_expr.proofs.value.loads.piece.Goals as goal

pub returns-in_ok-rest : goal.returns-in_ok-rest
returns-in_ok-rest g c =
    let first = c.in_ok-first.first.now in
    let rest = c.in_ok-rest.rest.now in
    ap (λ (bytes : List ℕ). Some (take c.args.count bytes)) (c.put-then-at-count.ensures ∙ ap (λ (bytes : List ℕ). put_piece bytes (length first) rest) c.put.ensures)
    ∙ two_parts (g.V.View.nodes c.args.v.now) c.args.node c.args.addr c.args.count first rest _ _ c.in_ok-first.ensures c.in_ok-rest.ensures c.if-at-count.true c.requires.few
