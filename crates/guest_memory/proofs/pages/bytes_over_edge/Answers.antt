use Rattle.std.proofs.Common.{◌≡◌, ◌+◌, ◌∙◌, arith, length, get_or, ap, refl}
use Rattle.guest_memory.proofs.FlatPages.{whole-get}
use Rattle.guest_memory.proofs.PageEdges.{over_edge}
use Rattle.guest_memory.proofs.pages.bytes_over_edge.Goals as goal

pub slice_bounds-put_piece-end-2 : goal.slice_bounds-put_piece-end-2
slice_bounds-put_piece-end-2 c =
    let page : c.bytes.result.now ≡ (get_or c.args.pages.now c.args.index c.index-pages-index.result).bytes = c.bytes.ensures ∙ ap (λ p. p.bytes) c.index-pages-index.is in
    let size : length c.bytes.result.now ≡ 4096 = ap length page ∙ whole-get c.args.pages.now c.args.index c.index-pages-index.result c.requires.whole (omega (arith, c.requires.next)) in
    omega (arith, size)

pub slice_bounds-put_piece-end-4 : goal.slice_bounds-put_piece-end-4
slice_bounds-put_piece-end-4 c =
    let page : c.bytes-2.result.now ≡ (get_or c.args.pages.now (c.args.index + 1) c.index-pages-index-2.result).bytes = c.bytes-2.ensures ∙ ap (λ p. p.bytes) c.index-pages-index-2.is in
    let size : length c.bytes-2.result.now ≡ 4096 = ap length page ∙ whole-get c.args.pages.now (c.args.index + 1) c.index-pages-index-2.result c.requires.whole c.requires.next in
    omega (arith, size)

pub returns : goal.returns
returns c =
    let front = c.bytes.ensures ∙ ap (λ p. p.bytes) c.index-pages-index.is in
    let back = c.bytes-2.ensures ∙ ap (λ p. p.bytes) c.index-pages-index-2.is in
    over_edge c.args.pages.now c.args.index _ c.put_piece.new.bytes c.put_piece-2.new.bytes c.index-pages-index.result c.index-pages-index-2.result c.requires.whole c.requires.next refl
    (rw front at c.put_piece.ensures) (rw back at c.put_piece-2.ensures)
