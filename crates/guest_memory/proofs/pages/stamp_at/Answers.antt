use Rattle.std.proofs.Common.{◌∙◌, arith, ap, sym}
use Rattle.guest_memory.proofs.PageStamps.{stamps-get, stamps-past}
use Rattle.guest_memory.proofs.pages.stamp_at.Goals as goal

pub returns-then-page-pages : goal.returns-then-page-pages
returns-then-page-pages c = sym (stamps-past c.args.pages.now c.args.page (omega arith))

pub returns : goal.returns
returns c = c.stamp.ensures ∙ ap (λ p. p.stamp) c.index-pages-page.is ∙ sym (stamps-get c.args.pages.now c.args.page c.index-pages-page.result (omega arith))
