use Rattle.std.proofs.Common.{rules, ◌≡◌, false, sym, ap, ◌∙◌}
use Rattle.expression_text.specs.Expression.{expression_of}
use Rattle.watch_expr.specs.Parts.{Part}
use Rattle.page_watch.specs.Touch.{meets}
use Rattle.page_watch.proofs.WatchStays.{part_stays}
use Rattle.page_watch.proofs.again.read_if_touched.Goals as goal

pub returns-then-not-is_touched-clause-part : goal.returns-then-not-is_touched-clause-part
returns-then-not-is_touched-clause-part g c =
    let V = g.V.TouchView in
    let v = c.args.v.now in
    let unmet : meets (V.marks v) (V.at v) c.args.part.now.places ≡ false = search rules in
    c.requires.before
    ∙ sym (part_stays c.reads_tell.ensures (V.states v) (V.at v) (V.marks v) c.position-at.ensures.tells c.requires.position c.requires.sound (expression_of c.args.expr.now) c.args.n
    (ap (λ (p : Part). meets (V.marks v) (V.at v) p.places) (sym c.requires.before) ∙ unmet))
