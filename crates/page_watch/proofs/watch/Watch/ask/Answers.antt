use Rattle.std.proofs.Common.{◌≡◌, ◌-◌, sym, ap, ◌∙◌, subst}
use Rattle.expression_text.specs.Expression.{expression_of}
use Rattle.watch_expr.specs.Parts.{value_of_parts}
use Rattle.page_watch.specs.Watched.{WatchStands, Watched}
use Rattle.page_watch.specs.inside.Watching.{watch_after_event}
use Rattle.page_watch.proofs.AskedWatches.{asked_touched, asked_untouched}
use Rattle.page_watch.proofs.watch.Watch.ask.Goals as goal
use Rattle.page_watch.proofs.watch.Watch.ask.Goals.{then-is_touched, else-is_touched}

pub returns-clause-watch : goal.returns-clause-watch
returns-clause-watch g c =
    let V = g.V.TouchView in
    let v = c.args.v.now in
    let was : Watched = record { expression = expression_of c.self.inside.expr; value = c.self.inside.value; parts = c.self.inside.parts.items } in
    let stood : WatchStands was (V.states v (V.at v - 1)) = subst (λ (w : Watched). WatchStands w (V.states v (V.at v - 1))) (sym c.self.view_is) c.requires.stands in
    let e = c.in_ok-places.ensures in
    let after : c.if-is_touched.self ≡ watch_after_event (V.marks v) (V.at v) (V.states v (V.at v)) was = elim c.if-is_touched.branch [
      | then-is_touched w ↦
          w.self-is ∙ asked_touched c.parts_make_up.ensures (V.marks v) (V.at v) (V.states v (V.at v)) was _ c.read_touched.new.parts.items c.in_ok-places.is_touched w.if-is_touched.true e.touched e.parts
          (w.value_of_parts-self-inside.ensures ∙ ap (value_of_parts (expression_of c.self.inside.expr)) w.deref.ensures.value)
      | else-is_touched w ↦
          w.self-is ∙ asked_untouched c.reads_tell.ensures (V.states v) (V.at v) (V.marks v) c.position.ensures.tells c.requires.position was c.read_touched.new.parts.items c.in_ok-places.is_touched stood w.if-is_touched.false e.touched e.parts
    ] in
    after ∙ ap (watch_after_event (V.marks v) (V.at v) (V.states v (V.at v))) c.self.view_is
