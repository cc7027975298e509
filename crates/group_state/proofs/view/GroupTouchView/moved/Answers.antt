use Rattle.std.proofs.Common.{◌∙◌, refl, sym, ap}
use Rattle.std.specs.Prelude.{option_map}
use Rattle.watch_expr.specs.declared.reads.Place.TheVariants as location
use Rattle.group_state.proofs.LastTouches.{unmarked_place}
use Rattle.group_state.proofs.view.GroupTouchView.moved.Goals as goal

pub returns-in-Some : goal.returns-in-Some
returns-in-Some c =
    c.position_of.ensures c.in-Some.process.now (location.Motion c.args.node) (sym c.process.ensures ∙ ap (option_map (λ process. process.now)) c.in-Some.is) refl c.events.ensures.count

pub returns-in-None : goal.returns-in-None
returns-in-None c =
    unmarked_place c.args.self.now.start c.args.self.now.at (location.Motion c.args.node) (sym c.process.ensures ∙ ap (option_map (λ process. process.now)) c.in-None.is)
