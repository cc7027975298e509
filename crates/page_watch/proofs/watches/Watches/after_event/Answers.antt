use Rattle.std.proofs.Common.{rules, ◌≡◌, ◌+◌, ◌-◌, ℕ, List, false, map, nat_eq, sym, ap, ◌∙◌, subst, arith}
use Rattle.std.specs.Prelude.{All, count_by}
use Rattle.std.specs.List.{list_any}
use Rattle.watch_expr.specs.declared.reads.Place.{Place}
use Rattle.watch_expr.specs.Reads.{reads_of_expression}
use Rattle.page_watch.specs.inside.Places.{places_of}
use Rattle.page_watch.specs.Touch.{meets}
use Rattle.page_watch.specs.Watched.{WatchStands, Watched}
use Rattle.page_watch.proofs.AskedWatches.{counts, none_counted, none_stand, same_expressions, stand_now}
use Rattle.page_watch.proofs.watches.Watches.after_event.Goals as goal

pub returns-then-not-is_touched-clause-stand : goal.returns-then-not-is_touched-clause-stand
returns-then-not-is_touched-clause-stand g c =
    let V = g.V.TouchView in
    let v = c.args.v.now in
    let none : meets (V.marks v) (V.at v) c.self.inside.places ≡ false = search rules in
    let all : list_any (λ (l : Place). nat_eq (V.marks v l) (V.at v)) (places_of c.self.inside.watches.items) ≡ false = c.self.invariant (λ (l : Place). nat_eq (V.marks v l) (V.at v)) none in
    let stood = subst (λ (ws : List Watched). All (λ (w : Watched). WatchStands w (V.states v (V.at v - 1))) ws) (sym c.self.view_is) c.requires.stand in
    none_stand c.parts_make_up.ensures c.reads_tell.ensures (V.states v) (V.at v) (V.marks v) c.position-at.ensures.tells c.requires.position c.self.inside.watches.items all stood

pub returns-then-not-is_touched-clause-steps : goal.returns-then-not-is_touched-clause-steps
returns-then-not-is_touched-clause-steps g c =
    let V = g.V.TouchView in
    let v = c.args.v.now in
    let none : meets (V.marks v) (V.at v) c.self.inside.places ≡ false = search rules in
    let all : list_any (λ (l : Place). nat_eq (V.marks v l) (V.at v)) (places_of c.args.self) ≡ false =
    ap (λ (ws : List Watched). list_any (λ (l : Place). nat_eq (V.marks v l) (V.at v)) (places_of ws)) (sym c.self.view_is) ∙ c.self.invariant (λ (l : Place). nat_eq (V.marks v l) (V.at v)) none in
    omega (arith, none_counted c.parts_make_up.ensures c.reads_tell.ensures (V.states v) (V.at v) (V.marks v) c.position-at.ensures.tells c.requires.position c.args.self all c.requires.stand)

pub ask_all-requires-clause-stand : goal.ask_all-requires-clause-stand
ask_all-requires-clause-stand g c =
    let V = g.V.TouchView in
    let v = c.args.v.now in
    subst (λ (ws : List Watched). All (λ (w : Watched). WatchStands w (V.states v (V.at v - 1))) ws) (sym c.self.view_is) c.requires.stand

pub returns-clause-expressions : goal.returns-clause-expressions
returns-clause-expressions g c =
    let V = g.V.TouchView in
    let v = c.args.v.now in
    ap (λ (ws : List Watched). map (λ (w : Watched). w.expression) ws) c.in_ok-watches.ensures.watches
    ∙ same_expressions (V.marks v) (V.at v) (V.states v (V.at v)) c.self.inside.watches.items
    ∙ ap (λ (ws : List Watched). map (λ (w : Watched). w.expression) ws) c.self.view_is

pub returns-clause-stand : goal.returns-clause-stand
returns-clause-stand g c =
    let V = g.V.TouchView in
    let v = c.args.v.now in
    let stood = subst (λ (ws : List Watched). All (λ (w : Watched). WatchStands w (V.states v (V.at v - 1))) ws) (sym c.self.view_is) c.requires.stand in
    subst (λ (ws : List Watched). All (λ (w : Watched). WatchStands w (V.states v (V.at v))) ws) (sym c.in_ok-watches.ensures.watches)
    (stand_now c.parts_make_up.ensures c.reads_tell.ensures (V.states v) (V.at v) (V.marks v) c.position-at.ensures.tells c.requires.position c.self.inside.watches.items stood)

pub returns-clause-steps : goal.returns-clause-steps
returns-clause-steps g c =
    let V = g.V.TouchView in
    let v = c.args.v.now in
    let stood = subst (λ (ws : List Watched). All (λ (w : Watched). WatchStands w (V.states v (V.at v - 1))) ws) (sym c.self.view_is) c.requires.stand in
    c.in_ok-watches.ensures.steps
    ∙ ap (λ (n : ℕ). c.args.steps.now + n)
    (counts c.parts_make_up.ensures c.reads_tell.ensures (V.states v) (V.at v) (V.marks v) c.position-at.ensures.tells c.requires.position c.self.inside.watches.items stood
    ∙ ap (λ (ws : List Watched). count_by (λ (w : Watched). meets (V.marks v) (V.at v) (reads_of_expression (V.states v (V.at v - 1)) w.expression)) ws) c.self.view_is)
