use Rattle.std.proofs.Common.{◌<◌, [], ◌∷◌, ◌++◌, length, map, set, sym, ap, ◌∙◌, arith}
use Rattle.std.proofs.lemmas.List.{get_or-map, length-map, map-set}
use Rattle.group_order.specs.Motions.{Motions}
use Rattle.group_order.proofs.KnownMotions.{added}
use Rattle.group_order.proofs.motions.Motions.add.Goals as goal

pub returns-in_ok-push : goal.returns-in_ok-push
returns-in_ok-push c =
    let lists = c.self.inside.of.items in
    let within : c.args.node < length lists = omega (arith, c.requires, ap (λ (m : Motions). length m.lists) c.self.view_is, length-map lists (λ positions. positions.items)) in
    let was = get_or-map (λ positions. positions.items) lists c.args.node c.index_mut.result.now [] within ∙ ap (λ positions. positions.items) (sym c.index_mut.ensures.value) in
    rw (← c.self.view_is) (added _ c.args.node c.args.position _ (omega (arith, c.if-self-position.true))
    (map-set (λ positions. positions.items) lists c.args.node _ ∙ ap (set (map (λ positions. positions.items) lists) c.args.node) (c.in_ok-push.ensures.items ∙ ap (λ l. l ++ c.args.position ∷ []) (sym was))))
