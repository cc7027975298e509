use Rattle.std.proofs.Common.{◌<◌, ◌∙◌, [], ◌∷◌, ◌++◌, length, map, set, sym, ap, arith}
use Rattle.std.proofs.lemmas.List.{get_or-map, length-map, map-set}
use Rattle.causal_cut.proofs.clocks.Clocks.add.Goals as goal

pub returns : goal.returns
returns c =
    let lists = c.self.inside.of.items in
    let within : c.args.node < length lists = omega (arith, c.requires, ap length c.self.view_is, length-map lists (λ own. own.items)) in
    let was = get_or-map (λ own. own.items) lists c.args.node c.index_mut.result.now [] within ∙ ap (λ own. own.items) (sym c.index_mut.ensures.value) in
    rw (← c.self.view_is) (map-set (λ own. own.items) lists c.args.node _
    ∙ ap (set (map (λ own. own.items) lists) c.args.node) (c.in_ok-push.ensures.items ∙ ap (λ l. l ++ c.args.clock ∷ []) (sym was)))
