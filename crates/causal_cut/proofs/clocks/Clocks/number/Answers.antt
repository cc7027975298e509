use Rattle.std.proofs.Common.{◌≡◌, ◌∙◌, ◌<◌, ◌+◌, ℕ, List, [], length, get_or, sym, ap, subst, arith}
use Rattle.std.specs.Prelude.{option_map}
use Rattle.std.proofs.lemmas.List.{get_or-map, length-map}
use Rattle.causal_cut.specs.inside.Asks.{AreRisingClocks, number_among}
use Rattle.causal_cut.proofs.ClockNumbers.{number_searched}
use Rattle.causal_cut.proofs.clocks.Clocks.number.Goals as goal

pub returns-in_err-index : goal.returns-in_err-index
returns-in_err-index c =
    let lists = c.self.inside.of.items in
    let within : c.args.node < length lists = omega (arith, c.requires.node, ap length c.self.view_is, length-map lists (λ own. own.items)) in
    let own : c.deref.result.now ≡ get_or c.args.self.now c.args.node [] =
    c.deref.ensures.value ∙ ap (λ own. own.items) c.index.ensures ∙ sym (get_or-map (λ own. own.items) lists c.args.node c.index.result.now [] within)
    ∙ ap (λ (l : List (List ℕ)). get_or l c.args.node []) c.self.view_is in
    let number = number_searched c.args.clock c.deref.result.now c.binary_search.result c.binary_search.ensures.position (subst AreRisingClocks (sym own) c.requires.rises) in
    c.from_residual.ensures ∙ ap (option_map (λ i. i + 1)) (sym c.in_err-index.was ∙ c.ok.ensures.value) ∙ sym number ∙ ap (number_among c.args.clock) own

pub returns : goal.returns
returns c =
    let lists = c.self.inside.of.items in
    let within : c.args.node < length lists = omega (arith, c.requires.node, ap length c.self.view_is, length-map lists (λ own. own.items)) in
    let own : c.deref.result.now ≡ get_or c.args.self.now c.args.node [] =
    c.deref.ensures.value ∙ ap (λ own. own.items) c.index.ensures ∙ sym (get_or-map (λ own. own.items) lists c.args.node c.index.result.now [] within)
    ∙ ap (λ (l : List (List ℕ)). get_or l c.args.node []) c.self.view_is in
    let number = number_searched c.args.clock c.deref.result.now c.binary_search.result c.binary_search.ensures.position (subst AreRisingClocks (sym own) c.requires.rises) in
    ap (option_map (λ i. i + 1)) (sym c.in_ok-index.was ∙ c.ok.ensures.value) ∙ sym number ∙ ap (number_among c.args.clock) own
