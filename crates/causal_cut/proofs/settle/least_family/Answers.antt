use Rattle.std.proofs.Common.{◌≡◌, ◌∙◌, ap, arith, length, rules, set}
use Rattle.std.specs.Prelude.{replicate}
use Rattle.std.proofs.lemmas.Grind.{common_steps}
use Rattle.causal_cut.specs.inside.Asks.{lengths_of_one, settled_family}
use Rattle.causal_cut.proofs.SettledIsLeast.{length_alone, written_over}
use Rattle.causal_cut.proofs.SettledFamily.{length_settled}
use Rattle.causal_cut.proofs.settle.least_family.Goals as goal

pub returns : goal.returns
returns c =
    let none : c.in_ok-family.family.items ≡ replicate c.args.nodes 0 = first_of (search rules, grind (arith, common_steps)) in
    let first = lengths_of_one c.args.nodes c.args.node c.args.event in
    let new : c.settle.new.lengths ≡ settled_family c.args.asks.now first =
    c.settle.ensures ∙ ap (settled_family c.args.asks.now) (c.deref_mut.ensures.value ∙ ap (λ l. set l c.args.node c.args.event) none) in
    let long : length c.settle.new.lengths ≡ c.in_ok-family.family.len =
    omega (arith, ap length new, length_settled c.args.asks.now first, length_alone c.args.nodes c.args.node c.args.event, c.in_ok-family.ensures.len) in
    written_over _ c.settle.new.lengths _ long ∙ new
