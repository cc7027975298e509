use Rattle.std.proofs.Common.{◌≡◌, ◌∙◌, List, ap, length, subst, sym}
use Rattle.causal_cut.specs.declared.asks.Ask.{Ask}
use Rattle.causal_cut.specs.inside.Asks.{AreOfNodes, settled_family}
use Rattle.causal_cut.proofs.SettledFamily.{length_follow, settled_last, within_parts}
use Rattle.causal_cut.proofs.settle.settle.Goals as goal

pub loop-ask-preserved : goal.loop-ask-preserved
loop-ask-preserved c =
    let left = c.next.new.self.iter.rest.now in
    let ask = c.in-Some.ask.now in
    let family = c.loop-ask.lengths in
    let within = within_parts (length family) left ask (subst (AreOfNodes (length family)) c.in-Some.ensures.steps c.loop-ask.invariant.1) in
    subst (λ ns. (settled_family left ns ≡ settled_family c.args.asks.now c.args.lengths.now) × AreOfNodes (length ns) left) (sym c.follow_ask.ensures) (
      sym (settled_last left ask family) ∙ ap (λ (asks : List Ask). settled_family asks family) (sym c.in-Some.ensures.steps) ∙ c.loop-ask.invariant.0,
      subst (λ n. AreOfNodes n left) (sym (length_follow ask family)) within.0,
    )

pub follow_ask-requires : goal.follow_ask-requires
follow_ask-requires c =
    let family = c.loop-ask.lengths in
    let within = within_parts (length family) c.next.new.self.iter.rest.now c.in-Some.ask.now (subst (AreOfNodes (length family)) c.in-Some.ensures.steps c.loop-ask.invariant.1) in
    record { node = within.1; of = within.2 }
