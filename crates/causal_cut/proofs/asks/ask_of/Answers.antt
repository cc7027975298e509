use Rattle.std.proofs.Common.{◌≡◌, ◌∙◌, ◌<◌, ◌+◌, ℕ, suc, [], get_or, Some, None, ap, arith, length, sym}
use Rattle.group_state.specs.Moves.{event_of}
use Rattle.causal_cut.proofs.EventAsks.{found_ask, lost_ask}
use Rattle.causal_cut.proofs.ListPlaces.{place_within}
use Rattle.causal_cut.proofs.asks.ask_of.Goals as goal

pub returns-in_err-of : goal.returns-in_err-of
returns-in_err-of c =
    c.from_residual-in_err-of.ensures
    ∙ sym (lost_ask c.args.processes.now c.args.clocks.now (event_of c.args.event.now) c.in_ok-tag.tag c.in_ok-tag.was (sym c.node_of.ensures ∙ c.in_err-of.was))

pub overflow_cast-of : goal.overflow_cast-of
overflow_cast-of c =
    let within : c.in_ok-of.field-0 < length c.args.processes.now = place_within _ c.args.processes.now c.in_ok-of.field-0 (sym c.node_of.ensures ∙ c.in_ok-of.was) in
    omega (arith, within, c.requires.few)

pub returns-in_err-upto : goal.returns-in_err-upto
returns-in_err-upto c =
    c.from_residual-in_err-upto.ensures
    ∙ sym (found_ask c.args.processes.now c.args.clocks.now (event_of c.args.event.now) c.in_ok-tag.tag c.in_ok-of.field-0 None c.in_ok-tag.was (sym c.node_of.ensures ∙ c.in_ok-of.was)
    (sym c.number.ensures ∙ c.in_err-upto.was))

pub number-requires-clause-node : goal.number-requires-clause-node
number-requires-clause-node c =
    let within : c.in_ok-of.field-0 < length c.args.processes.now = place_within _ c.args.processes.now c.in_ok-of.field-0 (sym c.node_of.ensures ∙ c.in_ok-of.was) in
    omega (arith, within, c.requires.clocks.count)

pub returns : goal.returns
returns c =
    let number : c.count.result + 1 ≡ suc (length (get_or c.args.clocks.now c.args.event.now.node [])) = omega (arith, c.count.ensures.count) in
    ap (λ (n : ℕ). Some (record { node = c.args.event.now.node; number = n; of = c.in_ok-of.field-0; upto = c.in_ok-upto.upto })) number
    ∙ sym (found_ask c.args.processes.now c.args.clocks.now (event_of c.args.event.now) c.in_ok-tag.tag c.in_ok-of.field-0 (Some c.in_ok-upto.upto) c.in_ok-tag.was
    (sym c.node_of.ensures ∙ c.in_ok-of.was) (sym c.number.ensures ∙ c.in_ok-upto.was))
