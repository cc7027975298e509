use Rattle.std.proofs.Common.{◌∙◌, ◌<◌, Option, arith, length, subst}
use Rattle.group_state.specs.declared.event.GroupEvent.{GroupEvent}
use Rattle.group_state.specs.Moves.{GroupMoves}
use Rattle.causal_cut.proofs.GroupWalk.{clocks_ready, few_nodes, node_ready, walk_begins, walk_ends, walk_more}
use Rattle.causal_cut.proofs.walk.walk.Goals as goal

pub events-init : goal.events-init
events-init c =
    walk_begins c.args.group c.args.numbers.now c.in_ok-clocks.clocks c.new-asks.result.items c.requires.at c.requires.numbers c.in_ok-clocks.ensures c.new-asks.ensures.items

pub returns-in_default-clause-asks : goal.returns-in_default-clause-asks
returns-in_default-clause-asks c =
    let moves = subst (λ (e : Option GroupEvent). GroupMoves c.events.here c.forward.new.self e) c.in_default.is c.in_ok-event.ensures.moves in
    (walk_ends c.ordered.ensures.order c.ordered.ensures.sends c.args.group c.position.ensures.replayers c.position.ensures.fits c.args.numbers.now c.requires.numbers
    c.events.here c.forward.new.self c.events.clocks c.events.asks.items c.events.invariant moves).0

pub returns-in_default-clause-counts : goal.returns-in_default-clause-counts
returns-in_default-clause-counts c =
    let moves = subst (λ (e : Option GroupEvent). GroupMoves c.events.here c.forward.new.self e) c.in_default.is c.in_ok-event.ensures.moves in
    c.in_ok-counts.ensures
    ∙ (walk_ends c.ordered.ensures.order c.ordered.ensures.sends c.args.group c.position.ensures.replayers c.position.ensures.fits c.args.numbers.now c.requires.numbers
    c.events.here c.forward.new.self c.events.clocks c.events.asks.items c.events.invariant moves).1

pub push_ask-requires : goal.push_ask-requires
push_ask-requires c =
    let moves = subst (λ (e : Option GroupEvent). GroupMoves c.events.here c.forward.new.self e) c.in-Some.is c.in_ok-event.ensures.moves in
    record {
      few = few_nodes c.ordered.ensures.order c.ordered.ensures.sends c.args.group c.position.ensures.replayers c.position.ensures.fits c.args.numbers.now c.requires.numbers
          c.events.here c.forward.new.self c.events.clocks c.events.asks.items c.events.invariant;
      clocks = clocks_ready c.ordered.ensures.order c.ordered.ensures.sends c.args.group c.position.ensures.replayers c.position.ensures.fits c.args.numbers.now c.requires.numbers
          c.events.here c.forward.new.self c.events.clocks c.events.asks.items c.events.invariant;
      node = node_ready c.ordered.ensures.order c.ordered.ensures.sends c.args.group c.position.ensures.replayers c.position.ensures.fits c.args.numbers.now c.requires.numbers
          c.events.here c.forward.new.self c.events.clocks c.events.asks.items c.events.invariant c.in-Some.event moves;
    }

pub add-requires : goal.add-requires
add-requires c =
    let moves = subst (λ (e : Option GroupEvent). GroupMoves c.events.here c.forward.new.self e) c.in-Some.is c.in_ok-event.ensures.moves in
    let node : c.in-Some.event.node < length c.args.numbers.now =
    node_ready c.ordered.ensures.order c.ordered.ensures.sends c.args.group c.position.ensures.replayers c.position.ensures.fits c.args.numbers.now c.requires.numbers
    c.events.here c.forward.new.self c.events.clocks c.events.asks.items c.events.invariant c.in-Some.event moves in
    let clocks = clocks_ready c.ordered.ensures.order c.ordered.ensures.sends c.args.group c.position.ensures.replayers c.position.ensures.fits c.args.numbers.now c.requires.numbers
    c.events.here c.forward.new.self c.events.clocks c.events.asks.items c.events.invariant in
    omega (arith, node, clocks.count)

pub events-preserved : goal.events-preserved
events-preserved c =
    let moves = subst (λ (e : Option GroupEvent). GroupMoves c.events.here c.forward.new.self e) c.in-Some.is c.in_ok-event.ensures.moves in
    (walk_more c.ordered.ensures.order c.ordered.ensures.sends c.args.group c.position.ensures.replayers c.position.ensures.fits c.args.numbers.now c.requires.numbers
    c.events.here c.forward.new.self c.events.clocks c.events.asks.items c.events.invariant c.in-Some.event c.add.new.self c.push_ask.new.asks.items moves c.in_ok-add.ensures c.in_ok-push_ask.ensures).0

pub events-smaller : goal.events-smaller
events-smaller c =
    let moves = subst (λ (e : Option GroupEvent). GroupMoves c.events.here c.forward.new.self e) c.in-Some.is c.in_ok-event.ensures.moves in
    let more = walk_more c.ordered.ensures.order c.ordered.ensures.sends c.args.group c.position.ensures.replayers c.position.ensures.fits c.args.numbers.now c.requires.numbers
    c.events.here c.forward.new.self c.events.clocks c.events.asks.items c.events.invariant c.in-Some.event c.add.new.self c.push_ask.new.asks.items moves c.in_ok-add.ensures c.in_ok-push_ask.ensures in
    omega (arith, more.1, more.2)
