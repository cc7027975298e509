use Rattle.std.proofs.Common.{◌≡◌, ◌∙◌, ◌++◌, ℕ, Option, ap, arith, length, map, subst}
use Rattle.std.proofs.lemmas.List.{length-map}
use Rattle.lib_calls.specs.Entry.{entry_of}
use Rattle.proc_replay.specs.Replaying.{Replaying}
use Rattle.group_state.specs.declared.event.GroupEvent.{GroupEvent}
use Rattle.group_state.specs.Moves.{GroupMoves}
use Rattle.group_state.specs.Place.{group_count}
use Rattle.streams_command.specs.inside.Meanings.{IsToldOf}
use Rattle.streams_command.specs.Streams.{traffic_of_event}
use Rattle.streams_command.proofs.GroupWalk.{all_walked, is_next, one_walked, process_read}
use Rattle.streams_command.proofs.walking.walk.Goals as goal

pub returns-in_default : goal.returns-in_default
returns-in_default c =
    let moves = subst (λ (e : Option GroupEvent). GroupMoves c.events.here c.forward.new.self e) c.in_default.is c.in_ok-event.ensures.moves in
    all_walked c.args.replayers.items c.events.here c.forward.new.self c.events.told c.events.invariant moves

pub index-requires : goal.index-requires
index-requires c =
    let start = c.args.replayers.items in
    let event = c.in-Some.event in
    let moves = subst (λ (e : Option GroupEvent). GroupMoves c.events.here c.forward.new.self e) c.in-Some.is c.in_ok-event.ensures.moves in
    let next = is_next c.ordered.ensures.order c.stepwise.ensures c.unsent_is_free.ensures start c.events.here c.forward.new.self event c.events.told c.requires c.position.ensures.fits
    (omega (arith, c.position.type_inv, c.position.ensures.position)) c.events.invariant moves in
    let are : c.in_ok-processes.processes.items ≡ map (λ r. r.head.process) start = c.in_ok-processes.ensures ∙ ap (map (λ (r : Replaying). r.head.process)) c.deref-2.ensures.value in
    omega (arith, next.within, ap length are, length-map start (λ (r : Replaying). r.head.process), c.in_ok-processes.processes.ok.0)

pub tell-requires-clause-new : goal.tell-requires-clause-new
tell-requires-clause-new c =
    let start = c.args.replayers.items in
    let event = c.in-Some.event in
    let moves = subst (λ (e : Option GroupEvent). GroupMoves c.events.here c.forward.new.self e) c.in-Some.is c.in_ok-event.ensures.moves in
    let next = is_next c.ordered.ensures.order c.stepwise.ensures c.unsent_is_free.ensures start c.events.here c.forward.new.self event c.events.told c.requires c.position.ensures.fits
    (omega (arith, c.position.type_inv, c.position.ensures.position)) c.events.invariant moves in
    let are = c.in_ok-processes.ensures ∙ ap (map (λ (r : Replaying). r.head.process)) c.deref-2.ensures.value in
    rw (process_read start c.in_ok-processes.processes.items event.node c.index.result.now are next.within c.index.ensures) next.unsent

pub tell-requires-clause-odd : goal.tell-requires-clause-odd
tell-requires-clause-odd c =
    let start = c.args.replayers.items in
    let event = c.in-Some.event in
    let moves = subst (λ (e : Option GroupEvent). GroupMoves c.events.here c.forward.new.self e) c.in-Some.is c.in_ok-event.ensures.moves in
    let next = is_next c.ordered.ensures.order c.stepwise.ensures c.unsent_is_free.ensures start c.events.here c.forward.new.self event c.events.told c.requires c.position.ensures.fits
    (omega (arith, c.position.type_inv, c.position.ensures.position)) c.events.invariant moves in
    next.odd

pub tell-requires-clause-foreign : goal.tell-requires-clause-foreign
tell-requires-clause-foreign c =
    let start = c.args.replayers.items in
    let event = c.in-Some.event in
    let moves = subst (λ (e : Option GroupEvent). GroupMoves c.events.here c.forward.new.self e) c.in-Some.is c.in_ok-event.ensures.moves in
    let next = is_next c.ordered.ensures.order c.stepwise.ensures c.unsent_is_free.ensures start c.events.here c.forward.new.self event c.events.told c.requires c.position.ensures.fits
    (omega (arith, c.position.type_inv, c.position.ensures.position)) c.events.invariant moves in
    next.foreign

pub events-preserved : goal.events-preserved
events-preserved c =
    let start = c.args.replayers.items in
    let event = c.in-Some.event in
    let moves = subst (λ (e : Option GroupEvent). GroupMoves c.events.here c.forward.new.self e) c.in-Some.is c.in_ok-event.ensures.moves in
    let next = is_next c.ordered.ensures.order c.stepwise.ensures c.unsent_is_free.ensures start c.events.here c.forward.new.self event c.events.told c.requires c.position.ensures.fits
    (omega (arith, c.position.type_inv, c.position.ensures.position)) c.events.invariant moves in
    let are = c.in_ok-processes.ensures ∙ ap (map (λ (r : Replaying). r.head.process)) c.deref-2.ensures.value in
    let process = process_read start c.in_ok-processes.processes.items event.node c.index.result.now are next.within c.index.ensures in
    let count : c.group_count-count.result ≡ group_count start = c.group_count-count.ensures ∙ ap group_count c.deref.ensures.value in
    one_walked start c.events.here c.forward.new.self event c.events.told c.tell.new.self c.events.invariant next
    (λ early is. subst (λ (p : ℕ). IsToldOf c.tell.new.self (traffic_of_event (group_count start) p (entry_of event.entry) ++ early)) process
    (subst (λ (n : ℕ). IsToldOf c.tell.new.self (traffic_of_event n c.index.result.now (entry_of event.entry) ++ early)) count (c.in_ok-tell.ensures early is)))
