use Rattle.std.proofs.Common.{Option, subst}
use Rattle.group_state.specs.declared.event.GroupEvent.{GroupEvent}
use Rattle.group_state.specs.Moves.{GroupMoves}
use Rattle.schedule_back.proofs.GroupWalk.{all_walked, one_walked}
use Rattle.schedule_back.proofs.draft.walk.Goals as goal

pub returns-in_default-clause-draft : goal.returns-in_default-clause-draft
returns-in_default-clause-draft c =
    let moves = subst (λ (e : Option GroupEvent). GroupMoves c.events.group c.forward.new.self e) c.in_default.is c.in_ok-event.ensures.moves in
    (all_walked c.args.group.now c.events.group c.forward.new.self c.args.draft c.events.longer c.events.invariant moves).draft

pub returns-in_default-clause-bytes : goal.returns-in_default-clause-bytes
returns-in_default-clause-bytes c =
    let moves = subst (λ (e : Option GroupEvent). GroupMoves c.events.group c.forward.new.self e) c.in_default.is c.in_ok-event.ensures.moves in
    (all_walked c.args.group.now c.events.group c.forward.new.self c.args.draft c.events.longer c.events.invariant moves).bytes

pub events-preserved : goal.events-preserved
events-preserved c =
    let moves = subst (λ (e : Option GroupEvent). GroupMoves c.events.group c.forward.new.self e) c.in-Some.is c.in_ok-event.ensures.moves in
    (one_walked c.args.group.now c.events.group c.forward.new.self c.in-Some.event c.args.draft c.events.longer c.in_ok-longer.longer c.events.invariant moves c.in_ok-longer.ensures c.are_bytes.ensures).0
