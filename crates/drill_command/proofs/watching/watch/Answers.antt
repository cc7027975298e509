use Rattle.std.proofs.Common.{◌≡◌, ◌∙◌, ◌+◌, ◌≤◌, Bool, true, false, cond, not, suc, ap, arith, sym}
use Rattle.std.specs.Prelude.{is_some}
use Rattle.group_state.specs.Nodes.{nodes_at}
use Rattle.page_watch.specs.Firing.{is_same_value}
use Rattle.watch_expr.specs.Reads.{no_variables}
use Rattle.watch_expr.specs.Value.{value}
use Rattle.drill_command.proofs.PositionWalk.{all_watched, fired_within, moves_on, one_walked}
use Rattle.group_state.specs.Place.{GroupPlace}
use Rattle.drill_command.proofs.watching.watch.Goals as goal

pub returns-then-is_none : goal.returns-then-is_none
returns-then-is_none c =
    let none : is_some c.in_ok-event.event ≡ false = c.is_none.ensures ∙ ap not c.if-is_none.true in
    all_watched c.args.group c.positions.here c.forward.new.self c.in_ok-event.event c.position-events.result c.positions.firings c.positions.last c.positions.invariant.0 c.in_ok-event.ensures.moves none c.position-events.ensures.position

pub overflow_add-firings : goal.overflow_add-firings
overflow_add-firings c =
    let some : is_some c.in_ok-event.event ≡ true = c.is_none.ensures ∙ ap not c.if-is_none.false in
    let went = moves_on c.positions.here c.forward.new.self c.in_ok-event.event some c.in_ok-event.ensures.moves in
    let at : c.forward.new.self.at ≡ suc c.positions.here.at = ap (λ (p : GroupPlace). p.at) went.0 in
    let below : c.positions.firings + 1 ≤ c.position-events.result =
    omega (arith, c.positions.invariant.0.fired, fired_within c.args.group.start c.positions.here.at, at, c.position-events.ensures.position) in
    omega (arith, below, c.position-events.type_inv)

pub positions-preserved-then-not-is_same_value : goal.positions-preserved-then-not-is_same_value
positions-preserved-then-not-is_same_value c =
    let some : is_some c.in_ok-event.event ≡ true = c.is_none.ensures ∙ ap not c.if-is_none.false in
    let other : not (is_same_value c.positions.last c.eval-now.result) ≡ true = ap not (sym c.is_same_value.ensures ∙ c.if-not-is_same_value.true) in (
      one_walked c.args.group c.positions.here c.forward.new.self c.in_ok-event.event c.positions.firings (c.positions.firings + 1) c.positions.last c.eval-now.result
          c.positions.invariant.0 c.in_ok-event.ensures.moves some (c.eval-now.ensures ∙ ap (value (nodes_at c.forward.new.self) no_variables) c.positions.invariant.1) (sym (ap (λ (b : Bool). c.positions.firings + cond b 1 0) other)),
      c.positions.invariant.1,
    )

pub positions-preserved : goal.positions-preserved
positions-preserved c =
    let some : is_some c.in_ok-event.event ≡ true = c.is_none.ensures ∙ ap not c.if-is_none.false in
    let same : not (is_same_value c.positions.last c.eval-now.result) ≡ false = ap not (sym c.is_same_value.ensures ∙ c.if-not-is_same_value.false) in
    let none_more : c.positions.firings ≡ c.positions.firings + 0 = omega arith in (
      one_walked c.args.group c.positions.here c.forward.new.self c.in_ok-event.event c.positions.firings c.positions.firings c.positions.last c.eval-now.result
          c.positions.invariant.0 c.in_ok-event.ensures.moves some (c.eval-now.ensures ∙ ap (value (nodes_at c.forward.new.self) no_variables) c.positions.invariant.1) (none_more ∙ sym (ap (λ (b : Bool). c.positions.firings + cond b 1 0) same)),
      c.positions.invariant.1,
    )
