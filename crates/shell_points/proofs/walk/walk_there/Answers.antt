use Rattle.std.proofs.Common.{◌≡◌, ◌-◌, ◌∙◌, ◌++◌, List, ℕ, codes, length, map, ap, subst, refl, sym, arith}
use Rattle.group_state.specs.Place.{GroupPlace, events_of_replays}
use Rattle.shell_points.specs.declared.point.Point.{Point as Held}
use Rattle.shell_points.specs.Meanings.{PointsWalk}
use Rattle.shell_points.specs.inside.Meanings.{point, run_so_far}
use Rattle.shell_points.specs.Walking.{lines_in, steps_of, walk_over}
use Rattle.shell_points.specs.Watching.{watched_expressions}
use Rattle.shell_points.proofs.PointWalks.{ends_there, goes_further, goes_on, lines_append, next_place, pauses_there, stops_there}
use Rattle.shell_points.proofs.PointReads.{moved_on, read_before, read_now, ticked, ticks_none}
use Rattle.shell_points.proofs.walk.walk_there.Goals as goal

pub positions-init : goal.positions-init
positions-init g c = record {
  start = refl;
  within = c.position.ensures.within;
  after = omega arith;
  read = c.in_ok-watching.ensures;
  few = omega (arith, ap lines_in c.requires);
  ahead = ap (λ (text : List ℕ). walk_over c.args.group.now.start (map {A = Held} point c.args.points.now) c.args.group.now.at (steps_of c.args.most (length (events_of_replays c.args.group.now.start) - c.args.group.now.at)) c.args.variables.now text) c.requires;
  ticks = omega (arith, ticks_none c.args.group.now.start (watched_expressions (map {A = Held} point c.args.points.now)) c.args.group.now.at);
}

pub returns-then-is_over-clause-walks : goal.returns-then-is_over-clause-walks
returns-then-is_over-clause-walks g c =
    let i = c.positions.invariant in
    let ps = map {A = Held} point c.args.points.now in
    subst (PointsWalk c.args.group.now ps c.args.variables.now c.args.most c.positions.group c.positions.variables) (sym c.in_ok-push_last_word.ensures)
    (ends_there c.args.group.now ps c.args.variables.now c.positions.variables c.args.most c.positions.left c.positions.group c.positions.text (sym c.is_over.ensures ∙ c.if-is_over.true) i.start i.ahead)

pub meet_event-requires-clause-moved : goal.meet_event-requires-clause-moved
meet_event-requires-clause-moved g c =
    let some = goes_further c.args.group.now c.positions.group c.positions.left (sym c.is_over.ensures ∙ c.if-is_over.false) c.positions.invariant.start in
    let there = next_place c.args.group.now c.positions.group c.forward.new.self _ c.positions.left some c.in_ok-forward.ensures.moves c.positions.invariant.start in
    moved_on c.args.group.now.start c.positions.group.at c.forward.new.self there.0

pub meet_event-requires-clause-before : goal.meet_event-requires-clause-before
meet_event-requires-clause-before g c =
    let i = c.positions.invariant in
    let some = goes_further c.args.group.now c.positions.group c.positions.left (sym c.is_over.ensures ∙ c.if-is_over.false) i.start in
    let there = next_place c.args.group.now c.positions.group c.forward.new.self _ c.positions.left some c.in_ok-forward.ensures.moves i.start in
    read_before c.args.group.now.start c.positions.group.at (map {A = Held} point c.args.points.now) c.positions.watching c.forward.new.self there.0 i.read

pub returns-then-treated-clause-walks : goal.returns-then-treated-clause-walks
returns-then-treated-clause-walks g c =
    let i = c.positions.invariant in
    let ps = map {A = Held} point c.args.points.now in
    let r = run_so_far c.meet_event.new.variables c.in_ok-now.treated in
    let some = goes_further c.args.group.now c.positions.group c.positions.left (sym c.is_over.ensures ∙ c.if-is_over.false) i.start in
    let there = next_place c.args.group.now c.positions.group c.forward.new.self _ c.positions.left some c.in_ok-forward.ensures.moves i.start in
    subst (PointsWalk c.args.group.now ps c.args.variables.now c.args.most c.forward.new.self c.meet_event.new.variables)
    (sym (c.in_ok-push_bytes.ensures.ok ∙ ap (λ (b : List ℕ). c.positions.text ++ b) c.bytes.ensures))
    (stops_there c.args.group.now ps c.args.variables.now c.positions.variables c.args.most c.positions.left c.positions.group.at c.forward.new.self c.positions.text r there.0 some i.ahead c.in_ok-now.ensures.treated c.if-treated.true)

pub returns-then-treated-clause-ticks : goal.returns-then-treated-clause-ticks
returns-then-treated-clause-ticks g c =
    let i = c.positions.invariant in
    let some = goes_further c.args.group.now c.positions.group c.positions.left (sym c.is_over.ensures ∙ c.if-is_over.false) i.start in
    let there = next_place c.args.group.now c.positions.group c.forward.new.self _ c.positions.left some c.in_ok-forward.ensures.moves i.start in
    ticked c.args.group.now.start (watched_expressions (map {A = Held} point c.args.points.now)) c.args.group.now.at c.positions.group.at c.forward.new.self c.args.steps.now c.positions.steps c.meet_event.new.steps
    i.after there.0 i.ticks c.in_ok-now.ensures.ticks

pub returns-then-lines-room-clause-walks : goal.returns-then-lines-room-clause-walks
returns-then-lines-room-clause-walks g c =
    let i = c.positions.invariant in
    let ps = map {A = Held} point c.args.points.now in
    let r = run_so_far c.meet_event.new.variables c.in_ok-now.treated in
    let some = goes_further c.args.group.now c.positions.group c.positions.left (sym c.is_over.ensures ∙ c.if-is_over.false) i.start in
    let there = next_place c.args.group.now c.positions.group c.forward.new.self _ c.positions.left some c.in_ok-forward.ensures.moves i.start in
    subst (PointsWalk c.args.group.now ps c.args.variables.now c.args.most c.forward.new.self c.meet_event.new.variables)
    (sym (c.in_ok-push_str.ensures.ok ∙ ap (λ (t : List ℕ). t ++ codes "paused\n") (c.in_ok-push_bytes.ensures.ok ∙ ap (λ (b : List ℕ). c.positions.text ++ b) c.bytes.ensures)))
    (pauses_there c.args.group.now ps c.args.variables.now c.positions.variables c.args.most c.positions.left c.positions.group.at c.forward.new.self c.positions.text r there.0 some i.ahead c.in_ok-now.ensures.treated c.if-treated.false
    (omega (arith, i.few, c.lines_in-lines.ensures, c.if-lines-room.true)))

pub returns-then-lines-room-clause-ticks : goal.returns-then-lines-room-clause-ticks
returns-then-lines-room-clause-ticks g c =
    let i = c.positions.invariant in
    let some = goes_further c.args.group.now c.positions.group c.positions.left (sym c.is_over.ensures ∙ c.if-is_over.false) i.start in
    let there = next_place c.args.group.now c.positions.group c.forward.new.self _ c.positions.left some c.in_ok-forward.ensures.moves i.start in
    ticked c.args.group.now.start (watched_expressions (map {A = Held} point c.args.points.now)) c.args.group.now.at c.positions.group.at c.forward.new.self c.args.steps.now c.positions.steps c.meet_event.new.steps
    i.after there.0 i.ticks c.in_ok-now.ensures.ticks

pub positions-smaller : goal.positions-smaller
positions-smaller g c =
    let some = goes_further c.args.group.now c.positions.group c.positions.left (sym c.is_over.ensures ∙ c.if-is_over.false) c.positions.invariant.start in
    let there = next_place c.args.group.now c.positions.group c.forward.new.self _ c.positions.left some c.in_ok-forward.ensures.moves c.positions.invariant.start in
    omega (arith, ap (λ (p : GroupPlace). p.at) there.0, there.1)

pub positions-preserved : goal.positions-preserved
positions-preserved g c =
    let i = c.positions.invariant in
    let first = c.args.group.now in
    let at = c.positions.group.at in
    let next = c.forward.new.self in
    let ps = map {A = Held} point c.args.points.now in
    let r = run_so_far c.meet_event.new.variables c.in_ok-now.treated in
    let text = c.positions.text in
    let some = goes_further first c.positions.group c.positions.left (sym c.is_over.ensures ∙ c.if-is_over.false) i.start in
    let there = next_place first c.positions.group next _ c.positions.left some c.in_ok-forward.ensures.moves i.start in
    let said : c.push_bytes.new.self ≡ text ++ r.text = c.in_ok-push_bytes.ensures.ok ∙ ap (λ (b : List ℕ). text ++ b) c.bytes.ensures in
    record {
      start = ap (λ (p : GroupPlace). p.start) there.0;
      within = omega (arith, there.1, ap (λ (p : GroupPlace). p.at) there.0);
      after = omega (arith, i.after, ap (λ (p : GroupPlace). p.at) there.0);
      read = read_now first.start at ps c.in_ok-now.now next there.0 c.in_ok-now.ensures.now;
      few = omega (arith, lines_append text r.text, i.few, c.lines_in-lines.ensures, c.if-lines-room.false, ap lines_in said);
      ahead = ap (λ (t : List ℕ). walk_over first.start ps next.at (steps_of c.one_less-left.result (length (events_of_replays first.start) - next.at)) r.variables t) said
          ∙ goes_on first ps c.args.variables.now c.positions.variables c.args.most c.positions.left at next text r there.0 some i.ahead c.in_ok-now.ensures.treated c.one_less-left.result c.one_less-left.ensures c.if-treated.false
          (omega (arith, i.few, c.lines_in-lines.ensures, c.if-lines-room.false));
      ticks = ticked first.start (watched_expressions ps) first.at at next c.args.steps.now c.positions.steps c.meet_event.new.steps i.after there.0 i.ticks c.in_ok-now.ensures.ticks;
    }
