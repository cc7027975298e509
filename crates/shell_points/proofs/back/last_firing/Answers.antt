use Rattle.std.proofs.Common.{◌≡◌, ◌∙◌, ◌++◌, List, ℕ, codes, map, suc, ap, subst, sym, refl, arith}
use Rattle.proc_replay.specs.Replaying.{Replaying}
use Rattle.group_state.specs.Place.{GroupPlace}
use Rattle.group_state.specs.Touch.{watch_ticks}
use Rattle.shell_points.specs.declared.point.Point.{Point as Held}
use Rattle.shell_points.specs.Firing.{place_at}
use Rattle.shell_points.specs.Returning.{return_from}
use Rattle.shell_points.specs.inside.Meanings.{point, return_of}
use Rattle.shell_points.specs.inside.Reading.{SaysAt}
use Rattle.shell_points.proofs.LastFiring.{begins_so, goes_to, later_last}
use Rattle.shell_points.specs.Watching.{watched_expressions}
use Rattle.shell_points.proofs.PointReads.{moved_on, read_before, read_now, ticked_from_start}
use Rattle.shell_points.proofs.back.last_firing.Goals as goal

pub positions-init : goal.positions-init
positions-init g c = record {
  start = refl;
  within = omega arith;
  read = c.in_ok-watching.ensures;
  last = begins_so c.args.group.now.start (map {A = Held} point c.args.points.now) c.args.group.now.at c.push_str.new.self c.requires.begins
      (c.in_ok-push_str.ensures.ok ∙ ap (λ (t : List ℕ). t ++ codes "start\n") c.new-text.ensures);
  ticks = omega (arith, ap (watch_ticks c.args.group.now.start (watched_expressions (map {A = Held} point c.args.points.now)) 0) c.requires.begins);
}

pub hear_event-requires-clause-moved : goal.hear_event-requires-clause-moved
hear_event-requires-clause-moved g c =
    let old = c.positions.group in
    let next = c.forward.new.self in
    let went = goes_to c.args.group.now old next _ c.args.count c.positions.invariant.start (omega arith) c.requires.within c.in_ok-forward.ensures.moves in
    moved_on c.args.group.now.start old.at next went

pub hear_event-requires-clause-before : goal.hear_event-requires-clause-before
hear_event-requires-clause-before g c =
    let old = c.positions.group in
    let next = c.forward.new.self in
    let went = goes_to c.args.group.now old next _ c.args.count c.positions.invariant.start (omega arith) c.requires.within c.in_ok-forward.ensures.moves in
    read_before c.args.group.now.start old.at (map {A = Held} point c.args.points.now) c.positions.watching next went c.positions.invariant.read

pub positions-smaller : goal.positions-smaller
positions-smaller g c =
    let old = c.positions.group in
    let went = goes_to c.args.group.now old c.forward.new.self _ c.args.count c.positions.invariant.start (omega arith) c.requires.within c.in_ok-forward.ensures.moves in
    let at : c.forward.new.self.at ≡ suc old.at = ap (λ (p : GroupPlace). p.at) went in
    omega (arith, at)

pub positions-preserved : goal.positions-preserved
positions-preserved g c =
    let i = c.positions.invariant in
    let start = c.args.group.now.start in
    let old = c.positions.group in
    let next = c.forward.new.self in
    let ps = map {A = Held} point c.args.points.now in
    let went = goes_to c.args.group.now old next _ c.args.count i.start (omega arith) c.requires.within c.in_ok-forward.ensures.moves in
    let at : next.at ≡ suc old.at = ap (λ (p : GroupPlace). p.at) went in
    let same : next.start ≡ start = ap (λ (p : GroupPlace). p.start) went in
    record {
      start = same;
      within = omega (arith, at);
      read = read_now start old.at ps c.in_ok-now.now next went c.in_ok-now.ensures.now;
      last = later_last start ps next.at c.position-in-positions.result (return_of c.positions.last) (return_of c.later-last.result) c.in_ok-now.said c.position-in-positions.ensures.position
          (subst (λ (s : List Replaying). SaysAt s next.at ps c.in_ok-now.said) same c.in_ok-now.ensures.said) (i.last ∙ ap (λ (n : ℕ). return_from (place_at start n) ps) (sym at)) c.later-last.ensures;
      ticks = ticked_from_start start (watched_expressions ps) old.at next c.args.steps.now c.positions.steps c.hear_event.new.steps went i.ticks c.in_ok-now.ensures.ticks;
    }
