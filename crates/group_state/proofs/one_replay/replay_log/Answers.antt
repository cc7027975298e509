use Rattle.std.proofs.Common.{ap, refl, sym, subst, length, arith}
use Rattle.lib_calls.specs.Entry.{entry_of}
use Rattle.call_log.specs.Head.{Head}
use Rattle.guest_process.specs.declared.verdict.Verdict.TheVariants.{Diverged}
use Rattle.guest_process.specs.Replay.{left_over}
use Rattle.proc_replay.specs.Course.{TellsVerdict}
use Rattle.proc_replay.specs.Replaying.{Replaying, turn}
use Rattle.group_state.proofs.ReplayTurns.{ends, next_new, next_room, prints_all, prints_first, prints_more, tallies_all, tallies_first, tallies_more}
use Rattle.group_state.proofs.one_replay.replay_log.Goals as goal

pub turns-init : goal.turns-init
turns-init c = (tallies_first _ _ _ (ap (λ (h : Head). h.process) c.head-process.ensures) c.requires.new c.requires.room, prints_first _ _ _)

pub add-requires-clause-new : goal.add-requires-clause-new
add-requires-clause-new c =
    let is = rw c.in-Event.is at c.in_ok-next.ensures.turn in
    next_new c.replays.ensures.turn _ _ _ _ _ (entry_of c.in-Event.entry) c.turns.invariant.0 (sym is)

pub add-requires-clause-room : goal.add-requires-clause-room
add-requires-clause-room c =
    let is = rw c.in-Event.is at c.in_ok-next.ensures.turn in
    next_room c.replays.ensures.turn _ _ _ _ _ (entry_of c.in-Event.entry) c.turns.invariant.0 (sym is)

pub turns-smaller : goal.turns-smaller
turns-smaller c =
    let is = rw c.in-Event.is at c.in_ok-next.ensures.turn in
    let takes = (c.replays.ensures.turn c.turns.replayer).takes (entry_of c.in-Event.entry) (sym is) in
    omega (arith, takes, ap (λ (r : Replaying). length r.left.bytes) c.in_ok-next.ensures.after)

pub turns-preserved : goal.turns-preserved
turns-preserved c =
    let is = rw c.in-Event.is at c.in_ok-next.ensures.turn in (
      tallies_more c.replays.ensures.turn _ _ _ _ _ _ _ (entry_of c.in-Event.entry) c.turns.invariant.0 (sym is) c.in_ok-next.ensures.after c.in_ok-add-in-Event.ensures,
      prints_more c.replays.ensures.turn _ _ _ _ _ _ _ (entry_of c.in-Event.entry) c.turns.invariant.1 (sym is) c.in_ok-next.ensures.after c.in_ok-push_printed-in-Event.ensures,
    )

pub returns-in-LogEnd-clause-tally : goal.returns-in-LogEnd-clause-tally
returns-in-LogEnd-clause-tally c =
    let r = c.turns.replayer in
    let is = rw c.in-LogEnd.is at c.in_ok-next.ensures.turn in
    let tells : TellsVerdict (turn r) r.left.bytes (left_over r.left.bytes) = subst (λ t. TellsVerdict t r.left.bytes (left_over r.left.bytes)) is refl in
    tallies_all c.replays.ensures.turn _ _ _ _ _ _ c.turns.invariant.0 tells

pub returns-in-LogEnd-clause-ends : goal.returns-in-LogEnd-clause-ends
returns-in-LogEnd-clause-ends c =
    let r = c.turns.replayer in
    let is = rw c.in-LogEnd.is at c.in_ok-next.ensures.turn in
    let tells : TellsVerdict (turn r) r.left.bytes (left_over r.left.bytes) = subst (λ t. TellsVerdict t r.left.bytes (left_over r.left.bytes)) is refl in
    ends c.replays.ensures.turn _ _ _ _ c.turns.invariant.0.follows c.in_ok-next.ensures.after tells

pub returns-in-Diverged-clause-tally : goal.returns-in-Diverged-clause-tally
returns-in-Diverged-clause-tally c =
    let r = c.turns.replayer in
    let v = Diverged c.in-Diverged.field-0 c.in-Diverged.field-1 in
    let is = rw c.in-Diverged.is at c.in_ok-next.ensures.turn in
    let tells : TellsVerdict (turn r) r.left.bytes v = subst (λ t. TellsVerdict t r.left.bytes v) is refl in
    tallies_all c.replays.ensures.turn _ _ _ _ _ _ c.turns.invariant.0 tells

pub returns-in-Diverged-clause-ends : goal.returns-in-Diverged-clause-ends
returns-in-Diverged-clause-ends c =
    let r = c.turns.replayer in
    let v = Diverged c.in-Diverged.field-0 c.in-Diverged.field-1 in
    let is = rw c.in-Diverged.is at c.in_ok-next.ensures.turn in
    let tells : TellsVerdict (turn r) r.left.bytes v = subst (λ t. TellsVerdict t r.left.bytes v) is refl in
    ends c.replays.ensures.turn _ _ _ _ c.turns.invariant.0.follows c.in_ok-next.ensures.after tells

pub returns-in-LogEnd-clause-out : goal.returns-in-LogEnd-clause-out
returns-in-LogEnd-clause-out c =
    let r = c.turns.replayer in
    let is = rw c.in-LogEnd.is at c.in_ok-next.ensures.turn in
    let tells : TellsVerdict (turn r) r.left.bytes (left_over r.left.bytes) = subst (λ t. TellsVerdict t r.left.bytes (left_over r.left.bytes)) is refl in
    prints_all c.replays.ensures.turn _ _ _ _ _ _ c.turns.invariant.1 tells

pub returns-in-Diverged-clause-out : goal.returns-in-Diverged-clause-out
returns-in-Diverged-clause-out c =
    let r = c.turns.replayer in
    let v = Diverged c.in-Diverged.field-0 c.in-Diverged.field-1 in
    let is = rw c.in-Diverged.is at c.in_ok-next.ensures.turn in
    let tells : TellsVerdict (turn r) r.left.bytes v = subst (λ t. TellsVerdict t r.left.bytes v) is refl in
    prints_all c.replays.ensures.turn _ _ _ _ _ _ c.turns.invariant.1 tells
