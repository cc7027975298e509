use Rattle.std.proofs.Common.{ap, length, subst, sym, ◌∙◌, arith}
use Rattle.lib_calls.specs.Entry.{entry_of}
use Rattle.call_log.specs.Log.{Log}
use Rattle.guest_process.specs.State.{State}
use Rattle.proc_replay.specs.declared.replayer.Ahead.{Ahead}
use Rattle.proc_replay.specs.inside.Ahead.{IsLookahead, replaying}
use Rattle.proc_replay.specs.Meanings.{move_of}
use Rattle.proc_replay.proofs.NextEntry.{made}
use Rattle.proc_replay.proofs.replayer.Replayer.next_event.Goals as goal

pub advance-requires-clause-legal : goal.advance-requires-clause-legal
advance-requires-clause-legal c =
    let r = replaying c.self.inside.process c.self.inside.ahead.value.log in
    let makes = sym c.self.invariant.ahead.tells ∙ ap (λ (a : Ahead). move_of a.turn) (sym c.deref.ensures) ∙ ap move_of c.in-Event.is in
    (made c.entry_by_entry.ensures.step c.entry_by_entry.ensures.end r (entry_of c.in-Event.entry) makes).legal

pub go_on-requires : goal.go_on-requires
go_on-requires c =
    let r = replaying c.self.inside.process c.self.inside.ahead.value.log in
    let e = entry_of c.in-Event.entry in
    let makes = sym c.self.invariant.ahead.tells ∙ ap (λ (a : Ahead). move_of a.turn) (sym c.deref.ensures) ∙ ap move_of c.in-Event.is in
    let m = made c.entry_by_entry.ensures.step c.entry_by_entry.ensures.end r e makes in
    let one = c.counting.ensures.counted c.self.inside.process e m.legal in
    let count = ap (λ (S : State). S.events) c.in_ok-process.ensures ∙ one in
    let left = ap (λ (a : Ahead). length a.following.left.bytes) c.deref_mut.ensures.value ∙ ap (λ (log : Log). length log.left.bytes) (c.self.invariant.ahead.leaves e makes) in
    record { room = omega (arith, c.self.invariant.room.room, m.shorter, left, count) }

pub invariant_of-result-2 : goal.invariant_of-result-2
invariant_of-result-2 c =
    let r = replaying c.self.inside.process c.self.inside.ahead.value.log in
    let e = entry_of c.in-Event.entry in
    let makes = sym c.self.invariant.ahead.tells ∙ ap (λ (a : Ahead). move_of a.turn) (sym c.deref.ensures) ∙ ap move_of c.in-Event.is in
    let m = made c.entry_by_entry.ensures.step c.entry_by_entry.ensures.end r e makes in
    let one = c.counting.ensures.counted c.self.inside.process e m.legal in
    let count = ap (λ (S : State). S.events) c.in_ok-process.ensures ∙ one in
    let following = ap (λ (a : Ahead). length a.following.left.bytes) c.deref_mut.ensures.value ∙ ap (λ (log : Log). length log.left.bytes) (c.self.invariant.ahead.leaves e makes) in
    let left = ap (λ (log : Log). length log.left.bytes) c.go_on.ensures.log ∙ following in
    record {
      room = record { room = omega (arith, c.self.invariant.room.room, m.shorter, left, count) };
      ahead = subst (λ (log : Log). IsLookahead (replaying c.in_ok-process.process log) c.go_on.new.self.turn c.go_on.new.self.following) (sym c.go_on.ensures.log) c.go_on.ensures.ahead;
    }
