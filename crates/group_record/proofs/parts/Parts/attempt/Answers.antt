use Rattle.std.proofs.Common.{◌≡◌, ◌∙◌, Some, length, ap, subst, sym}
use Rattle.std.proofs.lemmas.Option.{same_Some}
use Rattle.lib_calls.specs.Entry.{entry_of}
use Rattle.guest_process.specs.State.{State}
use Rattle.group_record.specs.declared.member.Member.{Member}
use Rattle.group_record.specs.inside.Around.{env_of}
use Rattle.group_record.specs.inside.Members.{spelled_entry}
use Rattle.group_record.specs.inside.Recorded.{IsLiveEntry}
use Rattle.group_world.specs.World.{process_count}
use Rattle.group_record.proofs.LiveGroups.{can_take, counts_one, few_there, live_idles, tried_so}
use Rattle.group_record.proofs.RecorderSteps.{never_away}
use Rattle.group_record.proofs.SharedLemmas.{at_place, only_one}
use Rattle.group_record.proofs.SpelledEvents.{ends_with, lent_same, spelled_same}
use Rattle.group_record.proofs.parts.Parts.attempt.Goals as goal

pub unreachable-requires : goal.unreachable-requires
unreachable-requires c =
    let m = c.index-member.result.now in
    let s = c.requires.sound.each c.args.p m (at_place c.args.self.now.members.items c.args.p m c.requires.process c.index-member.ensures) in
    never_away m.process s.state s.process c.in_default.is

pub live_event-requires-clause-group : goal.live_event-requires-clause-group
live_event-requires-clause-group c =
    let m = c.index-member.result.now in
    let s = c.requires.sound.each c.args.p m (at_place c.args.self.now.members.items c.args.p m c.requires.process c.index-member.ensures) in
    ap (λ (S : State). S.count) (same_Some _ _ (sym c.in-Some.is ∙ s.process)) ∙ s.count_is

pub live_event-requires-clause-few : goal.live_event-requires-clause-few
live_event-requires-clause-few c =
    let m = c.index-member.result.now in
    let s = c.requires.sound.each c.args.p m (at_place c.args.self.now.members.items c.args.p m c.requires.process c.index-member.ensures) in
    few_there (process_count c.args.self.now.world) m c.in-Some.process s c.in-Some.is

pub returns-in_default-live_event-clause-tries : goal.returns-in_default-live_event-clause-tries
returns-in_default-live_event-clause-tries c = λ group steps lives.
    let m = c.index-member.result.now in
    let at = at_place c.args.self.now.members.items c.args.p m c.requires.process c.index-member.ensures in
    let none = rw c.in_default-live_event.is at c.live_event.ensures.tells in
    (live_idles c.by_counting.ensures.counted group steps c.args.self.now c.args.p c.args.thread m c.in-Some.process lives c.requires.process at c.in-Some.is none, lives)

pub spell_event-requires : goal.spell_event-requires
spell_event-requires c = record { shape = (rw c.in-Some-live_event.is at c.live_event.ensures.tells).logged; plain = rw c.in-Some-live_event.is at c.live_event.ensures.plain }

pub spelled_event-entry-requires-clause-ends : goal.spelled_event-entry-requires-clause-ends
spelled_event-entry-requires-clause-ends c =
    let tells = rw c.in-Some-live_event.is at c.live_event.ensures.tells in
    ends_with c.in-Some.process c.in-Some-live_event.event c.index-member.result.now.last c.in_ok-start.start c.spell_event.new.bytes.items c.deref.result.now c.in_ok-start.ensures tells.logged c.deref.ensures.value

pub take_entry-requires-clause-event : goal.take_entry-requires-clause-event
take_entry-requires-clause-event c = λ other there.
    let m = c.index-member.result.now in
    let env = env_of c.args.self.now.world c.args.p in
    let entry = entry_of c.spelled_event-entry.result in
    let same = only_one c.args.self.now.members.items c.args.p m other c.requires.process c.index-member.ensures there in
    let lent = lent_same c.in-Some.process c.in-Some-live_event.event m.last c.in_ok-start.start c.spell_event.new.bytes.items c.deref.result.now entry c.in_ok-start.ensures c.deref.ensures.value c.spelled_event-entry.ensures in
    let tells = subst (IsLiveEntry c.in-Some.process c.args.thread env) lent (rw c.in-Some-live_event.is at c.live_event.ensures.tells) in
    let process : other.process ≡ Some c.in-Some.process = ap (λ (m : Member). m.process) (sym same) ∙ c.in-Some.is in
    can_take (process_count c.args.self.now.world) c.args.thread env other c.in-Some.process entry (c.requires.sound.each c.args.p other there) process tells

pub take_entry-requires-clause-counted : goal.take_entry-requires-clause-counted
take_entry-requires-clause-counted c = λ other there.
    let m = c.index-member.result.now in
    let env = env_of c.args.self.now.world c.args.p in
    let entry = entry_of c.spelled_event-entry.result in
    let same = only_one c.args.self.now.members.items c.args.p m other c.requires.process c.index-member.ensures there in
    let lent = lent_same c.in-Some.process c.in-Some-live_event.event m.last c.in_ok-start.start c.spell_event.new.bytes.items c.deref.result.now entry c.in_ok-start.ensures c.deref.ensures.value c.spelled_event-entry.ensures in
    let tells = subst (IsLiveEntry c.in-Some.process c.args.thread env) lent (rw c.in-Some-live_event.is at c.live_event.ensures.tells) in
    let process : other.process ≡ Some c.in-Some.process = ap (λ (m : Member). m.process) (sym same) ∙ c.in-Some.is in
    counts_one c.args.thread env other c.in-Some.process entry process tells

pub take_entry-requires-clause-size : goal.take_entry-requires-clause-size
take_entry-requires-clause-size c = λ other there.
    let m = c.index-member.result.now in
    let entry = entry_of c.spelled_event-entry.result in
    let same = only_one c.args.self.now.members.items c.args.p m other c.requires.process c.index-member.ensures there in
    let lent = lent_same c.in-Some.process c.in-Some-live_event.event m.last c.in_ok-start.start c.spell_event.new.bytes.items c.deref.result.now entry c.in_ok-start.ensures c.deref.ensures.value c.spelled_event-entry.ensures in
    c.len.ensures ∙ c.spell_event.new.bytes.ok.0
    ∙ ap length (spelled_same c.in-Some.process c.in-Some-live_event.event m.last c.in_ok-start.start c.spell_event.new.bytes.items entry c.in_ok-start.ensures lent)
    ∙ ap (λ (m : Member). length (spelled_entry m entry)) same

pub take_entry-requires-clause-datagram : goal.take_entry-requires-clause-datagram
take_entry-requires-clause-datagram c =
    let m = c.index-member.result.now in
    let env = env_of c.args.self.now.world c.args.p in
    let lent = lent_same c.in-Some.process c.in-Some-live_event.event m.last c.in_ok-start.start c.spell_event.new.bytes.items c.deref.result.now (entry_of c.spelled_event-entry.result) c.in_ok-start.ensures c.deref.ensures.value c.spelled_event-entry.ensures in
    (subst (IsLiveEntry c.in-Some.process c.args.thread env) lent (rw c.in-Some-live_event.is at c.live_event.ensures.tells)).datagram

pub take_entry-requires-clause-drawn : goal.take_entry-requires-clause-drawn
take_entry-requires-clause-drawn c =
    let m = c.index-member.result.now in
    let env = env_of c.args.self.now.world c.args.p in
    let lent = lent_same c.in-Some.process c.in-Some-live_event.event m.last c.in_ok-start.start c.spell_event.new.bytes.items c.deref.result.now (entry_of c.spelled_event-entry.result) c.in_ok-start.ensures c.deref.ensures.value c.spelled_event-entry.ensures in
    (subst (IsLiveEntry c.in-Some.process c.args.thread env) lent (rw c.in-Some-live_event.is at c.live_event.ensures.tells)).bytes

pub returns-clause-tries : goal.returns-clause-tries
returns-clause-tries c =
    let m = c.index-member.result.now in
    let env = env_of c.args.self.now.world c.args.p in
    let entry = entry_of c.spelled_event-entry.result in
    let at = at_place c.args.self.now.members.items c.args.p m c.requires.process c.index-member.ensures in
    let lent = lent_same c.in-Some.process c.in-Some-live_event.event m.last c.in_ok-start.start c.spell_event.new.bytes.items c.deref.result.now entry c.in_ok-start.ensures c.deref.ensures.value c.spelled_event-entry.ensures in
    let tells = subst (IsLiveEntry c.in-Some.process c.args.thread env) lent (rw c.in-Some-live_event.is at c.live_event.ensures.tells) in
    tried_so c.by_counting.ensures.counted c.args.self.now c.take_entry.new.self c.args.p c.args.thread m c.in-Some.process entry c.take_entry.result c.requires.process at c.in-Some.is tells c.take_entry.ensures.takes
