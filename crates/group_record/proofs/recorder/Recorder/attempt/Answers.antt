use Rattle.std.proofs.Common.{◌≡◌, ◌∙◌, ◌+◌, Some, ap, refl, subst, sym, arith}
use Rattle.lib_calls.specs.Entry.{entry_of}
use Rattle.std.proofs.lemmas.Result.{err_from_is_err_and}
use Rattle.group_record.specs.declared.member.Member.{Member}
use Rattle.group_record.specs.inside.Around.{env_of}
use Rattle.group_record.specs.Run.{attempt}
use Rattle.group_record.specs.inside.Members.{spelled_entry}
use Rattle.group_record.specs.inside.Recorded.{IsLiveEntry}
use Rattle.group_record.proofs.RecorderCounts.{counted_kept}
use Rattle.group_record.proofs.GroupRunStops.{attempt_leads}
use Rattle.group_record.proofs.RecorderSteps.{can_keep, few_had, group_size, kept_at, lives_of, memory_stops, never_away, tells_of, try_event, try_idle}
use Rattle.group_record.proofs.SharedLemmas.{at_place, only_one}
use Rattle.group_record.proofs.SpelledEvents.{ends_with, lent_same, spelled_same}
use Rattle.group_record.proofs.recorder.Recorder.attempt.Goals as goal

pub unreachable-requires : goal.unreachable-requires
unreachable-requires g c =
    let u = c.requires.under_way in
    let m = c.index-member.result.now in
    let k = u.keeps.members c.args.p m (at_place c.args.self.now.members.items c.args.p m c.requires.process c.index-member.ensures) in
    never_away m.process k.state k.process c.in_default.is

pub live_event-requires-clause-group : goal.live_event-requires-clause-group
live_event-requires-clause-group g c =
    let u = c.requires.under_way in
    let m = c.index-member.result.now in
    group_size c.by_counting.ensures.counted u.group u.done c.args.self.now c.args.p m u.keeps (at_place c.args.self.now.members.items c.args.p m c.requires.process c.index-member.ensures) c.in-Some.process c.in-Some.is

pub live_event-requires-clause-few : goal.live_event-requires-clause-few
live_event-requires-clause-few g c =
    let u = c.requires.under_way in
    let m = c.index-member.result.now in
    few_had u.group u.done c.args.self.now c.args.p m u.keeps (at_place c.args.self.now.members.items c.args.p m c.requires.process c.index-member.ensures) c.in-Some.process c.in-Some.is

pub returns-in_default-live_event-clause-comes : goal.returns-in_default-live_event-clause-comes
returns-in_default-live_event-clause-comes g c = λ group done before keeps files.
    let m = c.index-member.result.now in
    let at = at_place c.args.self.now.members.items c.args.p m c.requires.process c.index-member.ensures in
    let none = rw c.in_default-live_event.is at c.live_event.ensures.tells in
    try_idle c.by_counting.ensures.counted group done before (g.F.Files.told c.args.files.now) c.args.self.now (record c.args.self.now { idle = c.args.self.now.idle + 1 }) c.args.number c.args.p c.args.thread m keeps files
    (omega (arith, c.requires.process, keeps.count)) (keeps.members c.args.p m at)
    (lives_of group done c.args.self.now c.args.p c.args.thread m (env_of c.args.self.now.world c.args.p) keeps at c.in-Some.process c.in-Some.is none) refl

pub spell_event-requires : goal.spell_event-requires
spell_event-requires g c = record { shape = (rw c.in-Some-live_event.is at c.live_event.ensures.tells).logged; plain = rw c.in-Some-live_event.is at c.live_event.ensures.plain }

pub returns-in_err-start-clause-comes : goal.returns-in_err-start-clause-comes
returns-in_err-start-clause-comes g c = λ group done before keeps files.
    let p = err_from_is_err_and c.from_residual.result c.from_residual.ensures.1 in
    rw (p.1, p.2) (memory_stops group done (attempt group c.args.number c.args.p c.args.thread done) c.args.self.now before (g.F.Files.told c.args.files.now) (attempt_leads group c.args.number c.args.p c.args.thread done) files)

pub spelled_event-entry-requires-clause-ends : goal.spelled_event-entry-requires-clause-ends
spelled_event-entry-requires-clause-ends g c =
    let tells = rw c.in-Some-live_event.is at c.live_event.ensures.tells in
    ends_with c.in-Some.process c.in-Some-live_event.event c.index-member.result.now.last c.in_ok-start.start c.spell_event.new.bytes.items c.deref.result.now c.in_ok-start.ensures tells.logged c.deref.ensures.value

pub log_event-requires-clause-event : goal.log_event-requires-clause-event
log_event-requires-clause-event g c = λ other there.
    let u = c.requires.under_way in
    let m = c.index-member.result.now in
    let env = env_of c.args.self.now.world c.args.p in
    let same = only_one c.args.self.now.members.items c.args.p m other c.requires.process c.index-member.ensures there in
    let lent = lent_same c.in-Some.process c.in-Some-live_event.event m.last c.in_ok-start.start c.spell_event.new.bytes.items c.deref.result.now (entry_of c.spelled_event-entry.result) c.in_ok-start.ensures c.deref.ensures.value c.spelled_event-entry.ensures in
    let tells = subst (IsLiveEntry c.in-Some.process c.args.thread env) lent (rw c.in-Some-live_event.is at c.live_event.ensures.tells) in
    let process : other.process ≡ Some c.in-Some.process = ap (λ (m : Member). m.process) (sym same) ∙ c.in-Some.is in
    can_keep u.group u.done.steps c.args.p c.args.thread env other (entry_of c.spelled_event-entry.result) (u.keeps.members c.args.p other there)
    (tells_of u.group u.done c.args.self.now c.args.p c.args.thread other env (entry_of c.spelled_event-entry.result) u.keeps there c.in-Some.process process tells)

pub log_event-requires-clause-spelled : goal.log_event-requires-clause-spelled
log_event-requires-clause-spelled g c = λ other there.
    let m = c.index-member.result.now in
    let same = only_one c.args.self.now.members.items c.args.p m other c.requires.process c.index-member.ensures there in
    let lent = lent_same c.in-Some.process c.in-Some-live_event.event m.last c.in_ok-start.start c.spell_event.new.bytes.items c.deref.result.now (entry_of c.spelled_event-entry.result) c.in_ok-start.ensures c.deref.ensures.value c.spelled_event-entry.ensures in
    c.deref-2.ensures.value ∙ spelled_same c.in-Some.process c.in-Some-live_event.event m.last c.in_ok-start.start c.spell_event.new.bytes.items (entry_of c.spelled_event-entry.result) c.in_ok-start.ensures lent
    ∙ ap (λ (m : Member). spelled_entry m (entry_of c.spelled_event-entry.result)) same

pub log_event-requires-clause-datagram : goal.log_event-requires-clause-datagram
log_event-requires-clause-datagram g c =
    let m = c.index-member.result.now in
    let env = env_of c.args.self.now.world c.args.p in
    let lent = lent_same c.in-Some.process c.in-Some-live_event.event m.last c.in_ok-start.start c.spell_event.new.bytes.items c.deref.result.now (entry_of c.spelled_event-entry.result) c.in_ok-start.ensures c.deref.ensures.value c.spelled_event-entry.ensures in
    (subst (IsLiveEntry c.in-Some.process c.args.thread env) lent (rw c.in-Some-live_event.is at c.live_event.ensures.tells)).datagram

pub log_event-requires-clause-drawn : goal.log_event-requires-clause-drawn
log_event-requires-clause-drawn g c =
    let m = c.index-member.result.now in
    let env = env_of c.args.self.now.world c.args.p in
    let lent = lent_same c.in-Some.process c.in-Some-live_event.event m.last c.in_ok-start.start c.spell_event.new.bytes.items c.deref.result.now (entry_of c.spelled_event-entry.result) c.in_ok-start.ensures c.deref.ensures.value c.spelled_event-entry.ensures in
    (subst (IsLiveEntry c.in-Some.process c.args.thread env) lent (rw c.in-Some-live_event.is at c.live_event.ensures.tells)).bytes

pub returns-clause-comes : goal.returns-clause-comes
returns-clause-comes g c = λ group done before keeps files.
    let m = c.index-member.result.now in
    let env = env_of c.args.self.now.world c.args.p in
    let entry = entry_of c.spelled_event-entry.result in
    let at = at_place c.args.self.now.members.items c.args.p m c.requires.process c.index-member.ensures in
    let lent = lent_same c.in-Some.process c.in-Some-live_event.event m.last c.in_ok-start.start c.spell_event.new.bytes.items c.deref.result.now entry c.in_ok-start.ensures c.deref.ensures.value c.spelled_event-entry.ensures in
    let tells = subst (IsLiveEntry c.in-Some.process c.args.thread env) lent (rw c.in-Some-live_event.is at c.live_event.ensures.tells) in
    try_event c.by_counting.ensures.counted c.keeps_files.ensures group done before (g.F.Files.told c.args.files.now) (g.F.Files.told c.log_event.new.files) c.args.self.now c.log_event.result c.log_event.new.self c.args.number c.args.p c.args.thread m entry keeps files
    (omega (arith, c.requires.process, keeps.count)) (keeps.members c.args.p m at)
    (tells_of group done c.args.self.now c.args.p c.args.thread m env entry keeps at c.in-Some.process c.in-Some.is tells)
    (c.log_event.ensures.writes m at) (kept_at c.log_event.result c.args.self.now c.log_event.new.self c.args.p m entry at c.log_event.ensures.ok)

pub returns-clause-total : goal.returns-clause-total
returns-clause-total g c =
    let m = c.index-member.result.now in
    let entry = entry_of c.spelled_event-entry.result in
    let at = at_place c.args.self.now.members.items c.args.p m c.requires.process c.index-member.ensures in
    counted_kept c.log_event.result c.args.self.now c.log_event.new.self c.args.p m entry (kept_at c.log_event.result c.args.self.now c.log_event.new.self c.args.p m entry at c.log_event.ensures.ok)
