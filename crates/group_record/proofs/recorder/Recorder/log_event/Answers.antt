use Rattle.std.proofs.Common.{◌≡◌, ◌∙◌, inr, ap, refl}
use Rattle.std.specs.Prelude.{slice_set}
use Rattle.std.proofs.lemmas.Result.{err_from_is_err_and}
use Rattle.lib_calls.specs.Entry.{entry_of}
use Rattle.group_record.specs.inside.Members.{member_after}
use Rattle.group_record.specs.declared.member.Member.{Member}
use Rattle.group_record.proofs.RecorderSteps.{stops_of, written_of}
use Rattle.group_record.proofs.SharedLemmas.{at_place, only_one}
use Rattle.group_record.proofs.recorder.Recorder.log_event.Goals as goal

pub log_event-requires-clause-event : goal.log_event-requires-clause-event
log_event-requires-clause-event g c =
    let m = c.index_mut.result.now in
    c.requires.event m (at_place c.args.self.now.members.items c.args.p m c.requires.process c.index_mut.ensures.value)

pub log_event-requires-clause-spelled : goal.log_event-requires-clause-spelled
log_event-requires-clause-spelled g c =
    let m = c.index_mut.result.now in
    c.requires.spelled m (at_place c.args.self.now.members.items c.args.p m c.requires.process c.index_mut.ensures.value)

pub returns-in_err-log_event-clause-writes : goal.returns-in_err-log_event-clause-writes
returns-in_err-log_event-clause-writes g c = λ m at.
    let p = err_from_is_err_and c.from_residual.result c.from_residual.ensures.1 in
    let same = only_one c.args.self.now.members.items c.args.p c.index_mut.result.now m c.requires.process c.index_mut.ensures.value at in
    rw (p.1, p.2) (stops_of c.index_mut.result.now m c.args.number (entry_of c.args.entry.now) (entry_of c.args.entry.now) c.in_err-log_event.field-0.0 (g.F.Files.told c.args.files.now) (g.F.Files.told c.log_event.new.files) same refl c.in_err-log_event.ensures.writes)

pub returns-in_err-take_event-clause-writes : goal.returns-in_err-take_event-clause-writes
returns-in_err-take_event-clause-writes g c = λ m at.
    let p = err_from_is_err_and c.from_residual-in_err-take_event.result c.from_residual-in_err-take_event.ensures.1 in
    let same = only_one c.args.self.now.members.items c.args.p c.index_mut.result.now m c.requires.process c.index_mut.ensures.value at in
    rw (p.1, p.2) (inr (written_of c.index_mut.result.now m (entry_of c.args.entry.now) (entry_of c.args.entry.now) (g.F.Files.told c.args.files.now) (g.F.Files.told c.log_event.new.files) same refl c.in_ok-log_event.ensures.writes))

pub returns-clause-writes : goal.returns-clause-writes
returns-clause-writes g c = λ m at.
    let same = only_one c.args.self.now.members.items c.args.p c.index_mut.result.now m c.requires.process c.index_mut.ensures.value at in
    written_of c.index_mut.result.now m (entry_of c.args.entry.now) (entry_of c.args.entry.now) (g.F.Files.told c.args.files.now) (g.F.Files.told c.log_event.new.files) same refl c.in_ok-log_event.ensures.writes

pub returns-clause-ok : goal.returns-clause-ok
returns-clause-ok g c = λ m at.
    let same = only_one c.args.self.now.members.items c.args.p c.index_mut.result.now m c.requires.process c.index_mut.ensures.value at in
    let made : c.log_event.new.self ≡ member_after m (entry_of c.args.entry.now) = c.in_ok-log_event.ensures.ok ∙ ap (λ (m : Member). member_after m (entry_of c.args.entry.now)) same in
    record {
      members = ap (λ (x : Member). slice_set c.args.self.now.members.items c.args.p x) made;
      world = c.in_ok-take_event.ensures.ok;
      prints = c.in_ok-add.ensures;
      acted = refl;
      idle = refl;
    }
