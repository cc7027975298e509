use Rattle.std.proofs.Common.{◌≡◌, ◌∙◌, ap}
use Rattle.std.specs.Prelude.{slice_set}
use Rattle.lib_calls.specs.Entry.{entry_of}
use Rattle.group_record.specs.declared.member.Member.{Member}
use Rattle.group_record.specs.inside.Members.{member_after}
use Rattle.group_record.proofs.SharedLemmas.{at_place, only_one}
use Rattle.group_record.proofs.parts.Parts.try_event.Goals as goal

pub make_event-requires : goal.make_event-requires
make_event-requires c =
    let m = c.index_mut.result.now in
    let can = c.requires.event m (at_place c.args.self.now.members.items c.args.p m c.requires.process c.index_mut.ensures.value) in
    record { event = can.keeps; size = can.spelled; room = can.fits }

pub returns-clause-made : goal.returns-clause-made
returns-clause-made c = λ m at.
    let e = entry_of c.args.entry.now in
    let same = only_one c.args.self.now.members.items c.args.p c.index_mut.result.now m c.requires.process c.index_mut.ensures.value at in
    let made : c.make_event.new.self ≡ member_after m e = c.in_ok-make_event.ensures ∙ ap (λ (m : Member). member_after m e) same in
    record { members = ap (λ (x : Member). slice_set c.args.self.now.members.items c.args.p x) made; world = c.in_ok-take_event.ensures.ok; prints = c.in_ok-add.ensures }
