use Rattle.std.proofs.Common.{◌∙◌, ◌+◌, ap, refl}
use Rattle.std.specs.Prelude.{nat_le}
use Rattle.call_log.specs.Limits.{most_log}
use Rattle.lib_calls.specs.Entry.{entry_of}
use Rattle.group_record.specs.declared.member.Member.{Member}
use Rattle.group_record.proofs.LiveGroups.{can_make, taken_full}
use Rattle.group_record.proofs.SharedLemmas.{at_place, only_one}
use Rattle.group_record.proofs.parts.Parts.take_entry.Goals as goal

pub has_room-requires : goal.has_room-requires
has_room-requires c =
    let m = c.index.result.now in
    (c.requires.event m (at_place c.args.self.now.members.items c.args.p m c.requires.process c.index.ensures)).room

pub returns-then-not-has_room-clause-takes : goal.returns-then-not-has_room-clause-takes
returns-then-not-has_room-clause-takes c = λ m at.
    let same = only_one c.args.self.now.members.items c.args.p c.index.result.now m c.requires.process c.index.ensures at in
    let test = c.has_room.ensures ∙ ap (λ (m : Member). nat_le (m.size + c.args.size) most_log) same in
    (taken_full m (entry_of c.args.entry) c.args.size c.has_room.result (c.requires.size m at) test c.if-not-has_room.true, refl)

pub make_event-requires-clause-event : goal.make_event-requires-clause-event
make_event-requires-clause-event c = λ m at.
    let same = only_one c.args.self.now.members.items c.args.p c.index.result.now m c.requires.process c.index.ensures at in
    let test = c.has_room.ensures ∙ ap (λ (m : Member). nat_le (m.size + c.args.size) most_log) same in
    can_make m (entry_of c.args.entry) c.args.size c.has_room.result (c.requires.event m at) (c.requires.counted m at) (c.requires.size m at) test c.if-not-has_room.false

pub returns-clause-takes : goal.returns-clause-takes
returns-clause-takes c = λ m at.
    let same = only_one c.args.self.now.members.items c.args.p c.index.result.now m c.requires.process c.index.ensures at in
    let test = c.has_room.ensures ∙ ap (λ (m : Member). nat_le (m.size + c.args.size) most_log) same in
    let can = can_make m (entry_of c.args.entry) c.args.size c.has_room.result (c.requires.event m at) (c.requires.counted m at) (c.requires.size m at) test c.if-not-has_room.false in
    (refl, can.fits, c.in_ok-make_event.ensures.made m at)
