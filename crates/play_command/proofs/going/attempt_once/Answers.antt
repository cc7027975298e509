use Rattle.std.proofs.Common.{◌≡◌, ◌∙◌, false, ap, refl, subst, sym}
use Rattle.std.specs.Prelude.{is_some}
use Rattle.lib_calls.specs.Entry.{entry_of}
use Rattle.group_record.specs.Live.{TriesAfter}
use Rattle.group_record.specs.Run.{attempt, name_of_process}
use Rattle.group_record.specs.declared.tried.Tried.{Tried}
use Rattle.group_record.specs.declared.tried.Tried.TheVariants as tried
use Rattle.play_command.specs.declared.told.Told.{Told}
use Rattle.play_command.specs.inside.Playing.{WentOn, told_event}
use Rattle.play_command.proofs.Attempts.{attempt_goes, name_at}
use Rattle.play_command.proofs.going.attempt_once.Goals as goal

pub returns-in_ok-event-in-Had-clause-goes : goal.returns-in_ok-event-in-Had-clause-goes
returns-in_ok-event-in-Had-clause-goes c = λ number group before named room stands.
    let name = c.as_slice.result.now in
    let tries = subst (λ (t : Tried). TriesAfter group before.steps c.args.p c.args.thread t c.attempt.new.self) c.in-Had.is (c.in_ok-attempt.ensures group before.steps stands) in
    let is_named : name ≡ name_of_process group c.args.p = c.as_slice.ensures ∙ name_at group c.args.names.now c.args.p c.index-names-p.result named c.requires.process c.index-names-p.is in
    let is_told : c.event.new.self ≡ told_event c.args.told.now name (entry_of c.in-Had.entry) = c.in_ok-event-in-Had.ensures in
    subst (λ (told : Told). WentOn group before (attempt group number c.args.p c.args.thread before) c.attempt.new.self c.args.told.now told × (is_some (attempt group number c.args.p c.args.thread before).full ≡ false)) (sym is_told)
    (attempt_goes group number c.args.p c.args.thread before c.attempt.new.self c.args.told.now name (tried.Had c.in-Had.entry) room is_named tries)

pub returns-in-Full-clause-goes : goal.returns-in-Full-clause-goes
returns-in-Full-clause-goes c = λ number group before named room stands.
    let tries = subst (λ (t : Tried). TriesAfter group before.steps c.args.p c.args.thread t c.attempt.new.self) c.in-Full.is (c.in_ok-attempt.ensures group before.steps stands) in
    attempt_goes group number c.args.p c.args.thread before c.attempt.new.self c.args.told.now (name_of_process group c.args.p) tried.Full room refl tries
