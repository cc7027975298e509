use Rattle.std.proofs.Common.{◌≡◌, ℕ, ◌<◌, ◌^◌, ◌∙◌, List, Option, Some, ap, sym, subst, arith}
use Rattle.std.specs.Prelude.{option_map}
use Rattle.lib_calls.specs.Answer.{Answer}
use Rattle.lib_calls.specs.declared.entry.EntryView.{EntryView}
use Rattle.lib_calls.specs.Effects.{outgoing_of}
use Rattle.lamport_tag.specs.Tag.{next_clock_of}
use Rattle.group_record.specs.inside.Around.{answer_by, env_of}
use Rattle.group_record.specs.inside.Recorded.{IsEntryOf, event_entry}
use Rattle.group_record.proofs.LiveEvents.{entry_tells, entry_with, no_event, tag_fits}
use Rattle.group_record.proofs.event.live_event.Goals as goal

pub returns-in_err-answer-clause-tells : goal.returns-in_err-answer-clause-tells
returns-in_err-answer-clause-tells c =
    let S = c.args.process.now in
    let env = env_of c.args.world.now c.args.p in
    let none = no_event S c.args.thread env c.in_ok-call.call.now c.need-need.result
    (record { stands = record { fits = c.events.ensures.fits; call = c.in_ok-call.ensures; need = c.need-need.ensures }; spared = sym c.is_killed.ensures ∙ c.if-is_killed.false })
    (ap (λ n. answer_by c.need-need.result c.in_ok-call.call.now n env) c.requires.group ∙ sym c.in_err-answer.ensures) in
    subst (λ (o : Option EntryView). IsEntryOf S c.args.thread env (option_map (event_entry S) o)) (sym c.from_residual-in_err-answer.ensures) none

pub next_clock-requires-clause-tag_fits : goal.next_clock-requires-clause-tag_fits
next_clock-requires-clause-tag_fits c =
    let S = c.args.process.now in
    let env = env_of c.args.world.now c.args.p in
    let a : Answer = record { reply = c.answer.inside.reply; incoming = c.answer.inside.incoming.now; tag = c.answer.inside.tag } in
    tag_fits c.one_event.ensures c.rises.ensures c.states_fit.ensures.ranges S c.args.thread env c.in_ok-call.call.now c.need-need.result a
    (record { state = c.events.ensures.fits; few = c.requires.few; around = record { time = subst (λ n. n < 2 ^ 64) c.time.ensures (omega arith) } })
    (record { stands = record { fits = c.events.ensures.fits; call = c.in_ok-call.ensures; need = c.need-need.ensures }; spared = sym c.is_killed.ensures ∙ c.if-is_killed.false })
    (ap (λ n. answer_by c.need-need.result c.in_ok-call.call.now n env) c.requires.group ∙ sym c.in_ok-answer.ensures ∙ ap Some (sym c.answer.view_is))

pub returns-clause-tells : goal.returns-clause-tells
returns-clause-tells c =
    let S = c.args.process.now in
    let env = env_of c.args.world.now c.args.p in
    let call = c.in_ok-call.call.now in
    let a : Answer = record { reply = c.answer.inside.reply; incoming = c.answer.inside.incoming.now; tag = c.answer.inside.tag } in
    let out : List ℕ = outgoing_of call S.store.memory in
    let clock : c.next_clock.result ≡ next_clock_of S.clock a.tag = c.next_clock.ensures.value ∙ ap (λ n. next_clock_of n a.tag) c.clock.ensures in
    entry_tells c.one_event.ensures c.rises.ensures S c.args.thread env call c.need-need.result a _
    (record { state = c.events.ensures.fits; few = c.requires.few; around = record { time = subst (λ n. n < 2 ^ 64) c.time.ensures (omega arith) } })
    (record { stands = record { fits = c.events.ensures.fits; call = c.in_ok-call.ensures; need = c.need-need.ensures }; spared = sym c.is_killed.ensures ∙ c.if-is_killed.false })
    (ap (λ n. answer_by c.need-need.result call n env) c.requires.group ∙ sym c.in_ok-answer.ensures ∙ ap Some (sym c.answer.view_is))
    (ap (λ n. entry_with n c.signal_after.result c.args.thread call a out) clock
    ∙ ap (λ signal. entry_with (next_clock_of S.clock a.tag) signal c.args.thread call a out) (c.signal_after.ensures a))
