use Rattle.std.proofs.Common.{◌≡◌, arith, ap, sym, subst, ◌∙◌}
use Rattle.coop_threads.specs.Crew.{IsTaken}
use Rattle.coop_threads.specs.declared.slot.Slot.TheVariants.{Lent}
use Rattle.lib_calls.specs.Entry.{entry_of}
use Rattle.wasm_types.specs.Modules.{module_of}
use Rattle.wasm_step.specs.Strand.{IsHandler, answered_strand}
use Rattle.guest_process.specs.Answers.{exited_process}
use Rattle.guest_process.specs.GoesOn.{with_event_counted, handler, runs_handled}
use Rattle.guest_process.specs.Kinds.{reply_value}
use Rattle.guest_process.specs.inside.Meanings.{state_of}
use Rattle.guest_process.specs.Sound.{StandsAtKind}
use Rattle.guest_process.specs.State.{awaits_event, thread_at, with_thread}
use Rattle.guest_process.proofs.EventCode.{acted_events, acted_handlers, acted_module, exits, goes, goes_out, is_out, stands_at, still_live, taken_is}
use Rattle.guest_process.proofs.LegalEntries.{is_answer_of}
use Rattle.guest_process.proofs.body.Body.make_event.Goals as goal

pub act-requires-clause-answer : goal.act-requires-clause-answer
act-requires-clause-answer c =
    is_answer_of (state_of c.args.self.now) (entry_of c.args.entry.now) c.requires.process.fits c.requires.legal

pub unreachable-requires : goal.unreachable-requires
unreachable-requires c =
    let S = state_of c.args.self.now in
    let e = entry_of c.args.entry.now in
    still_live S e c.requires.legal (ap (λ S'. thread_at S' e.thread) (sym c.in_ok-act.ensures.state) ∙ sym c.take.ensures.value ∙ c.in_default.is)

pub overflow_add-self : goal.overflow_add-self
overflow_add-self c =
    let S = state_of c.args.self.now in
    let e = entry_of c.args.entry.now in
    let same = ap (λ S'. S'.events) c.in_ok-act.ensures.state ∙ acted_events S e in
    omega (arith, same, c.requires.few)

pub exit-requires : goal.exit-requires
exit-requires c =
    let t = c.args.entry.now.thread in
    subst (λ crew. IsTaken crew t) (sym c.in-Some.ensures.some) (is_out c.act.new.self.crew t c.in-Some.waiting (sym c.take.ensures.value ∙ c.in-Some.is))

pub returns-then-ends_process-clause-state : goal.returns-then-ends_process-clause-state
returns-then-ends_process-clause-state c =
    let S = state_of c.args.self.now in
    let S' = state_of c.act.new.self in
    let e = entry_of c.args.entry.now in
    let w = c.in-Some.waiting in
    let after = c.in_ok-act.ensures.state in
    let at = taken_is S e w c.requires.legal (ap (λ S'. thread_at S' e.thread) (sym after) ∙ sym c.take.ensures.value ∙ c.in-Some.is) in
    let ends = sym c.ends_process.ensures ∙ c.if-ends_process.true in
    ap awaits_event (c.exit.ensures.state
    ∙ ap (λ crew. exited_process (with_event_counted (record S' { crew = crew }) e.thread e.clock) e.thread w.call.a0) c.in-Some.ensures.some
    ∙ ap (λ S'. exited_process (with_event_counted (with_thread S' e.thread Lent) e.thread e.clock) e.thread w.call.a0) after)
    ∙ exits S e w c.requires.legal at ends

pub go_on-requires-clause-taken : goal.go_on-requires-clause-taken
go_on-requires-clause-taken c =
    let t = c.args.entry.now.thread in
    subst (λ crew. IsTaken crew t) (sym c.in-Some.ensures.some) (is_out c.act.new.self.crew t c.in-Some.waiting (sym c.take.ensures.value ∙ c.in-Some.is))

pub go_on-requires-clause-same_module : goal.go_on-requires-clause-same_module
go_on-requires-clause-same_module c =
    let S = state_of c.args.self.now in
    let e = entry_of c.args.entry.now in
    let after = c.in_ok-act.ensures.state in
    let same = sym (acted_module S e) ∙ ap (λ S'. S'.store.«module») (sym after) in
    subst (λ r. module_of r.now ≡ S.store.«module») (sym c.in_ok-act.ensures.same_module) c.requires.process.same_module ∙ same

pub go_on-requires-clause-same : goal.go_on-requires-clause-same
go_on-requires-clause-same c =
    let S = state_of c.args.self.now in
    let e = entry_of c.args.entry.now in
    let w = c.in-Some.waiting in
    let after = c.in_ok-act.ensures.state in
    let at = taken_is S e w c.requires.legal (ap (λ S'. thread_at S' e.thread) (sym after) ∙ sym c.take.ensures.value ∙ c.in-Some.is) in
    (stands_at S e.thread w c.requires.process.sound.threads at).same_module
    ∙ sym (acted_module S e)
    ∙ ap (λ S'. S'.store.«module») (sym after)

pub go_on-requires-clause-stands : goal.go_on-requires-clause-stands
go_on-requires-clause-stands c =
    let S = state_of c.args.self.now in
    let e = entry_of c.args.entry.now in
    let w = c.in-Some.waiting in
    let after = c.in_ok-act.ensures.state in
    let at = taken_is S e w c.requires.legal (ap (λ S'. thread_at S' e.thread) (sym after) ∙ sym c.take.ensures.value ∙ c.in-Some.is) in
    let is = stands_at S e.thread w c.requires.process.sound.threads at in
    subst (λ m. StandsAtKind m w w.call.kind) (sym is.same_module) is.stands

pub go_on-requires-clause-handlers : goal.go_on-requires-clause-handlers
go_on-requires-clause-handlers c = λ signal func h.
    let S = state_of c.args.self.now in
    let e = entry_of c.args.entry.now in
    let after = c.in_ok-act.ensures.state in
    let is = acted_handlers S e c.requires.process.sound.handlers signal func (ap (λ S'. handler S'.handlers signal) (sym after) ∙ h) in
    subst (λ m. IsHandler m func) (sym (acted_module S e) ∙ ap (λ S'. S'.store.«module») (sym after)) is

pub returns-clause-state : goal.returns-clause-state
returns-clause-state c =
    let S = state_of c.args.self.now in
    let S' = state_of c.act.new.self in
    let e = entry_of c.args.entry.now in
    let w = c.in-Some.waiting in
    let after = c.in_ok-act.ensures.state in
    let at = taken_is S e w c.requires.legal (ap (λ S'. thread_at S' e.thread) (sym after) ∙ sym c.take.ensures.value ∙ c.in-Some.is) in
    let ends = sym c.ends_process.ensures ∙ c.if-ends_process.false in
    ap awaits_event (c.in_ok-go_on.ensures.state
    ∙ ap (λ crew. runs_handled (with_event_counted (record S' { crew = crew }) e.thread e.clock) e.thread (answered_strand w.strand (reply_value w.call.kind e.reply)) e.signal) c.in-Some.ensures.some
    ∙ ap (λ S'. goes_out w.call.kind S' e.thread w.strand e.reply e.signal e.clock) after)
    ∙ goes S e w c.requires.legal at ends
