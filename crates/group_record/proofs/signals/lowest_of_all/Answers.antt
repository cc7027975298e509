use Rattle.std.proofs.Common.{◌∙◌, refl, sym, arith}
use Rattle.guest_process.specs.Live.{is_ready_signal}
use Rattle.group_world.specs.World.{has_pending}
use Rattle.group_record.specs.inside.Around.{handlers_at}
use Rattle.group_record.proofs.ReadySignals.{lowest_found, lowest_none, lowest_past}
use Rattle.group_record.proofs.signals.lowest_of_all.Goals as goal

pub loop-s-init : goal.loop-s-init
loop-s-init c = λ a. refl

pub returns-then-is_ready : goal.returns-then-is_ready
returns-then-is_ready c = λ a.
    let ready = is_ready_signal (handlers_at c.args.process.now c.args.thread a) (has_pending c.args.world.now c.args.p) in
    sym (c.loop-s.invariant a ∙ lowest_found ready c.loop-s.s c.loop-s-test.true (sym (c.is_ready.ensures a) ∙ c.if-is_ready.true))

pub loop-s-preserved : goal.loop-s-preserved
loop-s-preserved c = λ a.
    let ready = is_ready_signal (handlers_at c.args.process.now c.args.thread a) (has_pending c.args.world.now c.args.p) in
    c.loop-s.invariant a ∙ lowest_past ready c.loop-s.s c.loop-s-test.true (sym (c.is_ready.ensures a) ∙ c.if-is_ready.false)

pub returns : goal.returns
returns c = λ a.
    let ready = is_ready_signal (handlers_at c.args.process.now c.args.thread a) (has_pending c.args.world.now c.args.p) in
    sym (c.loop-s.invariant a ∙ lowest_none ready c.loop-s.s (omega (arith, c.loop-s-test.false)))
