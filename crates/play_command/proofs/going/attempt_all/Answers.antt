use Rattle.std.proofs.Common.{◌≡◌, suc, ◌+◌, ◌-◌, Bool, subst, arith}
use Rattle.group_record.specs.Run.{GroupStart, RunProgress, attempt, run_attempts}
use Rattle.play_command.specs.inside.Playing.{GoesOnBy}
use Rattle.play_command.proofs.ItemsDone.{attempts-none, attempts-one, attempts_stop}
use Rattle.play_command.proofs.Reached.{reached_all, reached_full, reached_next, still_under_way}
use Rattle.play_command.proofs.going.attempt_all.Goals as goal

pub returns-then-branch-clause-goes : goal.returns-then-branch-clause-goes
returns-then-branch-clause-goes c = λ number.
    let p = c.args.p in
    let thread = c.args.thread in
    let left = c.args.times - c.loop.counter in
    let less = c.args.times - (c.loop.counter + 1) in
    let one : left ≡ suc less = omega arith in
    let next : GroupStart → RunProgress → RunProgress = λ group. attempt group number p thread in
    reached_full c.args.names.now (λ group. run_attempts group number p thread c.args.times) (λ group. run_attempts group number p thread left) next c.args.live.now c.loop.live c.attempt_once.new.live
    c.args.told.now c.loop.told c.attempt_once.new.told (c.loop.invariant.reached number)
    (subst (λ (full : Bool). GoesOnBy c.args.names.now next c.loop.live c.loop.told c.attempt_once.new.live c.attempt_once.new.told full) c.if-branch.true (c.in_ok-attempt_once.ensures.goes number))
    (λ group done full. attempts_stop group number p thread left less done one full)

pub loop-preserved : goal.loop-preserved
loop-preserved c =
    let p = c.args.p in
    let thread = c.args.thread in
    let left = c.args.times - c.loop.counter in
    let less = c.args.times - (c.loop.counter + 1) in
    let one : left ≡ suc less = omega arith in
    record {
      under_way = still_under_way c.args.names.now (λ group. attempt group 0 p thread) c.loop.live c.attempt_once.new.live c.loop.told c.attempt_once.new.told c.in_ok-attempt_once.field-0 c.loop.invariant.under_way (c.in_ok-attempt_once.ensures.goes 0);
      counted = omega (arith, c.in_ok-attempt_once.ensures.counted, c.loop.invariant.counted);
      reached = λ number.
          let next : GroupStart → RunProgress → RunProgress = λ group. attempt group number p thread in
          reached_next c.args.names.now (λ group. run_attempts group number p thread c.args.times) (λ group. run_attempts group number p thread left) (λ group. run_attempts group number p thread less) next
          c.args.live.now c.loop.live c.attempt_once.new.live c.args.told.now c.loop.told c.attempt_once.new.told (c.loop.invariant.reached number)
          (subst (λ (full : Bool). GoesOnBy c.args.names.now next c.loop.live c.loop.told c.attempt_once.new.live c.attempt_once.new.told full) c.if-branch.false (c.in_ok-attempt_once.ensures.goes number))
          (λ group done. attempts-one group number p thread left less done one);
    }

pub returns-clause-goes : goal.returns-clause-goes
returns-clause-goes c = λ number.
    reached_all c.args.names.now (λ group. run_attempts group number c.args.p c.args.thread c.args.times) (λ group. run_attempts group number c.args.p c.args.thread (c.args.times - c.loop.counter))
    c.args.live.now c.loop.live c.args.told.now c.loop.told (c.loop.invariant.reached number)
    (λ group done. attempts-none group number c.args.p c.args.thread (c.args.times - c.loop.counter) done (omega arith))
