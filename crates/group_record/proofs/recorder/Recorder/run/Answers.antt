use Rattle.std.proofs.Common.{◌≡◌, ◌∙◌, ◌-◌, ◌+◌, suc, arith}
use Rattle.std.proofs.lemmas.Result.{err_from_is_err_and}
use Rattle.group_record.specs.Run.{GroupStart, RunProgress, attempt, run_attempts}
use Rattle.group_record.proofs.RecorderLoops.{attempts-none, count_next, has_come, try_next, try_stops, under_next}
use Rattle.group_record.proofs.SharedLemmas.{failed_writes}
use Rattle.group_record.proofs.recorder.Recorder.run.Goals as goal

pub returns-in_err-attempt-clause-comes : goal.returns-in_err-attempt-clause-comes
returns-in_err-attempt-clause-comes g c = λ group done before keeps files.
    let p = err_from_is_err_and c.from_residual.result c.from_residual.ensures.1 in
    let one : c.args.times - c.loop.counter ≡ suc (c.args.times - (c.loop.counter + 1)) = omega arith in
    rw (p.1, p.2) (try_stops group c.args.number c.args.p c.args.thread (c.args.times - c.loop.counter) (c.args.times - (c.loop.counter + 1)) c.loop.self c.attempt.new.self c.in_err-attempt.field-0.0
    before (g.F.Files.told c.loop.files) (g.F.Files.told c.attempt.new.files) (run_attempts group c.args.number c.args.p c.args.thread c.args.times done) one
    (c.loop.invariant.comes group done before keeps files) c.in_err-attempt.ensures.comes)

pub loop-preserved : goal.loop-preserved
loop-preserved g c =
    let next : GroupStart → RunProgress → RunProgress = λ group. attempt group c.args.number c.args.p c.args.thread in
    let one : c.args.times - c.loop.counter ≡ suc (c.args.times - (c.loop.counter + 1)) = omega arith in
    record {
      under = under_next next c.loop.self c.attempt.new.self (g.F.Files.told c.loop.files) (g.F.Files.told c.attempt.new.files) c.loop.invariant.under c.in_ok-attempt.ensures.comes;
      count = count_next next c.loop.self c.attempt.new.self (g.F.Files.told c.loop.files) (g.F.Files.told c.attempt.new.files) c.loop.invariant.under c.in_ok-attempt.ensures.comes ∙ c.loop.invariant.count;
      counted = omega (arith, c.in_ok-attempt.ensures.total, c.loop.invariant.counted);
      prints = c.in_ok-attempt.ensures.prints ∙ c.loop.invariant.prints;
      comes = λ group done before keeps files.
          try_next group c.args.number c.args.p c.args.thread (c.args.times - c.loop.counter) (c.args.times - (c.loop.counter + 1)) c.loop.self c.attempt.new.self
          before (g.F.Files.told c.loop.files) (g.F.Files.told c.attempt.new.files) (run_attempts group c.args.number c.args.p c.args.thread c.args.times done) one
          (c.loop.invariant.comes group done before keeps files) c.in_ok-attempt.ensures.comes;
      quiet = c.in_ok-attempt.ensures.counted ∙ c.loop.invariant.quiet;
    }

pub returns-clause-comes : goal.returns-clause-comes
returns-clause-comes g c = λ group done before keeps files.
    has_come group c.loop.self before (g.F.Files.told c.loop.files) (run_attempts group c.args.number c.args.p c.args.thread (c.args.times - c.loop.counter)) (run_attempts group c.args.number c.args.p c.args.thread c.args.times done)
    (c.loop.invariant.comes group done before keeps files)
    (λ d. attempts-none group c.args.number c.args.p c.args.thread (c.args.times - c.loop.counter) d (omega arith))

pub returns-in_err-attempt-clause-counted : goal.returns-in_err-attempt-clause-counted
returns-in_err-attempt-clause-counted g c =
    let p = err_from_is_err_and c.from_residual.result c.from_residual.ensures.1 in
    rw (p.1, p.2) (failed_writes (g.F.Files.counts c.args.files.now) (g.F.Files.counts c.loop.files) (g.F.Files.counts c.attempt.new.files) c.in_err-attempt.field-0.0 c.loop.invariant.quiet c.in_err-attempt.ensures.counted)
