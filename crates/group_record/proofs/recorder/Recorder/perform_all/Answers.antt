use Rattle.std.proofs.Common.{◌∙◌, ◌+◌, drop, arith}
use Rattle.std.proofs.lemmas.Result.{err_from_is_err_and}
use Rattle.group_record.specs.Run.{GroupStart, RunProgress, after_item, after_items}
use Rattle.group_record.proofs.RecorderCounts.{few_first, few_next}
use Rattle.group_record.proofs.RecorderLoops.{count_next, has_come, item_next, item_stops, items_end, under_next}
use Rattle.group_record.proofs.SharedLemmas.{failed_writes}
use Rattle.group_record.proofs.recorder.Recorder.perform_all.Goals as goal

pub returns-in_err-perform-clause-comes : goal.returns-in_err-perform-clause-comes
returns-in_err-perform-clause-comes g c = λ group done before keeps files.
    let p = err_from_is_err_and c.from_residual.result c.from_residual.ensures.1 in
    let l = c.loop-item in
    rw (p.1, p.2) (item_stops group (l.number + 1) c.args.items.now l.item-index c.item-item.result l.self c.perform.new.self c.in_err-perform.field-0.0
    before (g.F.Files.told l.files) (g.F.Files.told c.perform.new.files) (after_items group 1 c.args.items.now done) c.loop-item-test.true c.item-item.is
    (l.invariant.comes group done before keeps files) c.in_err-perform.ensures.comes)

pub perform-requires-clause-few : goal.perform-requires-clause-few
perform-requires-clause-few g c = few_first c.args.items.now c.loop-item.item-index c.item-item.result c.loop-item.self c.loop-item-test.true c.item-item.is c.loop-item.invariant.few

pub loop-item-preserved : goal.loop-item-preserved
loop-item-preserved g c =
    let l = c.loop-item in
    let next : GroupStart → RunProgress → RunProgress = λ group. after_item group (l.number + 1) c.item-item.result in
    record {
      number = omega (arith, l.invariant.number);
      under = under_next next l.self c.perform.new.self (g.F.Files.told l.files) (g.F.Files.told c.perform.new.files) l.invariant.under c.in_ok-perform.ensures.comes;
      count = count_next next l.self c.perform.new.self (g.F.Files.told l.files) (g.F.Files.told c.perform.new.files) l.invariant.under c.in_ok-perform.ensures.comes ∙ l.invariant.count;
      few = few_next c.args.items.now l.item-index c.item-item.result l.self c.perform.new.self c.loop-item-test.true c.item-item.is l.invariant.few c.in_ok-perform.ensures.total;
      prints = c.in_ok-perform.ensures.prints ∙ l.invariant.prints;
      comes = λ group done before keeps files.
          item_next group (l.number + 1) (l.number + 1 + 1) c.args.items.now l.item-index c.item-item.result l.self c.perform.new.self
          before (g.F.Files.told l.files) (g.F.Files.told c.perform.new.files) (after_items group 1 c.args.items.now done) c.loop-item-test.true (omega arith) c.item-item.is
          (l.invariant.comes group done before keeps files) c.in_ok-perform.ensures.comes;
      quiet = c.in_ok-perform.ensures.counted ∙ l.invariant.quiet;
    }

pub returns-clause-comes : goal.returns-clause-comes
returns-clause-comes g c = λ group done before keeps files.
    let l = c.loop-item in
    has_come group l.self before (g.F.Files.told l.files) (after_items group (l.number + 1) (drop l.item-index c.args.items.now)) (after_items group 1 c.args.items.now done)
    (l.invariant.comes group done before keeps files)
    (λ d. items_end group (l.number + 1) c.args.items.now l.item-index d c.loop-item-test.false)

pub returns-in_err-perform-clause-counted : goal.returns-in_err-perform-clause-counted
returns-in_err-perform-clause-counted g c =
    let p = err_from_is_err_and c.from_residual.result c.from_residual.ensures.1 in
    rw (p.1, p.2) (failed_writes (g.F.Files.counts c.args.files.now) (g.F.Files.counts c.loop-item.files) (g.F.Files.counts c.perform.new.files) c.in_err-perform.field-0.0 c.loop-item.invariant.quiet c.in_err-perform.ensures.counted)
