use Rattle.std.proofs.Common.{rules, ◌<◌, length, sym, arith, FitsSigned, w64}
use Rattle.watch_expr.proofs.PartValues.{tallied_first, tallied_more}
use Rattle.watch_expr.proofs.parts.value_over.Goals as goal

pub loop-part-init : goal.loop-part-init
loop-part-init c = tallied_first c.args.agg c.args.parts.now c.start-tally.result c.start-tally.ensures

pub loop-part-preserved : goal.loop-part-preserved
loop-part-preserved c =
    let below : c.loop-part.part-index < length c.args.parts.now = omega (arith, c.loop-part-test.true) in
    let fits : FitsSigned w64 c.in_ok-value.field-0 = search rules in
    tallied_more c.args.agg c.args.parts.now c.loop-part.tally c.loop-part.part-index c.part-item.result c.loop-part.invariant below (sym c.part-item.is) c.in_ok-value.field-0 c.add-tally.result fits
    (search rules) c.add-tally.ensures
