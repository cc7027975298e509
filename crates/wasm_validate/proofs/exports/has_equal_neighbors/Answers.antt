use Rattle.wasm_validate.proofs.NameLemmas.{equal_at, differ_more}
use Rattle.wasm_validate.proofs.exports.has_equal_neighbors.Goals as goal

pub returns-then-is_same : goal.returns-then-is_same
returns-then-is_same c = equal_at (λ n. n.now) c.args.names.now c.loop-i.i _ _ c.loop-i.auto.i c.loop-i-test.true (c.is_same.ensures.0 c.if-is_same.true)

pub loop-i-preserved : goal.loop-i-preserved
loop-i-preserved c =
    differ_more (λ n. n.now) c.args.names.now c.loop-i.i _ _ c.loop-i.auto.i c.loop-i-test.true c.loop-i.invariant
    (λ same. let yes = c.is_same.ensures.1 same in let no = c.if-is_same.false in cc)
