use Rattle.std.proofs.Common.{◌+◌, arith}
use Rattle.wasm_types.proofs.ZeroLocals.{zeros_count, zeros_part}
use Rattle.wasm_types.proofs.declared.count_of.Goals as goal

pub returns-then-run-count : goal.returns-then-run-count
returns-then-run-count c =
    let runs = c.args.runs.now in
    let k = c.loop-run.run-index in
    omega (arith, zeros_count runs k c.loop-run-test.true, zeros_part runs (k + 1))

pub loop-run-preserved : goal.loop-run-preserved
loop-run-preserved c = record {
  counted = omega (arith, zeros_count c.args.runs.now c.loop-run.run-index c.loop-run-test.true);
  within = omega arith;
}
