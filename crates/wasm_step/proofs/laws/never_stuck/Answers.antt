use Rattle.wasm_step.proofs.BurstsFit.{burst_fits, burst_module}
use Rattle.wasm_step.proofs.InstructionMarks.{burst_marks}
use Rattle.wasm_step.proofs.laws.never_stuck.Goals as goal

pub returns-clause-stops : goal.returns-clause-stops
returns-clause-stops c = burst_fits c.types_agree.ensures

pub returns-clause-same_module : goal.returns-clause-same_module
returns-clause-same_module c = burst_module

pub returns-clause-stamps : goal.returns-clause-stamps
returns-clause-stamps c = λ n t g.
    let laws = c.marked.ensures in
    (burst_marks laws.set laws.grown laws.written laws.nothing laws.follow n t g).later

pub returns-clause-marks : goal.returns-clause-marks
returns-clause-marks c = λ n t g.
    let laws = c.marked.ensures in
    (burst_marks laws.set laws.grown laws.written laws.nothing laws.follow n t g).told
