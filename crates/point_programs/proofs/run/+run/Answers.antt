use Rattle.std.proofs.Common.{◌≡◌, ◌+◌, ◌*◌, ◌<◌, false, IfOk, arith, ap, subst, sym, ◌∙◌}
use denote.Param.Weighed.{most}
use Rattle.point_programs.proofs.Choices.{runs_first, runs_second}
use Rattle.point_programs.proofs.Depths.{first_deep, second_deep}
use Rattle.point_programs.proofs.program.Stmt.TheLaws.{the_size}
use Rattle.point_programs.proofs.run.+run.Goals as goal
use Rattle.point_programs.specs.Running.{ProgramState, is_nonzero, program_setting}

pub run-run_all-requires : goal.run-run_all-requires
run-run_all-requires g t c κs within =
    let d : 2 * the_size c.args.stmt.now + 0 ≡ t = c.decreases in
    let h : 2 * most the_size c.deref-then-is_true.result.now + 1 < t = omega (arith, first_deep c.args.stmt.now c.in-If.x c.in-If.on_true c.in-If.on_false c.deref-then-is_true.result.now c.in-If.is c.deref-then-is_true.ensures.value) in
    (h, within)

pub run-run_all-requires-else-is_true : goal.run-run_all-requires-else-is_true
run-run_all-requires-else-is_true g t c κs within =
    let d : 2 * the_size c.args.stmt.now + 0 ≡ t = c.decreases in
    let h : 2 * most the_size c.deref-else-is_true.result.now + 1 < t = omega (arith, second_deep c.args.stmt.now c.in-If.x c.in-If.on_true c.in-If.on_false c.deref-else-is_true.result.now c.in-If.is c.deref-else-is_true.ensures.value) in
    (h, within)

pub run-returns-then-is_true : goal.run-returns-then-is_true
run-returns-then-is_true g t c =
    subst (λ (w : ProgramState). IfOk c.run_all.result (λ stopped. w ≡ record { variables = c.run_all.new.vars; text = c.run_all.new.out; stopped = stopped }))
    (runs_first c.args.stmt.now c.in-If.x c.in-If.on_true c.in-If.on_false c.in-If.is (program_setting (g.V.View.nodes c.args.v.now) c.args.by.node c.args.by.name.now) (record { variables = c.args.vars.now; text = c.args.out.now; stopped = false }) c.deref-then-is_true.result.now c.deref-then-is_true.ensures.value (ap is_nonzero (sym c.eval_in_event.ensures) ∙ sym c.is_true.ensures ∙ c.if-is_true.true))
    c.run_all.ensures

pub run-returns-else-is_true : goal.run-returns-else-is_true
run-returns-else-is_true g t c =
    subst (λ (w : ProgramState). IfOk c.run_all-else-is_true.result (λ stopped. w ≡ record { variables = c.run_all-else-is_true.new.vars; text = c.run_all-else-is_true.new.out; stopped = stopped }))
    (runs_second c.args.stmt.now c.in-If.x c.in-If.on_true c.in-If.on_false c.in-If.is (program_setting (g.V.View.nodes c.args.v.now) c.args.by.node c.args.by.name.now) (record { variables = c.args.vars.now; text = c.args.out.now; stopped = false }) c.deref-else-is_true.result.now c.deref-else-is_true.ensures.value (ap is_nonzero (sym c.eval_in_event.ensures) ∙ sym c.is_true.ensures ∙ c.if-is_true.false))
    c.run_all-else-is_true.ensures
