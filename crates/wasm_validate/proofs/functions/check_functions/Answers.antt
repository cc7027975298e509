use Rattle.std.proofs.lemmas.Result.{err_from_is_err_and}
use Rattle.wasm_types.specs.Modules.{func, module_of}
use Rattle.wasm_types.specs.Rules.{IsTypedFunc, AreTypedFuncs}
use Rattle.wasm_validate.proofs.ListLoops.{All-step, All-done, judges_refused, not_all}
use Rattle.wasm_validate.proofs.functions.check_functions.Goals as goal

pub loop-function-preserved : goal.loop-function-preserved
loop-function-preserved c =
    All-step (IsTypedFunc (module_of c.args.«module».now)) func _ _ _ _ c.deref-function-items.ensures.value c.function-item.is
    c.loop-function-test.true c.loop-function.invariant c.in_ok-check_function.ensures

pub returns : goal.returns
returns c =
    All-done (IsTypedFunc (module_of c.args.«module».now)) func _ _ _ c.deref-function-items.ensures.value
    c.loop-function-test.false c.loop-function.invariant

pub returns-in_err-check_function : goal.returns-in_err-check_function
returns-in_err-check_function c =
    let p = err_from_is_err_and c.from_residual.result c.from_residual.ensures.1 in
    let IsTyped = IsTypedFunc (module_of c.args.«module».now) in
    rw (p.1, p.2)
    (judges_refused (IsTyped (func c.function-item.result)) (AreTypedFuncs (module_of c.args.«module».now)) _
    (not_all IsTyped func _ _ _ _ c.deref-function-items.ensures.value c.function-item.is c.loop-function-test.true)
    c.in_err-check_function.ensures)
