use Rattle.std.proofs.Common.{◌∙◌, ap}
use Rattle.std.proofs.lemmas.Result.{err_from_is_err_and}
use Rattle.wasm_types.specs.Modules.{module_of}
use Rattle.log_pairs.proofs.FirstReplays.{is_replay, stands_at_head}
use Rattle.log_pairs.proofs.pairs.begin_replay.Goals as goal

pub returns-clause-answer : goal.returns-clause-answer
returns-clause-answer c = λ is pair.
    is_replay c.args.loaded.now is c.view.result _ _ c.in_ok-begun.begun c.in_ok-begin.field-0 pair
    c.view.ensures (ap module_of c.module.ensures ∙ pair.«module») c.head-count.ensures c.in_ok-begun.ensures.answer c.in_ok-begin.ensures

pub returns-clause-at_head : goal.returns-clause-at_head
returns-clause-at_head c =
    stands_at_head c.args.loaded.now c.requires.0 c.view.result c.in_ok-begun.begun c.in_ok-begin.field-0 c.requires.1
    c.view.ensures c.in_ok-begun.ensures.fresh.clock c.in_ok-begin.ensures

pub returns-in_err-begun-clause-cause : goal.returns-in_err-begun-clause-cause
returns-in_err-begun-clause-cause c =
    let p = err_from_is_err_and c.from_residual.result c.from_residual.ensures.1 in
    rw (p.1, p.2) c.in_err-begun.ensures.cause

pub returns-in_err-begun-clause-still : goal.returns-in_err-begun-clause-still
returns-in_err-begun-clause-still c =
    let p = err_from_is_err_and c.from_residual.result c.from_residual.ensures.1 in
    rw (p.1, p.2) c.in_err-begun.ensures.still
