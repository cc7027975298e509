use Rattle.std.proofs.Common.{sym, ◌∙◌, subst, arith}
use Rattle.std.specs.List.Sorted.{IsNonDecreasing}
use Rattle.wasm_typing.proofs.LocalRuns.{ends_rise, found_at}
use Rattle.wasm_typing.proofs.locals.Locals.get.Goals as goal

pub run_at-requires : goal.run_at-requires
run_at-requires c = subst IsNonDecreasing (sym (c.deref.ensures.value ∙ c.self.invariant)) (ends_rise c.self.inside.runs.now)

pub returns : goal.returns
returns c =
    let self = c.self.inside in
    rw (← c.self.view_is)
    (c.type_of_run.ensures
    ∙ sym (found_at self.params.now self.runs.now c.deref.result.now c.args.index c.run_at.result
    (c.deref.ensures.value ∙ c.self.invariant) (omega arith) (omega arith) c.run_at.ensures))
