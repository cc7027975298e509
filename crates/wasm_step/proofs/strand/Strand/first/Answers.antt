use Rattle.std.proofs.Common.{Some, sym, ap, ◌∙◌}
use Rattle.wasm_types.specs.Modules.{module_of}
use Rattle.wasm_step.proofs.FirstThreads.{first_fits}
use Rattle.wasm_step.proofs.strand.Strand.first.Goals as goal

pub invariant_of-result : goal.invariant_of-result
invariant_of-result c =
    first_fits (module_of c.args.«module».now) c.in_ok-stack.stack.value c.first.ensures.valid c.in_ok-thread.ensures.entry c.in_ok-thread.ensures.start (c.in_ok-thread.ensures.thread ∙ ap Some (sym c.in_ok-stack.ensures.ok))
