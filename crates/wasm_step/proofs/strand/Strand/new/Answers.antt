use Rattle.std.proofs.Common.{◌≡◌, List, [], ◌∷◌, Option, Some, None, ◌++◌, sym, ap, ◌∙◌}
use Rattle.wasm_types.specs.declared.code.Value.{Value}
use Rattle.wasm_types.specs.declared.code.Value.TheVariants.{I32}
use Rattle.wasm_types.specs.Modules.{Func, module_of}
use Rattle.wasm_step.specs.Strand.{new_thread, started_above}
use Rattle.wasm_types.specs.Locals.{zeros}
use Rattle.wasm_stack.specs.Thread.{function_at_start}
use Rattle.wasm_step.proofs.FirstThreads.{new_fits}
use Rattle.wasm_step.proofs.strand.Strand.new.Goals as goal

pub invariant_of-result : goal.invariant_of-result
invariant_of-result c =
    let m = module_of c.args.«module».now in
    let f = c.args.func in
    let callee = c.own-callee.result in
    let started : new_thread m f c.args.arg ≡ Some c.in_ok-stack.stack.value = ap (λ (o : Option Func). started_above o [] f (I32 c.args.arg ∷ [])) c.own-callee.ensures.found ∙ ap (λ (v : Value). started_above (Some callee) [] f (v ∷ [])) (sym c.of.ensures) ∙ ap Some (ap (λ (args : List Value). function_at_start [] f callee.body (args ++ zeros callee.locals) None) (sym c.in_ok-arguments.ensures.items) ∙ sym c.in_ok-thread.ensures ∙ sym c.in_ok-stack.ensures.ok) in
    new_fits m f c.args.arg c.in_ok-stack.stack.value c.own-callee.ensures.valid (record { own = c.requires.own; type = c.requires.type }) started
