use Rattle.std.proofs.Common.{◌≡◌, ℕ, [], ◌∷◌, Option, Some, None, sym, ap, ◌∙◌, subst}
use Rattle.wasm_types.specs.declared.code.Value.TheVariants.{I32}
use Rattle.wasm_types.specs.Modules.{Func, Module, module_of}
use Rattle.wasm_step.specs.inside.Standing.{StandsFit}
use Rattle.wasm_step.specs.Strand.{Strand, IsHandler, thread_in_handler, started_above}
use Rattle.wasm_stack.specs.Thread.{Thread, waiting_frame}
use Rattle.wasm_step.proofs.FirstThreads.{handler_fits}
use Rattle.wasm_step.proofs.strand.Strand.push_handler.Goals as goal

pub invariant_of-result : goal.invariant_of-result
invariant_of-result c =
    let m = module_of c.self.inside.«module».now in
    let t = c.self.inside.stack.value in
    let f = c.args.func in
    let runs : c.self.inside.call ≡ None = ap (λ (s : Strand). s.call) c.self.view_is ∙ c.requires.runs in
    let fits = subst (λ (call : Option ℕ). StandsFit m t call) runs c.self.invariant in
    let handler : IsHandler m f = subst (λ (m : Module). IsHandler m f) (ap (λ (s : Strand). s.«module») (sym c.self.view_is)) (record { own = c.requires.handler.own; type = c.requires.handler.type }) in
    let entered : thread_in_handler m t f c.args.signal ≡ Some c.handle.new.thread = ap (λ (o : Option Func). started_above o (waiting_frame t ∷ t.callers) f (I32 c.args.signal ∷ [])) c.own-callee.ensures.found ∙ ap (λ (t : Thread). started_above (Some c.own-callee.result) (waiting_frame t ∷ t.callers) f (I32 c.args.signal ∷ [])) (sym c.deref_mut.ensures.value) ∙ c.in_ok-handle.ensures in
    handler_fits m t f c.args.signal c.handle.new.thread c.own-callee.ensures.valid handler fits entered
