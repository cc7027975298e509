use Rattle.std.proofs.Common.{◌≡◌, ℕ, Option, Some, sym, ap, ◌∙◌, subst}
use Rattle.wasm_types.specs.Modules.{Module, module_of}
use Rattle.wasm_step.specs.inside.Standing.{StandsFit}
use Rattle.wasm_step.specs.Fits.{ThreadFits}
use Rattle.wasm_stack.specs.Control.{with_result}
use Rattle.wasm_step.specs.Strand.{Strand, IsResult, library_result}
use Rattle.wasm_stack.specs.Thread.{Thread}
use Rattle.wasm_step.proofs.strand.Strand.answer.Goals as goal

pub invariant_of-result : goal.invariant_of-result
invariant_of-result c =
    let m = module_of c.self.inside.«module».now in
    let stands : c.self.inside.call ≡ Some c.requires.func = ap (λ (s : Strand). s.call) c.self.view_is ∙ c.requires.stands in
    let typed = subst (λ (m : Module). IsResult (library_result m c.requires.func) c.args.value) (ap (λ (s : Strand). s.«module») (sym c.self.view_is)) c.requires.typed in
    let fits = subst (λ (call : Option ℕ). StandsFit m c.self.inside.stack.value call) stands c.self.invariant in
    let after = c.in_ok-give.ensures ∙ ap (λ (t : Thread). with_result c.args.value t) c.deref_mut.ensures.value in
    subst (λ (t : Thread). ThreadFits m t) (sym after) (fits c.args.value typed)
