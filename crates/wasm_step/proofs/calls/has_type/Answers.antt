use Rattle.std.proofs.Common.{◌≡◌, Option, Some, slice_get, sym, ap, ◌∙◌, subst}
use Rattle.std.specs.Prelude.{if◌then◌else◌}
use Rattle.wasm_types.specs.declared.traps.Trap.TheVariants.{TypeDiffers}
use Rattle.wasm_types.specs.Modules.{FuncType, module_of}
use Rattle.wasm_stack.specs.After.{at_trap}
use Rattle.wasm_step.specs.Reduce.{call, call_if_same}
use Rattle.wasm_step.proofs.InPlace.{same_as_itself}
use Rattle.wasm_step.proofs.calls.has_type.Goals as goal

pub returns-then-type_index : goal.returns-then-type_index
returns-then-type_index c =
    let m = module_of c.args.module.now in
    λ _ type is f t.
    let at = subst (λ i. slice_get m.types i ≡ Some type) (sym c.type_index.ensures ∙ c.if-type_index.true) is in
    ap (λ (o : Option FuncType). call_if_same m f (Some type) o t) at ∙ ap (λ b. if b then call m f t else at_trap t TypeDiffers) (same_as_itself type)
