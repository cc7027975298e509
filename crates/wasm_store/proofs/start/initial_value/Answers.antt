use Rattle.std.proofs.Common.{◌≡◌, ◌≤◌, List, [], ◌∷◌, length, refl, ap, ◌∙◌, subst, arith}
use Rattle.wasm_types.specs.declared.code.Instr.{Instr}
use Rattle.wasm_types.specs.declared.code.Value.{Value}
use Rattle.wasm_types.specs.Code.{trees}
use Rattle.wasm_store.specs.Start.{initial_in}
use Rattle.wasm_store.proofs.start.initial_value.Goals as goal

several : (is : List Instr) (otherwise : Value) → 2 ≤ length is → otherwise ≡ initial_in (trees is) otherwise
several [] otherwise h = absurd (omega arith)
several (i ∷ []) otherwise h = absurd (omega arith)
several (i ∷ (j ∷ is)) otherwise h = refl

pub returns-in_default-2 : goal.returns-in_default-2
returns-in_default-2 c =
    let is = c.args.global.now.init.items in
    let h : 2 ≤ length is = subst (λ (is : List Instr). 2 ≤ length is) c.as_slice.ensures.value c.in_default.len_at_least in
    several is c.zero_of-otherwise.result h ∙ ap (initial_in (trees is)) c.zero_of-otherwise.ensures
