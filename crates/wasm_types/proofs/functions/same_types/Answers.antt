use Rattle.std.proofs.Common.{◌≡◌, Bool, true, false, List, [], ◌∷◌, suc, length, ap, ◌∙◌, refl}
use Rattle.std.specs.Prelude.{◌&&◌}
use Rattle.wasm_types.specs.declared.code.ValType.{ValType}
use Rattle.wasm_types.specs.Stack.{is_same}
use Rattle.wasm_types.specs.Functions.{same_types}
use Rattle.wasm_types.proofs.functions.same_types.Goals as goal

and_false : (b : Bool) → false ≡ b && false
and_false true = refl
and_false false = refl

other_length : (a b : List ValType) → (length a ≡ length b → ⊥) → false ≡ same_types a b
other_length [] [] h = absurd (h refl)
other_length [] (y ∷ b) h = refl
other_length (x ∷ a) [] h = refl
other_length (x ∷ a) (y ∷ b) h =
    and_false (is_same x y) ∙ ap (λ r. is_same x y && r) (other_length a b (λ e. h (ap suc e)))

pub returns-then-a-b : goal.returns-then-a-b
returns-then-a-b c = other_length c.args.a.now c.args.b.now c.if-a-b.true
