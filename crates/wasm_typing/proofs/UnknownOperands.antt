-- Operands of which nothing is known.
use Rattle.std.proofs.Common.{◌≡◌, Bool, true, false, ◌&&◌, List, [], ◌∷◌, Some, refl, sym, ap, ◌∙◌}
use Rattle.std.proofs.lemmas.Bool.{false≢true}
use Rattle.wasm_types.specs.declared.code.ValType.{ValType}
use Rattle.wasm_types.specs.Stack.{Operand, BlockStack, jumped_stack, has_no_operand, pop_each}

is_jumped_by : (after_jump : Bool) (types : List Operand) → (after_jump && has_no_operand types) ≡ true →
    (let s : BlockStack = record { types = types; after_jump = after_jump } in s ≡ jumped_stack)
is_jumped_by true [] e = refl
is_jumped_by true (x ∷ xs) e = absurd (false≢true e)
is_jumped_by false xs e = absurd (false≢true e)

-- any types can be popped from a jumped stack, which stays as it is
pop_each-jumped : (ts : List ValType) → pop_each ts jumped_stack ≡ Some jumped_stack
pop_each-jumped [] = refl
pop_each-jumped (t ∷ ts) = pop_each-jumped ts

-- the same where the stack is known by its parts
pub pop_each-unknown : (ts : List ValType) (s : BlockStack) → (s.after_jump && has_no_operand s.types) ≡ true → pop_each ts s ≡ Some s
pop_each-unknown ts s e =
    let is : s ≡ jumped_stack = is_jumped_by s.after_jump s.types e in
    ap (pop_each ts) is ∙ pop_each-jumped ts ∙ ap Some (sym is)
