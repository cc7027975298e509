-- The operands above a height.
use Rattle.std.proofs.Common.{◌≡◌, ℕ, ◌-◌, ◌≤◌, List, [], ◌∷◌, length, reverse, drop, nat_eq, ap, sym, ◌∙◌, arith}
use Rattle.std.proofs.lemmas.Bool.Decides.{nat_tests}
use Rattle.std.proofs.lemmas.List.{length-reverse, length-drop}
use Rattle.wasm_types.specs.Stack.{Operand, has_no_operand}

has_none-length : (xs : List Operand) → has_no_operand xs ≡ nat_eq (length xs) 0
has_none-length [] = grind (arith, nat_tests)
has_none-length (x ∷ xs) = grind (arith, nat_tests)

-- no operands are above a height just where it is the number of all
pub has_none_above : (xs : List Operand) (h : ℕ) → h ≤ length xs → nat_eq (length xs) h ≡ has_no_operand (reverse (drop h xs))
has_none_above xs h le =
    let len : length (reverse (drop h xs)) ≡ length xs - h = length-reverse (drop h xs) ∙ length-drop h xs in
    let same : nat_eq (length xs) h ≡ nat_eq (length xs - h) 0 = grind (arith, nat_tests) in
    same ∙ sym (has_none-length (reverse (drop h xs)) ∙ ap (λ n. nat_eq n 0) len)
