use Rattle.std.proofs.Common.{◌≡◌, ◌+◌, ◌-◌, ◌<◌, ℕ, suc, List, ◌∷◌, length, drop, get_or, get_or-drop, drop-cons, length-drop, sym, ap, ◌∙◌, subst, arith}
use Rattle.std.specs.Prelude.{reverse}
use Rattle.std.proofs.lemmas.List.{get_or-reverse, length-reverse}
use Rattle.wasm_stack.specs.Thread.{Thread}
use Rattle.wasm_stack.proofs.stack.Stack.three.Goals as goal

-- an operand of the level by its place
operand_at : {A : Type 0} (from : ℕ) (xs : List A) (k n : ℕ) (x : A) → from + k < length xs → n + k + 1 ≡ length xs → x ≡ get_or xs n x → drop k (reverse (drop from xs)) ≡ x ∷ drop (suc k) (reverse (drop from xs))
operand_at from xs k n x lt e is =
    let level = drop from xs in
    let there : k < length level = omega (arith, length-drop from xs) in
    let up : k < length (reverse level) = omega (arith, there, length-reverse level) in
    let at : from + (length level - 1 - k) ≡ n = omega (arith, length-drop from xs) in
    let same = get_or-reverse level k x there ∙ get_or-drop from xs (length level - 1 - k) x ∙ ap (λ i. get_or xs i x) at ∙ sym is in
    drop-cons (reverse level) k x up ∙ ap (λ y. y ∷ drop (suc k) (reverse level)) same

pub returns-clause-some : goal.returns-clause-some
returns-clause-some c =
    let s = c.self.inside in
    let height = c.len-height.result in
    let len = c.len-height.ensures ∙ s.operands.ok.0 in
    let at = operand_at s.here.floor s.operands.items in
    let z = c.index-3.result.now in
    let y = c.index-2.result.now in
    let x = c.index.result.now in
    let third = at 2 (height - 3) x (omega arith) (omega arith) c.index.ensures in
    let second = at 1 (height - 2) y (omega arith) (omega arith) c.index-2.ensures in
    let first = at 0 (height - 1) z (omega arith) (omega arith) c.index-3.ensures in
    let read = subst (λ (t : Thread). t.stack ≡ z ∷ (y ∷ (x ∷ drop 3 t.stack))) c.self.view_is (first ∙ ap (λ o. z ∷ o) (second ∙ ap (λ o. y ∷ o) third)) in
    rw (c.value.ensures, c.value-2.ensures, c.value-3.ensures) read
