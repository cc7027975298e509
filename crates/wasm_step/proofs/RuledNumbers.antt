-- Numeric instructions that have a rule, and what stands in place of their operands.
use Rattle.std.proofs.Common.{◌≡◌, ℕ, Bool, true, false, List, [], ◌∷◌, length, drop, refl, sym, ap, ◌∙◌, arith}
use Rattle.std.specs.Prelude.{if◌then◌else◌}
use Rattle.wasm_types.specs.declared.code.Value.{Value}
use Rattle.wasm_types.specs.declared.code.Value.TheVariants.{I32, I64}
use Rattle.wasm_types.specs.Code.{Trees}
use Rattle.wasm_values.specs.Numeric.{Computed, Gives, Fails, IsNone, binary, is_unary, unary}
use Rattle.wasm_stack.specs.After.{AfterStep, Goes, Sticks, Stops, on_top, with_top}
use Rattle.wasm_stack.specs.Limits.{ThreadWithin}
use Rattle.wasm_stack.specs.Rows.{numeric, put_computed}
use Rattle.wasm_stack.specs.Thread.{HasI32, Thread, with_operand}
use Rattle.wasm_step.specs.inside.Rules.{HasI64, HasTwoI32, HasTwoI64, OneIsI32, OneIsI64, TwoAreI32, TwoAreI64}

pub one_i32 : (op k : ℕ) (t : Thread) → op ≡ k → (numeric op t ≡ Stops Sticks → ⊥) → is_unary k ≡ true → OneIsI32 k → HasI32 t
one_i32 op k t same rule takes only = by_stack t.stack refl
  where
    sticks : on_top t.stack t (λ x u. put_computed (unary k x) u) ≡ Stops Sticks → ⊥
    sticks e = rule (ap (λ op. numeric op t) same ∙ ap (λ b. if b then with_top t (λ x u. put_computed (unary k x) u) else with_top t (λ y u. with_top u (λ x w. put_computed (binary k x y) w))) takes ∙ e)

    by_stack : (s : List Value) → t.stack ≡ s → HasI32 t
    by_stack [] e = absurd (sticks (ap (λ s. on_top s t (λ x u. put_computed (unary k x) u)) e))
    by_stack (I64 x ∷ rest) e = absurd (sticks (ap (λ s. on_top s t (λ x u. put_computed (unary k x) u)) e ∙ ap (λ n. put_computed n (record t { stack = rest })) (only x)))
    by_stack (I32 x ∷ rest) e = (x, e ∙ ap (λ rest. I32 x ∷ rest) (sym (ap (drop 1) e)))

pub one_i64 : (op k : ℕ) (t : Thread) → op ≡ k → (numeric op t ≡ Stops Sticks → ⊥) → is_unary k ≡ true → OneIsI64 k → HasI64 t
one_i64 op k t same rule takes only = by_stack t.stack refl
  where
    sticks : on_top t.stack t (λ x u. put_computed (unary k x) u) ≡ Stops Sticks → ⊥
    sticks e = rule (ap (λ op. numeric op t) same ∙ ap (λ b. if b then with_top t (λ x u. put_computed (unary k x) u) else with_top t (λ y u. with_top u (λ x w. put_computed (binary k x y) w))) takes ∙ e)

    by_stack : (s : List Value) → t.stack ≡ s → HasI64 t
    by_stack [] e = absurd (sticks (ap (λ s. on_top s t (λ x u. put_computed (unary k x) u)) e))
    by_stack (I32 x ∷ rest) e = absurd (sticks (ap (λ s. on_top s t (λ x u. put_computed (unary k x) u)) e ∙ ap (λ n. put_computed n (record t { stack = rest })) (only x)))
    by_stack (I64 x ∷ rest) e = (x, e ∙ ap (λ rest. I64 x ∷ rest) (sym (ap (drop 1) e)))

pub two_i32 : (op k : ℕ) (t : Thread) → op ≡ k → (numeric op t ≡ Stops Sticks → ⊥) → is_unary k ≡ false → TwoAreI32 k → HasTwoI32 t
two_i32 op k t same rule takes only = by_stack t.stack refl
  where
    sticks : on_top t.stack t (λ y u. with_top u (λ x w. put_computed (binary k x y) w)) ≡ Stops Sticks → ⊥
    sticks e = rule (ap (λ op. numeric op t) same ∙ ap (λ b. if b then with_top t (λ x u. put_computed (unary k x) u) else with_top t (λ y u. with_top u (λ x w. put_computed (binary k x y) w))) takes ∙ e)

    by_stack : (s : List Value) → t.stack ≡ s → HasTwoI32 t
    by_stack [] e = absurd (sticks (ap (λ s. on_top s t (λ y u. with_top u (λ x w. put_computed (binary k x y) w))) e))
    by_stack (y ∷ []) e = absurd (sticks (ap (λ s. on_top s t (λ y u. with_top u (λ x w. put_computed (binary k x y) w))) e))
    by_stack (I64 y ∷ (I64 x ∷ rest)) e = absurd (sticks (ap (λ s. on_top s t (λ y u. with_top u (λ x w. put_computed (binary k x y) w))) e ∙ ap (λ n. put_computed n (record t { stack = rest })) (only x y)))
    by_stack (I64 y ∷ (I32 x ∷ rest)) e = absurd (sticks (ap (λ s. on_top s t (λ y u. with_top u (λ x w. put_computed (binary k x y) w))) e))
    by_stack (I32 y ∷ (I64 x ∷ rest)) e = absurd (sticks (ap (λ s. on_top s t (λ y u. with_top u (λ x w. put_computed (binary k x y) w))) e))
    by_stack (I32 y ∷ (I32 x ∷ rest)) e = (x, (y, e ∙ ap (λ rest. I32 y ∷ (I32 x ∷ rest)) (sym (ap (drop 2) e))))

pub two_i64 : (op k : ℕ) (t : Thread) → op ≡ k → (numeric op t ≡ Stops Sticks → ⊥) → is_unary k ≡ false → TwoAreI64 k → HasTwoI64 t
two_i64 op k t same rule takes only = by_stack t.stack refl
  where
    sticks : on_top t.stack t (λ y u. with_top u (λ x w. put_computed (binary k x y) w)) ≡ Stops Sticks → ⊥
    sticks e = rule (ap (λ op. numeric op t) same ∙ ap (λ b. if b then with_top t (λ x u. put_computed (unary k x) u) else with_top t (λ y u. with_top u (λ x w. put_computed (binary k x y) w))) takes ∙ e)

    by_stack : (s : List Value) → t.stack ≡ s → HasTwoI64 t
    by_stack [] e = absurd (sticks (ap (λ s. on_top s t (λ y u. with_top u (λ x w. put_computed (binary k x y) w))) e))
    by_stack (y ∷ []) e = absurd (sticks (ap (λ s. on_top s t (λ y u. with_top u (λ x w. put_computed (binary k x y) w))) e))
    by_stack (I32 y ∷ (I32 x ∷ rest)) e = absurd (sticks (ap (λ s. on_top s t (λ y u. with_top u (λ x w. put_computed (binary k x y) w))) e ∙ ap (λ n. put_computed n (record t { stack = rest })) (only x y)))
    by_stack (I32 y ∷ (I64 x ∷ rest)) e = absurd (sticks (ap (λ s. on_top s t (λ y u. with_top u (λ x w. put_computed (binary k x y) w))) e))
    by_stack (I64 y ∷ (I32 x ∷ rest)) e = absurd (sticks (ap (λ s. on_top s t (λ y u. with_top u (λ x w. put_computed (binary k x y) w))) e))
    by_stack (I64 y ∷ (I64 x ∷ rest)) e = (x, (y, e ∙ ap (λ rest. I64 y ∷ (I64 x ∷ rest)) (sym (ap (drop 2) e))))

pub combined_by : (op k : ℕ) (t : Thread) (x y v : Value) → op ≡ k → t.stack ≡ y ∷ (x ∷ drop 2 t.stack) → is_unary k ≡ false → Gives v ≡ binary k x y → Goes (record t { stack = v ∷ drop 2 t.stack }) ≡ numeric op t
combined_by op k t x y v same st two e =
    let u = record t { stack = drop 2 t.stack } in
    let t' = with_operand (with_operand u x) y in
    ap (λ n. put_computed n u) e
    ∙ ap (λ b. if b then with_top t' (λ x t'. put_computed (unary k x) t') else with_top t' (λ y t'. with_top t' (λ x t''. put_computed (binary k x y) t''))) (sym two)
    ∙ ap (λ o. numeric k (record t { stack = o })) (sym st)
    ∙ ap (λ op. numeric op t) (sym same)

pub changed_by : (op k : ℕ) (t : Thread) (x v : Value) → op ≡ k → t.stack ≡ x ∷ drop 1 t.stack → is_unary k ≡ true → Gives v ≡ unary k x → Goes (record t { stack = v ∷ drop 1 t.stack }) ≡ numeric op t
changed_by op k t x v same st one e =
    let u = record t { stack = drop 1 t.stack } in
    let t' = with_operand u x in
    ap (λ n. put_computed n u) e
    ∙ ap (λ b. if b then with_top t' (λ x t'. put_computed (unary k x) t') else with_top t' (λ y t'. with_top t' (λ x t''. put_computed (binary k x y) t''))) (sym one)
    ∙ ap (λ o. numeric k (record t { stack = o })) (sym st)
    ∙ ap (λ op. numeric op t) (sym same)

pub within_two : (t : Thread) (x y v : Value) → t.stack ≡ y ∷ (x ∷ drop 2 t.stack) → ThreadWithin t → ThreadWithin (record t { stack = v ∷ drop 2 t.stack })
within_two t x y v st h = let two = ap length st in record { frames = h.frames; size = omega (arith, h.size, two) }

put_anywhere : (n : Computed) (t u : Thread) → put_computed n t ≡ Stops Sticks → put_computed n u ≡ Stops Sticks
put_anywhere (Gives v) t u e = cc
put_anywhere (Fails trap) t u e = cc
put_anywhere IsNone t u e = refl

abbrev numeric_row : ℕ → Bool → List Value → Thread → AfterStep
numeric_row op b s t = if b then on_top s t (λ x u. put_computed (unary op x) u) else on_top s t (λ y u. with_top u (λ x w. put_computed (binary op x y) w))

row_anywhere : (op : ℕ) (b : Bool) (s : List Value) (t : Thread) (rest : Trees) → numeric_row op b s t ≡ Stops Sticks → numeric_row op b s (record t { todo = rest }) ≡ Stops Sticks
row_anywhere op true [] t rest e = refl
row_anywhere op true (x ∷ s) t rest e = put_anywhere (unary op x) _ _ e
row_anywhere op false [] t rest e = refl
row_anywhere op false (y ∷ []) t rest e = refl
row_anywhere op false (y ∷ (x ∷ s)) t rest e = put_anywhere (binary op x y) _ _ e

-- whatever is left to do
pub sticks_anywhere : (op : ℕ) (t : Thread) (rest : Trees) → numeric op t ≡ Stops Sticks → numeric op (record t { todo = rest }) ≡ Stops Sticks
sticks_anywhere op t rest = row_anywhere op (is_unary op) t.stack t rest
