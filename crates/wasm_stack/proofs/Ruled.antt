-- Branches and choices that have a rule, and so a test of 32 bits.
use Rattle.std.proofs.Common.{◌≡◌, ℕ, zero, suc, List, [], ◌∷◌, drop, refl, sym, ap, ◌∙◌}
use Rattle.std.specs.Prelude.{slice_get}
use Rattle.wasm_types.specs.declared.code.Value.{Value}
use Rattle.wasm_types.specs.declared.code.Value.TheVariants.{I32, I64}
use Rattle.wasm_types.specs.Code.{Tree, Trees}
use Rattle.wasm_stack.specs.After.{AfterStep, Goes, Sticks, Stops, on_i32, on_top, with_top}
use Rattle.wasm_stack.specs.Control.{branch, branch_if, branch_table, label_at, on_test}
use Rattle.wasm_stack.specs.Thread.{HasI32, Thread, without_operands}
use Rattle.wasm_stack.specs.View.{chosen_body_entered, entered_by}

takes_i32 : (t : Thread) (go : Value → Thread → AfterStep) → ((x : ℕ) (u : Thread) → go (I64 x) u ≡ Stops Sticks) → (with_top t go ≡ Stops Sticks → ⊥) → HasI32 t
takes_i32 t go wide rule = by_stack t.stack refl
  where
    by_stack : (s : List Value) → t.stack ≡ s → HasI32 t
    by_stack [] e = absurd (rule (ap (λ s. on_top s t go) e))
    by_stack (I64 x ∷ rest) e = absurd (rule (ap (λ s. on_top s t go) e ∙ wide x (record t { stack = rest })))
    by_stack (I32 x ∷ rest) e = (x, e ∙ ap (λ rest. I32 x ∷ rest) (sym (ap (drop 1) e)))

pub tests_branch : (n : ℕ) (t : Thread) → (branch_if n t ≡ Stops Sticks → ⊥) → HasI32 t
tests_branch n t rule = takes_i32 t (λ v u. on_test v (Goes u) (branch n u)) (λ x u. refl) rule

pub tests_table : (labels : List ℕ) (default : ℕ) (t : Thread) → (branch_table labels default t ≡ Stops Sticks → ⊥) → HasI32 t
tests_table labels default t rule = takes_i32 t (λ v u. on_i32 v (λ i. branch (label_at (slice_get labels i) default) u)) (λ x u. refl) rule

pub tests_choice : (i : Tree) (a b : Trees) (t : Thread) → (chosen_body_entered i a b t ≡ Stops Sticks → ⊥) → HasI32 t
tests_choice i a b t rule = takes_i32 t (λ v u. on_test v (Goes (entered_by i b u)) (Goes (entered_by i a u))) (λ x u. refl) rule

-- ---- what comes after them

on_zero : (x : ℕ) (a b : AfterStep) → x ≡ 0 → on_test (I32 x) a b ≡ a
on_zero x a b e = ap (λ x. on_test (I32 x) a b) e

on_other : (x : ℕ) (a b : AfterStep) → (x ≡ 0 → ⊥) → on_test (I32 x) a b ≡ b
on_other zero a b h = absurd (h refl)
on_other (suc x) a b h = refl

module _ (n x : ℕ) (t : Thread) (e : t.stack ≡ I32 x ∷ drop 1 t.stack) where
  branch_by : branch_if n t ≡ on_test (I32 x) (Goes (without_operands 1 t)) (branch n (without_operands 1 t))
  branch_by = ap (λ s. on_top s t (λ v u. on_test v (Goes u) (branch n u))) e

  pub branch_passed : x ≡ 0 → Goes (without_operands 1 t) ≡ branch_if n t
  branch_passed none = sym (branch_by ∙ on_zero x (Goes (without_operands 1 t)) (branch n (without_operands 1 t)) none)

  pub branch_made : (x ≡ 0 → ⊥) → branch n (without_operands 1 t) ≡ branch_if n t
  branch_made other = sym (branch_by ∙ on_other x (Goes (without_operands 1 t)) (branch n (without_operands 1 t)) other)

pub table_made : (labels : List ℕ) (default x : ℕ) (t : Thread) → t.stack ≡ I32 x ∷ drop 1 t.stack → branch (label_at (slice_get labels x) default) (without_operands 1 t) ≡ branch_table labels default t
table_made labels default x t e = sym (ap (λ s. on_top s t (λ v u. on_i32 v (λ i. branch (label_at (slice_get labels i) default) u))) e)

module _ (i : Tree) (on_true on_false : Trees) (x : ℕ) (t : Thread) (e : t.stack ≡ I32 x ∷ drop 1 t.stack) where
  choice_by : chosen_body_entered i on_true on_false t ≡ on_test (I32 x) (Goes (entered_by i on_false (without_operands 1 t))) (Goes (entered_by i on_true (without_operands 1 t)))
  choice_by = ap (λ s. on_top s t (λ v u. on_test v (Goes (entered_by i on_false u)) (Goes (entered_by i on_true u)))) e

  pub choice_false : x ≡ 0 → Goes (entered_by i on_false (without_operands 1 t)) ≡ chosen_body_entered i on_true on_false t
  choice_false none = sym (choice_by ∙ on_zero x _ _ none)

  pub choice_true : (x ≡ 0 → ⊥) → Goes (entered_by i on_true (without_operands 1 t)) ≡ chosen_body_entered i on_true on_false t
  choice_true other = sym (choice_by ∙ on_other x _ _ other)
