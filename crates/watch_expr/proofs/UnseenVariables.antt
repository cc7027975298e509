-- The variables do not matter to an expression that names none.
use Rattle.std.proofs.Common.{◌≡◌, ◌∙◌, ℕ, false, List, [], ◌∷◌, length, map, Option, Some, None, ℤ, ap, refl}
use Rattle.std.specs.List.{range_with_len}
use Rattle.std.proofs.lemmas.Bool.{or_parts}
use Rattle.expression_text.specs.declared.expr.Binary.{Binary}
use Rattle.expression_text.specs.Expression.{Clock, Events, Expression, Global, HasEnded, LastThread, Load, Number, One, Over, Size, Two, Var}
use Rattle.expression_text.specs.Faulty.{names_variable}
use Rattle.watch_expr.specs.Reads.{VariablesUnseen}
use Rattle.watch_expr.specs.Value.{ExpressionSetting, aggregate_over, all_numbers, decided_by_left, decided_with_right, loaded_at, resolved_node, setting_in_event, unary_value, value_at}
use Rattle.watch_expr.specs.View.{Node, ◌>>=◌}

same_at_all : (f g : ℕ → Option ℤ) → ((k : ℕ) → f k ≡ g k) → (ks : List ℕ) → map f ks ≡ map g ks
same_at_all f g same [] = refl
same_at_all f g same (k ∷ ks) = ap (λ (o : Option ℤ). o ∷ map f ks) (same k) ∙ ap (λ (os : List (Option ℤ)). g k ∷ os) (same_at_all f g same ks)

-- the value of an operator with two sides, by those of its sides
abbrev two_values : Binary → Option ℤ → Option ℤ → Option ℤ
two_values op left right = left >>= λ a. decided_with_right op a (decided_by_left op a) right

module _ (nodes : List Node) (v w : List ℕ → Option ℤ) (event : Option ℕ) where
  abbrev at : (List ℕ → Option ℤ) → ExpressionSetting
  at variables = setting_in_event nodes variables event

  unseen_at : (each : Option ℕ) (x : Expression) → names_variable x ≡ false → value_at (at v) each x ≡ value_at (at w) each x
  unseen_at each (Number n) none = refl
  unseen_at each (Var name) none = cc
  unseen_at each (One op x) none = ap (λ (o : Option ℤ). o >>= unary_value op) (unseen_at each x none)
  unseen_at each (Two op x y) none =
      let parts = or_parts (names_variable x) (names_variable y) none in
      ap (λ (o : Option ℤ). two_values op o (value_at (at v) each y)) (unseen_at each x parts.0) ∙ ap (two_values op (value_at (at w) each x)) (unseen_at each y parts.1)
  unseen_at each (Over agg x) none =
      ap (λ (os : List (Option ℤ)). all_numbers os >>= aggregate_over agg)
      (same_at_all (λ node. value_at (at v) (Some node) x) (λ node. value_at (at w) (Some node) x) (λ node. unseen_at (Some node) x none) (range_with_len 0 (length nodes)))
  unseen_at each (Load name width x) none =
      ap (λ (o : Option ℤ). o >>= λ addr. resolved_node event each name >>= λ node. loaded_at nodes node width addr) (unseen_at each x none)
  unseen_at each (Global name n) none = refl
  unseen_at each (Clock name) none = refl
  unseen_at each (Events name) none = refl
  unseen_at each (Size name) none = refl
  unseen_at each (LastThread name) none = refl
  unseen_at each (HasEnded name) none = refl

pub variables_unseen : VariablesUnseen
variables_unseen nodes v w event x none = (unseen_at nodes v w None None x none, unseen_at nodes v w event None x none)
