-- The points of a session: what each waits for, on which condition, the line that made it, and the program that is attached to it.
use Rattle.std.specs.Prelude.{ℕ, zero, suc, ◌==◌, Bool, not, List, [], ◌∷◌, ◌++◌, codes, decimal, filter, position, Option, Some, None}
use Rattle.std.specs.List.{list_any}
use Rattle.call_table.specs.declared.kind.Kind.{Kind}
use Rattle.expression_text.specs.Expression.{Expression}
use Rattle.point_programs.specs.Tree.{Statements}

-- an expression whose value changes, or an event of a kind of call or of any, of the node with this number or of any
pub data Trigger : Type 0 where
  Watch : (x : Expression) → Trigger
  Break : (of_node : Option ℕ) → (kind : Option Kind) → Trigger

pub record Point : Type 0 where
  pub number : ℕ
  pub text : List ℕ
  pub trigger : Trigger
  pub condition : Option Expression
  pub program : Option Statements

-- a point to which no program is attached yet
abbrev pub new_point : ℕ → List ℕ → Trigger → Option Expression → Point
new_point number text trigger condition = record { number = number; text = text; trigger = trigger; condition = condition; program = None }

-- a point with this number is held
abbrev pub has_point : List Point → ℕ → Bool
has_point points n = list_any (λ p. p.number == n) points

abbrev pub without_point : List Point → ℕ → List Point
without_point points n = filter (λ p. not (p.number == n)) points

-- where the point with this number is among those that are held
abbrev pub index_of_point : List Point → ℕ → Option ℕ
index_of_point points n = position (λ p. p.number == n) points

abbrev pub point_with_attached : Point → Statements → Point
point_with_attached p body = record { number = p.number; text = p.text; trigger = p.trigger; condition = p.condition; program = Some body }

-- the program is attached to the point at this place, instead of an older one
abbrev pub with_program : List Point → ℕ → Statements → List Point
with_program [] place body = []
with_program (p ∷ points) zero body = point_with_attached p body ∷ points
with_program (p ∷ points) (suc place) body = p ∷ with_program points place body

-- the number of a point, and the line that made it
abbrev pub point_text : Point → List ℕ
point_text p = decimal p.number ++ (codes " " ++ (p.text ++ codes "\n"))
