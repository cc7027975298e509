-- The value of an expression: a signed number of 64 bits, or None for undef.
use Rattle.std.specs.Prelude.{ℕ, ◌+◌, ◌^◌, List, [], ◌∷◌, length, map, Option, Some, None, option_map, Bool, false, ◌&&◌, not, nat_lt, ◌==◌, if◌then◌else◌, ℤ, pos, negsuc, ◌+ℤ◌, ◌-ℤ◌, ◌*ℤ◌, neg_ℤ, int_lt, int_le, int_div, int_rem, fold, count_by}
use Rattle.std.specs.Int.{w8, w16, w32, w64, int_max, int_min, cast_signed}
use Rattle.std.specs.List.{range_with_len, reduce}
use Rattle.guest_memory.specs.LittleEndian.{little_endian}
use Rattle.expression_text.specs.declared.expr.Agg.{Agg}
use Rattle.expression_text.specs.declared.expr.Agg.TheVariants as agg
use Rattle.expression_text.specs.declared.expr.Binary.{Binary}
use Rattle.expression_text.specs.declared.expr.Binary.TheVariants as binary
use Rattle.expression_text.specs.declared.expr.NodeName.{NodeName}
use Rattle.expression_text.specs.declared.expr.NodeName.TheVariants.{Named, Each, OfEvent}
use Rattle.expression_text.specs.declared.expr.Unary.{Unary}
use Rattle.expression_text.specs.declared.expr.Unary.TheVariants as unary
use Rattle.expression_text.specs.declared.expr.Width.{Width}
use Rattle.expression_text.specs.declared.expr.Width.TheVariants as width
use Rattle.expression_text.specs.Expression.{Expression, Number, Var, One, Two, Over, Load, Global, Clock, Events, Size, LastThread, HasEnded}
use Rattle.watch_expr.specs.View.{Node, ◌>>=◌, node_clock, events_at, global_at, has_ended_at, last_thread_at, bytes_of_node, size_at}

-- what an expression is about: the states of the nodes, the variables by their names, None for undef, and the node of the
-- event that led to the position, where it can be asked for
pub record ExpressionSetting : Type 0 where
  pub nodes : List Node
  pub variables : List ℕ → Option ℤ
  pub event : Option ℕ

-- ---- numbers

-- the number is in range
abbrev pub is_i64 : ℤ → Bool
is_i64 (pos n) = nat_lt n (2 ^ 63)
is_i64 (negsuc n) = nat_lt n (2 ^ 63)

-- a result, undef where it is out of range
abbrev pub fit_value : ℤ → Option ℤ
fit_value z = if is_i64 z then Some z else None

abbrev pub is_zero : ℤ → Bool
is_zero (pos n) = n == 0
is_zero (negsuc n) = false

abbrev pub truth_value : Bool → ℤ
truth_value b = if b then pos 1 else pos 0

-- ---- operators

abbrev pub unary_value : Unary → ℤ → Option ℤ
unary_value unary.Minus a = fit_value (neg_ℤ a)
unary_value unary.Not a = Some (truth_value (is_zero a))

abbrev pub is_least : ℤ → Bool
is_least (pos n) = false
is_least (negsuc n) = n + 1 == 2 ^ 63

abbrev pub is_minus_one : ℤ → Bool
is_minus_one (pos n) = false
is_minus_one (negsuc n) = n == 0

-- `/` and `%` give undef at the divisor 0, and where the least value is divided by -1
abbrev pub can_divide : ℤ → ℤ → Bool
can_divide a b = not (is_zero b) && not (is_least a && is_minus_one b)

abbrev pub equal : ℤ → ℤ → Bool
equal a b = int_le a b && int_le b a

-- an operator whose sides are both evaluated; `/` rounds toward zero, and `%` has the sign of its left side
abbrev pub two : Binary → ℤ → ℤ → Option ℤ
two binary.Or a b = Some (truth_value (not (is_zero b)))
two binary.And a b = Some (truth_value (not (is_zero b)))
two binary.Eq a b = Some (truth_value (equal a b))
two binary.Ne a b = Some (truth_value (not (equal a b)))
two binary.Lt a b = Some (truth_value (int_lt a b))
two binary.Le a b = Some (truth_value (int_le a b))
two binary.Gt a b = Some (truth_value (int_lt b a))
two binary.Ge a b = Some (truth_value (int_le b a))
two binary.Add a b = fit_value (a +ℤ b)
two binary.Sub a b = fit_value (a -ℤ b)
two binary.Mul a b = fit_value (a *ℤ b)
two binary.Div a b = if can_divide a b then Some (int_div a b) else None
two binary.Rem a b = if can_divide a b then Some (int_rem a b) else None

-- what the left side alone decides: `&&` is 0 where it is 0, and `||` is 1 where it is another number
abbrev pub decided_by_left : Binary → ℤ → Option ℤ
decided_by_left binary.And a = if is_zero a then Some (pos 0) else None
decided_by_left binary.Or a = if is_zero a then None else Some (pos 1)
decided_by_left _ a = None

-- the right side matters only where the left one does not decide
abbrev pub decided_with_right : Binary → ℤ → Option ℤ → Option ℤ → Option ℤ
decided_with_right op a (Some result) right = Some result
decided_with_right op a None right = right >>= λ b. two op a b

-- ---- aggregates

-- the values at all nodes, if each is a number
abbrev pub all_numbers : List (Option ℤ) → Option (List ℤ)
all_numbers [] = Some []
all_numbers (None ∷ values) = None
all_numbers (Some z ∷ values) = all_numbers values >>= λ numbers. Some (z ∷ numbers)

abbrev pub aggregate_over : Agg → List ℤ → Option ℤ
aggregate_over agg.Sum numbers = fit_value (fold ◌+ℤ◌ (pos 0) numbers)
aggregate_over agg.Min numbers = reduce int_min numbers
aggregate_over agg.Max numbers = reduce int_max numbers
aggregate_over agg.Count numbers = Some (pos (count_by (λ z. not (is_zero z)) numbers))

-- ---- places

-- the node with this name, where `event` is the node of the position's event and `each` that of the aggregate around it, if
-- there is one
abbrev pub resolved_node : Option ℕ → Option ℕ → NodeName → Option ℕ
resolved_node event each (Named node) = node
resolved_node event each Each = each
resolved_node event each OfEvent = event

-- how many bytes a load reads
abbrev pub byte_count : Width → ℕ
byte_count width.U8 = 1
byte_count width.U16 = 2
byte_count width.U32 = 4
byte_count width.I8 = 1
byte_count width.I16 = 2
byte_count width.I32 = 4
byte_count width.I64 = 8

-- the value that the bytes stand for, the lowest first
abbrev pub value_of_bytes : Width → List ℕ → ℤ
value_of_bytes width.U8 bytes = pos (little_endian bytes)
value_of_bytes width.U16 bytes = pos (little_endian bytes)
value_of_bytes width.U32 bytes = pos (little_endian bytes)
value_of_bytes width.I8 bytes = cast_signed w8 (little_endian bytes)
value_of_bytes width.I16 bytes = cast_signed w16 (little_endian bytes)
value_of_bytes width.I32 bytes = cast_signed w32 (little_endian bytes)
value_of_bytes width.I64 bytes = cast_signed w64 (little_endian bytes)

-- what a load gives at an address, which may be negative
abbrev pub loaded_at : List Node → ℕ → Width → ℤ → Option ℤ
loaded_at nodes node width (pos addr) = option_map (value_of_bytes width) (bytes_of_node nodes node addr (byte_count width))
loaded_at nodes node width (negsuc _) = None

abbrev pub global_value : List Node → ℕ → ℕ → Option ℤ
global_value nodes node n = if nat_lt n (2 ^ 32) then global_at nodes node n else None

-- ---- expressions

-- the value where `each` is the node of the aggregate around it
abbrev pub value_at : ExpressionSetting → Option ℕ → Expression → Option ℤ
value_at s each (Number n) = fit_value (pos n)
value_at s each (Var name) = s.variables name
value_at s each (One op x) = value_at s each x >>= unary_value op
value_at s each (Two op x y) = value_at s each x >>= λ a. decided_with_right op a (decided_by_left op a) (value_at s each y)
value_at s each (Over agg x) = all_numbers (map (λ node. value_at s (Some node) x) (range_with_len 0 (length s.nodes))) >>= aggregate_over agg
value_at s each (Load name width x) = value_at s each x >>= λ addr. resolved_node s.event each name >>= λ node. loaded_at s.nodes node width addr
value_at s each (Global name n) = resolved_node s.event each name >>= λ node. global_value s.nodes node n
value_at s each (Clock name) = resolved_node s.event each name >>= node_clock s.nodes
value_at s each (Events name) = resolved_node s.event each name >>= events_at s.nodes
value_at s each (Size name) = resolved_node s.event each name >>= λ node. option_map pos (size_at s.nodes node)
value_at s each (LastThread name) = resolved_node s.event each name >>= last_thread_at s.nodes
value_at s each (HasEnded name) = resolved_node s.event each name >>= λ node. option_map truth_value (has_ended_at s.nodes node)

abbrev pub expression_setting : List Node → (List ℕ → Option ℤ) → ExpressionSetting
expression_setting nodes variables = record { nodes = nodes; variables = variables; event = None }

abbrev pub setting_in_event : List Node → (List ℕ → Option ℤ) → Option ℕ → ExpressionSetting
setting_in_event nodes variables event = record { nodes = nodes; variables = variables; event = event }

-- The value of an expression. A node that isn't there, and the name of each node outside of an aggregate,
-- have only undef places.
abbrev pub value : List Node → (List ℕ → Option ℤ) → Expression → Option ℤ
value nodes variables x = value_at (expression_setting nodes variables) None x

-- the same where the position's event is one of this node
abbrev pub value_in_event : List Node → (List ℕ → Option ℤ) → Option ℕ → Expression → Option ℤ
value_in_event nodes variables event x = value_at (setting_in_event nodes variables event) None x
