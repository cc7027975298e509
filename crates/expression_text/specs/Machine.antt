-- Reading an expression token by token.
use Rattle.std.specs.Prelude.{ℕ, List, [], ◌∷◌, Option, Some, None, Bool, true, false, nat_le, ◌==◌, ◌&&◌, if◌then◌else◌, codes, bytes_eq}
use Rattle.expression_text.specs.declared.expr.Unary.{Unary}
use Rattle.expression_text.specs.declared.expr.Binary.{Binary}
use Rattle.expression_text.specs.declared.expr.Agg.{Agg}
use Rattle.expression_text.specs.declared.expr.NodeName.{NodeName}
use Rattle.expression_text.specs.declared.word.PlaceWord.{PlaceWord}
use Rattle.expression_text.specs.declared.word.PlaceWord.TheVariants as place
use Rattle.expression_text.specs.declared.stack.Half.{Half}
use Rattle.expression_text.specs.declared.stack.Half.TheVariants as half
use Rattle.expression_text.specs.declared.stack.Opening.{Opening}
use Rattle.expression_text.specs.declared.stack.Opening.TheVariants as opening
use Rattle.expression_text.specs.Expression.{Expression, Number, Var, One, Two, Over, Load, Global, Clock, Events, Size, LastThread, HasEnded}
use Rattle.expression_text.specs.Spelling.{is_word, number_of, node_spelled, binary_of, unary_of, agg_of, place_of}
use Rattle.expression_text.specs.Grammar.{operator_level, left_level}

-- what waits for an operand
pub data PendingOperator : Type 0 where
  Left : (op : Binary) → (x : Expression) → PendingOperator
  Front : (op : Unary) → PendingOperator
  Inside : (o : Opening) → PendingOperator

-- what may come next: an operand, the rest of one, or what follows one
pub data MachineState : Type 0 where
  Want : (s : List PendingOperator) → MachineState
  Have : (s : List PendingOperator) → (x : Expression) → MachineState
  Part : (s : List PendingOperator) → (h : Half) → MachineState

-- the operators of this level and higher take their operands
abbrev pub settle_operators : ℕ → List PendingOperator → Expression → List PendingOperator × Expression
settle_operators k [] x = ([], x)
settle_operators k (Left op y ∷ s) x = if nat_le k (operator_level op) then settle_operators k s (Two op y x) else (Left op y ∷ s, x)
settle_operators k (Front op ∷ s) x = settle_operators k s (One op x)
settle_operators k (Inside o ∷ s) x = (Inside o ∷ s, x)

-- a comparison is to the left
abbrev pub compares_left : List PendingOperator → Bool
compares_left (Left op y ∷ s) = operator_level op == 2
compares_left _ = false

abbrev pub after_operator : Binary → List PendingOperator × Expression → Option MachineState
after_operator op p = if operator_level op == 2 && compares_left p.0 then None else Some (Want (Left op p.1 ∷ p.0))

-- the sign that closes what the opening begins
abbrev pub closing : Opening → List ℕ
closing opening.Bracket = codes ")"
closing (opening.Call agg) = codes ")"
closing (opening.Load node width) = codes "]"

abbrev pub is_closed_with : Opening → List ℕ → Bool
is_closed_with o t = bytes_eq t (closing o)

abbrev pub enclose_expression : Opening → Expression → Expression
enclose_expression opening.Bracket x = x
enclose_expression (opening.Call agg) x = Over agg x
enclose_expression (opening.Load node width) x = Load node width x

abbrev pub close : List ℕ → List PendingOperator × Expression → Option MachineState
close t p = elim p.0 [ Inside o ∷ s ↦ if is_closed_with o t then Some (Have s (enclose_expression o p.1)) else None | _ ↦ None ]

-- what a token gives where an operand has begun: more of it is to come, or it is whole, or what follows is enclosed
pub data TokenWent : Type 0 where
  More : (h : Half) → TokenWent
  Whole : (x : Expression) → TokenWent
  Opens : (o : Opening) → TokenWent

abbrev pub went_when : {A : Type 0} → Option A → (A → TokenWent) → Option TokenWent
went_when None f = None
went_when (Some x) f = Some (f x)

abbrev pub went_only_if : Bool → TokenWent → Option TokenWent
went_only_if true g = Some g
went_only_if false g = None

abbrev pub at_place : NodeName → PlaceWord → TokenWent
at_place node (place.Load width) = More (half.Sized node width)
at_place node place.Global = More (half.GlobalOf node)
at_place node place.Clock = Whole (Clock node)
at_place node place.Events = Whole (Events node)
at_place node place.Size = Whole (Size node)
at_place node place.Thread = Whole (LastThread node)
at_place node place.Ended = Whole (HasEnded node)

abbrev pub begin_as : Option Agg → List ℕ → Option TokenWent
begin_as (Some agg) t = Some (More (half.Named agg))
begin_as None t =
    if bytes_eq t (codes "(") then Some (Opens opening.Bracket) else
    (if bytes_eq t (codes "$") then Some (More half.Dollar) else went_only_if (bytes_eq t (codes "@")) (More half.At))

-- what a token begins that is no number and no sign in front
abbrev pub begun_by_token : List ℕ → Option TokenWent
begun_by_token t = begin_as (agg_of t) t

abbrev pub onward_token : List (List ℕ) → Half → List ℕ → Option TokenWent
onward_token names half.Dollar t = went_only_if (is_word t) (Whole (Var t))
onward_token names half.At t = went_when (node_spelled names t) (λ n. More (half.Node n))
onward_token names (half.Node n) t = went_only_if (bytes_eq t (codes ".")) (More (half.Dotted n))
onward_token names (half.Dotted n) t = went_when (place_of t) (at_place n)
onward_token names (half.Sized n width) t = went_only_if (bytes_eq t (codes "[")) (Opens (opening.Load n width))
onward_token names (half.GlobalOf n) t = went_only_if (bytes_eq t (codes "[")) (More (half.Indexing n))
onward_token names (half.Indexing n) t = went_when (number_of t) (λ k. More (half.Indexed n k))
onward_token names (half.Indexed n k) t = went_only_if (bytes_eq t (codes "]")) (Whole (Global n k))
onward_token names (half.Named agg) t = went_only_if (bytes_eq t (codes "(")) (Opens (opening.Call agg))

abbrev pub lead_token : List PendingOperator → Option TokenWent → Option MachineState
lead_token s None = None
lead_token s (Some (More h)) = Some (Part s h)
lead_token s (Some (Whole x)) = Some (Have s x)
lead_token s (Some (Opens o)) = Some (Want (Inside o ∷ s))

abbrev pub step_wanting_sign : Option Unary → List PendingOperator → List ℕ → Option MachineState
step_wanting_sign (Some op) s t = Some (Want (Front op ∷ s))
step_wanting_sign None s t = lead_token s (begun_by_token t)

abbrev pub step_wanting_number : Option ℕ → List PendingOperator → List ℕ → Option MachineState
step_wanting_number (Some n) s t = Some (Have s (Number n))
step_wanting_number None s t = step_wanting_sign (unary_of t) s t

abbrev pub have_as : Option Binary → List PendingOperator → Expression → List ℕ → Option MachineState
have_as (Some op) s x t = after_operator op (settle_operators (left_level op) s x)
have_as None s x t = close t (settle_operators 0 s x)

abbrev pub machine_step : List (List ℕ) → MachineState → List ℕ → Option MachineState
machine_step names (Want s) t = step_wanting_number (number_of t) s t
machine_step names (Have s x) t = have_as (binary_of t) s x t
machine_step names (Part s h) t = lead_token s (onward_token names h t)

abbrev pub machine_steps : List (List ℕ) → Option MachineState → List (List ℕ) → Option MachineState
machine_steps names None ts = None
machine_steps names (Some st) [] = Some st
machine_steps names (Some st) (t ∷ ts) = machine_steps names (machine_step names st t) ts

-- the tokens so far are a whole expression
abbrev pub whole_expression : List PendingOperator × Expression → Option Expression
whole_expression p = elim p.0 [ [] ↦ Some p.1 | _ ↦ None ]

abbrev pub whole : MachineState → Option Expression
whole (Have s x) = whole_expression (settle_operators 0 s x)
whole _ = None
