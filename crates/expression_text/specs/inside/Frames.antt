-- What the parser holds: the machine's state that its stack and mode stand for, and what its functions answer.
use Rattle.std.specs.Prelude.{◌≡◌, ℕ, List, [], ◌∷◌, Option, Some, None, true, false, Result, Ok, Err}
use Rattle.expression_text.specs.declared.error.ExprError.{ExprError}
use Rattle.expression_text.specs.declared.error.ExprError.TheVariants.{Syntax, NoNode, TooDeep, Nested, NoMemory}
use Rattle.expression_text.specs.declared.expr.Expr.{Expr}
use Rattle.expression_text.specs.declared.stack.Went.{Went as RustWent}
use Rattle.expression_text.specs.declared.stack.Went.TheVariants as went
use Rattle.expression_text.specs.declared.stack.Opening.{Opening}
use Rattle.expression_text.specs.declared.stack.Frame.{Frame}
use Rattle.expression_text.specs.declared.stack.Frame.TheVariants as frame
use Rattle.expression_text.specs.declared.stack.Mode.{Mode}
use Rattle.expression_text.specs.declared.stack.Mode.TheVariants as mode
use Rattle.expression_text.specs.declared.stack.Step.{Step}
use Rattle.expression_text.specs.declared.stack.Step.TheVariants as stepped
use Rattle.expression_text.specs.Expression.{Expression, expression_of}
use Rattle.expression_text.specs.Lexing.{LexedLine, column_of_token}
use Rattle.expression_text.specs.Machine.{PendingOperator, Left, Front, Inside, MachineState, Want, Have, Part, TokenWent, More, Whole, Opens, machine_step, whole, is_closed_with, enclose_expression, settle_operators}

abbrev pub pending_of_frame : Frame → PendingOperator
pending_of_frame (frame.Left op x) = Left op (expression_of x)
pending_of_frame (frame.Front op) = Front op
pending_of_frame (frame.Inside o) = Inside o

abbrev pub went_of : RustWent → TokenWent
went_of (went.More h) = More h
went_of (went.Whole x) = Whole (expression_of x)
went_of (went.Opens o) = Opens o

abbrev pub went_if : Option RustWent → Option TokenWent
went_if None = None
went_if (Some w) = Some (went_of w)

-- the last frame comes first
abbrev pub pile_operators : List PendingOperator → List Frame → List PendingOperator
pile_operators under [] = under
pile_operators under (f ∷ fs) = pile_operators (pending_of_frame f ∷ under) fs

abbrev pub machine_state : List Frame → Mode → MachineState
machine_state frames mode.Want = Want (pile_operators [] frames)
machine_state frames (mode.Have x) = Have (pile_operators [] frames) (expression_of x)
machine_state frames (mode.Part h) = Part (pile_operators [] frames) h

-- the operators on the frames, settled over an operand as far as one of this level takes them
abbrev pub settled_frames : ℕ → List Frame → Expr → List PendingOperator × Expression
settled_frames level frames x = settle_operators level (pile_operators [] frames) (expression_of x)

-- the token is taken, or refused in a state that is as whole as it was
abbrev pub GivesStep : Option MachineState → MachineState → List Frame → Step → Type 0
GivesStep next old frames (stepped.Next m) = next ≡ Some (machine_state frames m)
GivesStep next old frames (stepped.Refused m) = (next ≡ None) × (whole (machine_state frames m) ≡ whole old)

abbrev pub TakesToken : List (List ℕ) → MachineState → List ℕ → List Frame → Step → Type 0
TakesToken names old t frames s = GivesStep (machine_step names old t) old frames s

-- what is answered where all tokens below this one led to the state
abbrev pub FinishesReading : LexedLine → MachineState → ℕ → Result (Expr × ℕ) ExprError → Type 0
FinishesReading line st at (Ok r) = (whole st ≡ Some (expression_of r.0)) × (r.1 ≡ at)
FinishesReading line st at (Err (Syntax column)) = (whole st ≡ None) × (column ≡ column_of_token line at)
FinishesReading line st at (Err NoNode) = ⊥
FinishesReading line st at (Err TooDeep) = ⊥
FinishesReading line st at (Err Nested) = ⊥
FinishesReading line st at (Err NoMemory) = Unit {0}

-- the same for what the token gives
abbrev pub LedByToken : Option MachineState → MachineState → List Frame → Step → Type 0
LedByToken next old frames (stepped.Next m) = next ≡ Some (machine_state frames m)
LedByToken next old frames (stepped.Refused m) = (next ≡ None) × (machine_state frames m ≡ old)

-- an opening with the whole expression that stands in it, and what waits below
pub record Enclosure : Type 0 where
  pub opening : Opening
  pub inner : Expression
  pub below : List PendingOperator

-- what was opened is closed by the token, or stays
abbrev pub ClosesOpening : Enclosure → List ℕ → List Frame → Step → Type 0
ClosesOpening o t frames (stepped.Next m) = (is_closed_with o.opening t ≡ true) × (machine_state frames m ≡ Have o.below (enclose_expression o.opening o.inner))
ClosesOpening o t frames (stepped.Refused m) = (is_closed_with o.opening t ≡ false) × (machine_state frames m ≡ Have (Inside o.opening ∷ o.below) o.inner)
