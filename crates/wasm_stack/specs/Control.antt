-- What branches and choices, and the ends of levels and frames, do to a thread (WebAssembly 1.0, sections 4.4.5 to 4.4.7).
use Rattle.std.specs.Prelude.{ℕ, zero, suc, Bool, true, false, List, [], ◌∷◌, Option, Some, None, is_some, slice_get}
use Rattle.wasm_types.specs.declared.code.Value.{Value}
use Rattle.wasm_types.specs.declared.code.Value.TheVariants.{I32, I64}
use Rattle.wasm_types.specs.declared.code.ValType.{ValType}
use Rattle.wasm_types.specs.Code.{Trees}
use Rattle.wasm_stack.specs.After.{AfterStep, Goes, Stops, Ends, Sticks, on_i32, with_top}
use Rattle.wasm_stack.specs.Thread.{Thread, closed_level, left_frame, opened_level, with_operand}

-- what a branch or an end carries: the topmost operand where there is to be one
pub data CarriedOperand : Type 0 where
  Takes : Option Value → Thread → CarriedOperand
  Lacks : CarriedOperand

abbrev pub carry_top : List Value → Thread → CarriedOperand
carry_top [] t = Lacks
carry_top (v ∷ rest) t = Takes (Some v) (record t { stack = rest })

abbrev pub carried_operand : Bool → Thread → CarriedOperand
carried_operand false t = Takes None t
carried_operand true t = carry_top t.stack t

abbrev pub with_carried : CarriedOperand → (Option Value → Thread → AfterStep) → AfterStep
with_carried Lacks go = Stops Sticks
with_carried (Takes o t) go = go o t

abbrev pub with_result : Option Value → Thread → Thread
with_result None t = t
with_result (Some v) t = with_operand t v

-- the caller goes on with what the frame carries; the thread ends with its outermost frame
abbrev pub resumed_caller : Option Thread → Option Value → AfterStep
resumed_caller None o = Stops Ends
resumed_caller (Some t) o = Goes (with_result o t)

-- the end of the innermost frame, from any of its levels
abbrev pub leave_frame : Thread → AfterStep
leave_frame t = with_carried (carried_operand t.returns t) (λ o t'. resumed_caller (left_frame t') o)

-- the same with the topmost operand
abbrev pub leave_with_top : Thread → AfterStep
leave_with_top t = with_top t (λ v t'. resumed_caller (left_frame t') (Some v))

-- a branch out of the innermost level goes on in the level around it, and the frame's outermost level returns
abbrev pub landed_branch : Option Thread → Thread → Trees → Option Value → AfterStep
landed_branch None t target o = resumed_caller (left_frame t) o
landed_branch (Some t') t target o = Goes (with_result o (record t' { todo = target }))

abbrev pub jump_out : Thread → AfterStep
jump_out t =
    with_carried (carried_operand t.carries t) (λ o t'. landed_branch (closed_level (record t' { stack = [] })) (record t' { stack = [] }) t.target o)

-- a loop begins again; that is not a further instruction
abbrev pub jump_by : Bool → Thread → AfterStep
jump_by true t = Goes (record t { todo = t.target; stack = [] })
jump_by false t = jump_out t

-- a branch to the innermost level
abbrev pub jump : Thread → AfterStep
jump t = jump_by t.loops t

-- a branch past n levels, whose operands the branch's own level takes over
abbrev pub past : Option Thread → (Thread → AfterStep) → AfterStep
past None go = Stops Sticks
past (Some t) go = go t

abbrev pub branch : ℕ → Thread → AfterStep
branch zero t = jump t
branch (suc n) t = past (closed_level t) (branch n)

-- the first at 0, and else the second
abbrev pub on_test : Value → AfterStep → AfterStep → AfterStep
on_test (I64 x) a b = Stops Sticks
on_test (I32 zero) a b = a
on_test (I32 (suc x)) a b = b

abbrev pub branch_if : ℕ → Thread → AfterStep
branch_if n t = with_top t (λ v t'. on_test v (Goes t') (branch n t'))

-- the label at an index, and past the labels the default
abbrev pub label_at : Option ℕ → ℕ → ℕ
label_at None default = default
label_at (Some label) default = label

abbrev pub branch_table : List ℕ → ℕ → Thread → AfterStep
branch_table labels default t = with_top t (λ v t'. on_i32 v (λ i. branch (label_at (slice_get labels i) default) t'))

abbrev pub choose : Option ValType → Trees → Trees → Thread → AfterStep
choose gives on_true on_false t =
    with_top t (λ v t'. on_test v
    (Goes (opened_level t' gives on_false t'.todo (is_some gives) false))
    (Goes (opened_level t' gives on_true t'.todo (is_some gives) false)))

-- the end of a level, or of a frame with its outermost level
abbrev pub at_end_of_level : Option Thread → Thread → AfterStep
at_end_of_level None t = leave_frame t
at_end_of_level (Some t') t = Goes t'

abbrev pub ended_level : Thread → AfterStep
ended_level t = at_end_of_level (closed_level t) t
