-- The thread that the stacks of a strand stand for, and the levels that an instruction opens and an end closes.
use Rattle.std.specs.Prelude.{ℕ, zero, suc, true, false, Option, Some, None, is_some}
use Rattle.wasm_types.specs.declared.code.ValType.{ValType}
use Rattle.wasm_types.specs.Code.{Tree, Block, Loop, If, Trees}
use Rattle.wasm_stack.specs.After.{AfterStep, Goes, with_top}
use Rattle.wasm_stack.specs.Control.{on_test}
use Rattle.wasm_stack.specs.Thread.{OpenedLevel, Thread, closed_level, opened_level}

-- what the level leaves that an instruction opens
abbrev pub given_by : Tree → Option ValType
given_by (Block gives body) = gives
given_by (Loop gives body) = gives
given_by (If gives on_true on_false) = gives
given_by _ = None

-- the body of a loop
abbrev pub repeated_by : Tree → Option Trees
repeated_by (Loop gives body) = Some body
repeated_by _ = None

abbrev pub opened_as : Option Trees → Option ValType → Trees → OpenedLevel
opened_as None gives rest = record { gives = gives; target = rest; carries = is_some gives; loops = false }
opened_as (Some body) gives rest = record { gives = gives; target = body; carries = false; loops = true }

-- the level that this instruction opens, in front of these
abbrev pub opened_by : Tree → Trees → OpenedLevel
opened_by i rest = opened_as (repeated_by i) (given_by i) rest

-- the level that the instruction opens, with this body, in front of what is left
abbrev pub entered_by : Tree → Trees → Thread → Thread
entered_by i body t = let o = opened_by i t.todo in opened_level t o.gives body o.target o.carries o.loops

-- a choice that this instruction opens, and which enters one of these bodies
abbrev pub chosen_body_entered : Tree → Trees → Trees → Thread → AfterStep
chosen_body_entered i on_true on_false t =
    with_top t (λ v t'. on_test v (Goes (entered_by i on_false t')) (Goes (entered_by i on_true t')))

abbrev pub and_close : Option Thread → Option Thread
and_close None = None
and_close (Some t) = closed_level t

-- the level n levels around the innermost, with the operands of all
abbrev pub closed_by : ℕ → Thread → Option Thread
closed_by zero t = Some t
closed_by (suc n) t = and_close (closed_by n t)
