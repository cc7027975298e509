-- The stacks that the code keeps, and the thread that they stand for.
use Rattle.std.specs.Prelude.{false, List, [], ◌∷◌, Option, is_some, ℕ, reverse, drop, take, ◌≡◌, ◌<◌, ◌≤◌, length, ◌+◌, ◌-◌}
use Rattle.wasm_types.specs.declared.code.ValType.{ValType}
use Rattle.wasm_types.specs.Code.{End, tree, trees, Trees}
use Rattle.wasm_types.specs.Limits.{most_thread_size}
use Rattle.wasm_stack.specs.declared.stack.StackLevel.{StackLevel}
use Rattle.wasm_types.specs.declared.code.Value.{Value}
use Rattle.wasm_stack.specs.declared.stack.StackFrame.{StackFrame}
use Rattle.wasm_stack.specs.declared.stack.Stack.TheInside.{Inside}
use Rattle.wasm_stack.specs.Thread.{OpenedLevel, Level, Frame, Thread, most_frames}
use Rattle.wasm_stack.specs.View.{opened_by}

-- the innermost of a function's levels, with these around it: what the last of them opened, or the function's own
abbrev pub innermost_opened : Option ValType → List StackLevel → OpenedLevel
innermost_opened gives [] = record { gives = gives; target = End; carries = is_some gives; loops = false }
innermost_opened gives (l ∷ ls) = opened_by (tree l.opener.now) (trees l.todo.now)

-- a level whose operands are the last of these
abbrev pub level : OpenedLevel → Trees → ℕ → List Value → Level
level o todo floor ops =
    record { gives = o.gives; todo = todo; stack = reverse (drop floor ops); target = o.target; carries = o.carries; loops = o.loops }

-- the levels of these labels, the innermost first, over these operands
abbrev pub levels_of : Option ValType → List StackLevel → List Value → List Level
levels_of gives [] ops = []
levels_of gives (l ∷ ls) ops = level (innermost_opened gives ls) (trees l.todo.now) l.floor ops ∷ levels_of gives ls (take l.floor ops)

-- the labels of a frame, the innermost first
abbrev pub frame_labels : StackFrame → List StackLevel → List StackLevel
frame_labels f labels = reverse (drop f.labels_from labels)

-- the frames that wait, the innermost first
abbrev pub frames_of : List StackFrame → List StackLevel → List Value → List Value → List Frame
frames_of [] labels locals ops = []
frames_of (f ∷ fs) labels locals ops =
    record {
      here = level (innermost_opened f.gives (frame_labels f labels)) (trees f.todo.now) f.floor ops;
      outer = levels_of f.gives (frame_labels f labels) (take f.floor ops);
      func = f.func;
      locals = drop f.locals_from locals;
      returns = is_some f.gives;
    }
    ∷ frames_of fs (take f.labels_from labels) (take f.locals_from locals) (take f.bottom ops)

-- the thread whose innermost frame is this
abbrev pub thread_in : StackFrame → List StackLevel → List Value → List Value → List StackFrame → Thread
thread_in f labels locals ops callers =
    let o = innermost_opened f.gives (frame_labels f labels) in record {
      gives = o.gives;
      todo = trees f.todo.now;
      stack = reverse (drop f.floor ops);
      target = o.target;
      carries = o.carries;
      loops = o.loops;
      outer = levels_of f.gives (frame_labels f labels) (take f.floor ops);
      func = f.func;
      locals = drop f.locals_from locals;
      returns = is_some f.gives;
      callers = frames_of (reverse callers) (take f.labels_from labels) (take f.locals_from locals) (take f.bottom ops);
    }

abbrev pub thread_of : Inside → Thread
thread_of s = thread_in s.here s.labels.items s.locals.items s.operands.items s.callers.items

-- each label's operands begin at or below those of the next, and at or above the frame's
abbrev pub FloorsAscend : ℕ → List StackLevel → ℕ → Type 0
FloorsAscend bottom [] top = bottom ≡ top
FloorsAscend bottom (l ∷ ls) top = (l.floor ≤ top) × FloorsAscend bottom ls l.floor

-- each frame has its part of the labels, the locals and the operands
pub record IsFramePart (f : StackFrame) (labels : List StackLevel) (locals ops : List Value) : Type 0 where
  pub top : f.floor ≤ length ops
  pub cut : FloorsAscend f.bottom (reverse (drop f.labels_from labels)) f.floor
  pub labels_in : f.labels_from ≤ length labels
  pub locals_in : f.locals_from ≤ length locals

abbrev pub AreFrameParts : List StackFrame → List StackLevel → List Value → List Value → Type 0
AreFrameParts [] labels locals ops = (labels ≡ []) × (locals ≡ []) × (ops ≡ [])
AreFrameParts (f ∷ fs) labels locals ops =
    IsFramePart f labels locals ops
    × AreFrameParts fs (take f.labels_from labels) (take f.locals_from locals) (take f.bottom ops)

-- with fewer operands than the room, one more has its place and keeps to the limit; so it is with the frames that wait
pub record HasRoom (s : Inside) : Type 0 where
  pub place : s.room ≤ s.operands.cap
  pub limit : s.room ≤ most_thread_size - (length s.labels.items + length s.locals.items)
  pub frames_place : s.frames ≤ s.callers.cap
  pub frames_limit : s.frames < most_frames

pub record IsStack (s : Inside) : Type 0 where
  pub part : IsFramePart s.here s.labels.items s.locals.items s.operands.items
  pub below :
      AreFrameParts (reverse s.callers.items) (take s.here.labels_from s.labels.items) (take s.here.locals_from s.locals.items)
      (take s.here.bottom s.operands.items)
  pub room : HasRoom s
