-- A thread: the innermost level of its innermost frame, the levels around it, and the frames that wait
-- for that frame to return (WebAssembly 1.0, section 4.2.12).
use Rattle.std.specs.Prelude.{◌≡◌, ℕ, ◌+◌, Bool, true, false, nat_lt, nat_le, is_some, ◌&&◌, if◌then◌else◌, reverse, take, drop, List, [], ◌∷◌, ◌++◌, length, Option, Some, None, map}
use Rattle.wasm_types.specs.declared.code.Value.{Value}
use Rattle.wasm_types.specs.declared.code.Value.TheVariants.{I32}
use Rattle.wasm_types.specs.declared.code.ValType.{ValType}
use Rattle.wasm_types.specs.Calls.{result_of}
use Rattle.wasm_types.specs.Code.{Trees, End, Then}
use Rattle.wasm_types.specs.Limits.{most_thread_size}
use Rattle.wasm_types.specs.Modules.{Func, FuncType}
use Rattle.wasm_types.specs.Locals.{zeros}

-- a level: the type of what it leaves to the one around it, the instructions that are left, its operands
-- with the topmost first, the instructions at which a branch to it goes on, whether a branch carries an
-- operand, and whether a branch begins it again, as it does a loop, and does not leave it
pub record Level : Type 0 where
  pub gives : Option ValType
  pub todo : Trees
  pub stack : List Value
  pub target : Trees
  pub carries : Bool
  pub loops : Bool

-- what a level is by how it was opened: the type of what it leaves, where a branch to it goes on, whether that carries
-- an operand, and whether it begins the level again
pub record OpenedLevel : Type 0 where
  pub gives : Option ValType
  pub target : Trees
  pub carries : Bool
  pub loops : Bool

abbrev pub as_opened : Level → OpenedLevel
as_opened l = record { gives = l.gives; target = l.target; carries = l.carries; loops = l.loops }

-- a frame that waits for a call to return: its innermost level, the levels around that, its function, its
-- locals, and whether it gives its caller an operand
pub record Frame : Type 0 where
  pub here : Level
  pub outer : List Level
  pub func : ℕ
  pub locals : List Value
  pub returns : Bool

-- the innermost frame, and those that wait for it
pub record Thread : Type 0 where
  pub gives : Option ValType
  pub todo : Trees
  pub stack : List Value
  pub target : Trees
  pub carries : Bool
  pub loops : Bool
  pub outer : List Level
  pub func : ℕ
  pub locals : List Value
  pub returns : Bool
  pub callers : List Frame

-- the functions of a thread's frames, the innermost first
abbrev pub functions_of : Thread → List ℕ
functions_of t = t.func ∷ map (λ (f : Frame). f.func) t.callers

-- whether no instruction is left
abbrev pub is_end : Trees → Bool
is_end End = true
is_end (Then i is) = false

-- with these instructions left in its innermost level
abbrev pub with_todo : Thread → Trees → Thread
with_todo t todo = record t { todo = todo }

abbrev pub with_operand : Thread → Value → Thread
with_operand t v = record t { stack = v ∷ t.stack }

-- the topmost operand has 32 bits
abbrev pub HasI32 : Thread → Type 0
HasI32 t = (x : ℕ) × (t.stack ≡ I32 x ∷ drop 1 t.stack)

abbrev pub innermost_level_of : Thread → Level
innermost_level_of t = record { gives = t.gives; todo = t.todo; stack = t.stack; target = t.target; carries = t.carries; loops = t.loops }

-- a new innermost level
abbrev pub opened_level : Thread → Option ValType → Trees → Trees → Bool → Bool → Thread
opened_level t gives body target carries loops =
    record t { gives = gives; todo = body; stack = []; target = target; carries = carries; loops = loops; outer = innermost_level_of t ∷ t.outer }

-- the level around the innermost, with the operands of both
abbrev pub closed_to : List Level → Thread → Option Thread
closed_to [] t = None
closed_to (l ∷ ls) t =
    Some (record t { gives = l.gives; todo = l.todo; stack = t.stack ++ l.stack; target = l.target; carries = l.carries; loops = l.loops; outer = ls })

abbrev pub closed_level : Thread → Option Thread
closed_level t = closed_to t.outer t

-- the frame that waits for this one
abbrev pub left_to_caller : List Frame → Option Thread
left_to_caller [] = None
left_to_caller (f ∷ fs) =
    Some (record {
      gives = f.here.gives;
      todo = f.here.todo;
      stack = f.here.stack;
      target = f.here.target;
      carries = f.here.carries;
      loops = f.here.loops;
      outer = f.outer;
      func = f.func;
      locals = f.locals;
      returns = f.returns;
      callers = fs;
    })

abbrev pub left_frame : Thread → Option Thread
left_frame t = left_to_caller t.callers

-- a frame that waits
abbrev pub waiting_frame : Thread → Frame
waiting_frame t = record { here = innermost_level_of t; outer = t.outer; func = t.func; locals = t.locals; returns = t.returns }

-- a function at its start, above these frames
abbrev pub function_at_start : List Frame → ℕ → Trees → List Value → Option ValType → Thread
function_at_start callers f body locals gives = record {
  gives = gives;
  todo = body;
  stack = [];
  target = End;
  carries = is_some gives;
  loops = false;
  outer = [];
  func = f;
  locals = locals;
  returns = is_some gives;
  callers = callers;
}

-- a new innermost frame
abbrev pub entered_frame : Thread → ℕ → Trees → List Value → Option ValType → Thread
entered_frame t f body locals gives = function_at_start (waiting_frame t ∷ t.callers) f body locals gives

-- how many levels and frames are still to end
abbrev pub waiting_levels : List Frame → ℕ
waiting_levels [] = 0
waiting_levels (f ∷ fs) = 1 + length f.outer + waiting_levels fs

abbrev pub levels_left : Thread → ℕ
levels_left t = length t.outer + waiting_levels t.callers

-- the operands, the locals and the open labels, of all frames
abbrev pub size_of_levels : List Level → ℕ
size_of_levels [] = 0
size_of_levels (l ∷ ls) = 1 + length l.stack + size_of_levels ls

abbrev pub size_of_frames : List Frame → ℕ
size_of_frames [] = 0
size_of_frames (f ∷ fs) = length f.here.stack + size_of_levels f.outer + length f.locals + size_of_frames fs

abbrev pub size_of_thread : Thread → ℕ
size_of_thread t = length t.stack + size_of_levels t.outer + length t.locals + size_of_frames t.callers

-- how many frames a thread may have, all but one of which wait
abbrev pub most_frames : ℕ
most_frames = 512

-- at most so many frames, and with this many more it is no larger than a thread may be
abbrev pub has_room : ℕ → Thread → Bool
has_room more t = nat_lt (length t.callers) most_frames && nat_le (size_of_thread t + more) most_thread_size

abbrev pub fits_limits : Thread → Bool
fits_limits t = has_room 0 t

-- the same with one more frame
abbrev pub has_frame_room : ℕ → Thread → Bool
has_frame_room more t = nat_lt (length t.callers + 1) most_frames && nat_le (size_of_thread t + more) most_thread_size

-- without the n topmost operands
abbrev pub without_operands : ℕ → Thread → Thread
without_operands n t = record t { stack = drop n t.stack }

-- the n topmost operands, in the order that they were pushed, if there are as many
abbrev pub arguments : ℕ → Thread → Option (List Value)
arguments n t = if nat_lt (length t.stack) n then None else Some (reverse (take n t.stack))

-- a call of the function f, which takes the n topmost operands
abbrev pub called_with : Option (List Value) → ℕ → Thread → ℕ → Func → Option ValType → Option Thread
called_with None n t f func gives = None
called_with (Some args) n t f func gives = Some (entered_frame (without_operands n t) f func.body (args ++ zeros func.locals) gives)

-- a call of the function f of this type
abbrev pub called_function : Thread → ℕ → Func → FuncType → Option Thread
called_function t f func type = called_with (arguments (length type.params) t) (length type.params) t f func (result_of type)
