-- Threads and stores that fit a module: what is typed is left to do, from operands of its types.
use Rattle.std.specs.Prelude.{◌≡◌, ℕ, Bool, true, false, List, [], ◌∷◌, ◌++◌, Option, Some, None, map, is_some, slice_get, IsSome}
use Rattle.wasm_types.specs.declared.code.Value.{Value}
use Rattle.wasm_types.specs.declared.code.ValType.{ValType}
use Rattle.wasm_types.specs.Calls.{result_of}
use Rattle.wasm_types.specs.Code.{Trees}
use Rattle.wasm_types.specs.Context.{Context, context_of, expand_locals}
use Rattle.wasm_types.specs.Floats.{have_float}
use Rattle.wasm_types.specs.Functions.{imported_type, own_func}
use Rattle.wasm_types.specs.Labels.{Labels}
use Rattle.wasm_types.specs.Maybe.{◌>>=◌}
use Rattle.wasm_types.specs.Modules.{Module, Func, FuncType}
use Rattle.wasm_types.specs.Stack.{BlockStack, is_exactly}
use Rattle.wasm_types.specs.Typing.{typed_instrs}
use Rattle.wasm_store.specs.Suits.{SuitsModule}
use Rattle.wasm_values.specs.Values.{types_of_values}
use Rattle.wasm_step.specs.Burst.{BurstResult}
use Rattle.wasm_stack.specs.After.{Halt, Calls, Ends, Traps, Sticks}
use Rattle.wasm_stack.specs.Control.{with_result}
use Rattle.wasm_step.specs.Strand.{IsResult, library_result}
use Rattle.wasm_stack.specs.Thread.{Level, OpenedLevel, as_opened, Frame, Thread, innermost_level_of}

-- operands of these types and no others, in code that is reached
abbrev pub known_operands : List ValType → BlockStack
known_operands ks = record { types = map Some ks; after_jump = false }

-- the type before the others, if there is one
abbrev pub put_type : Option ValType → List ValType → List ValType
put_type None ks = ks
put_type (Some k) ks = k ∷ ks

-- what a branch to a level carries: an operand of the type of what the level leaves, or none
abbrev pub label_of_level : Option ValType → Bool → Option ValType
label_of_level gives false = None
label_of_level gives true = gives

abbrev pub labels_of : List Level → Labels
labels_of [] = []
labels_of (l ∷ ls) = label_of_level l.gives l.carries ∷ labels_of ls

-- the code, from operands of these types, is typed to exactly this result, and has no floats
pub record IsTypedRemainder (c : Context) (labels : Labels) (gives : Option ValType) (code : Trees) (ks : List ValType) : Type 0 where
  pub typed : IsSome (typed_instrs c code labels (known_operands ks) >>= is_exactly gives)
  pub no_float : have_float code ≡ false

-- Where a branch to a level goes on, in the level around it or at the level's own start, is typed from what
-- the branch carries.
abbrev pub TargetFits : Bool → Context → OpenedLevel → Level → List Level → Type 0
TargetFits false c o l ls = IsTypedRemainder c (labels_of (l ∷ ls)) l.gives o.target (put_type (label_of_level o.gives o.carries) (types_of_values l.stack))
TargetFits true c o l ls = IsTypedRemainder c (label_of_level o.gives o.carries ∷ labels_of (l ∷ ls)) o.gives o.target []

-- The levels around one that was opened so: what is left in each is typed from its operands, after the end
-- of the level in it and after a branch to that. The outermost leaves the function's result.
abbrev pub LevelsFit : Context → OpenedLevel → List Level → Type 0
LevelsFit c o [] = (o.gives ≡ c.gives) × (o.carries ≡ is_some c.gives) × (o.loops ≡ false)
LevelsFit c o (l ∷ ls) =
    (o.carries ≡ is_some (label_of_level o.gives o.carries))
    × TargetFits o.loops c o l ls
    × IsTypedRemainder c (labels_of (l ∷ ls)) l.gives l.todo (put_type o.gives (types_of_values l.stack))
    × LevelsFit c (as_opened l) ls

-- the code of the module's own function f may name this
pub record IsContext (m : Module) (f : ℕ) (c : Context) : Type 0 where
  pub func : Func
  pub type : FuncType
  pub is_own : own_func m f ≡ Some func
  pub has_type : slice_get m.types func.type_index ≡ Some type
  pub same : c ≡ context_of m (type.params ++ expand_locals func.locals) (result_of type)

-- a frame with what it waits for
pub record FrameFits (m : Module) (waits : Option ValType) (f : Frame) : Type 0 where
  pub context : Context
  pub function : IsContext m f.func context
  pub locals : types_of_values f.locals ≡ context.locals
  pub returns : f.returns ≡ is_some context.gives
  pub around : LevelsFit context (as_opened f.here) f.outer
  pub todo : IsTypedRemainder context (labels_of (f.here ∷ f.outer)) f.here.gives f.here.todo (put_type waits (types_of_values f.here.stack))

abbrev pub FramesFit : Module → Option ValType → List Frame → Type 0
FramesFit m waits [] = Unit {0}
FramesFit m waits (f ∷ fs) = (h : FrameFits m waits f) × FramesFit m h.context.gives fs

abbrev pub frame_of : Thread → Frame
frame_of t = record { here = innermost_level_of t; outer = t.outer; func = t.func; locals = t.locals; returns = t.returns }

-- a thread whose frames fit
abbrev pub ThreadFits : Module → Thread → Type 0
ThreadFits m t = FramesFit m None (frame_of t ∷ t.callers)

-- a call that fits with each value that it may give
abbrev pub CallFits : Module → Thread → ℕ → Type 0
CallFits m t f = (o : Option Value) → IsResult (library_result m f) o → ThreadFits m (with_result o t)

-- a stop of a thread that fits: it does not stick, and what it calls is an imported function
abbrev pub HaltFits : Module → Halt → Type 0
HaltFits m (Calls t site) = IsSome (imported_type m (slice_get m.imports site.func)) × CallFits m t site.func
HaltFits m Ends = Unit {0}
HaltFits m (Traps trap functions) = Unit {0}
HaltFits m Sticks = ⊥

-- a burst stops well, and the store still suits
abbrev pub BurstFits : Module → BurstResult → Type 0
BurstFits m r = HaltFits m r.stop × SuitsModule r.store
