-- Threads as their owner sees them: how they begin, what they answer, and what is above them.
use Rattle.std.specs.Prelude.{◌≡◌, ℕ, ◌≤◌, Bool, false, List, [], ◌∷◌, ◌++◌, Option, Some, None, length, slice_get}
use Rattle.wasm_types.specs.declared.code.Value.{Value}
use Rattle.wasm_types.specs.declared.code.Value.TheVariants.{I32, I64}
use Rattle.wasm_types.specs.declared.code.ValType.{ValType}
use Rattle.wasm_types.specs.declared.code.ValType.TheVariants as types
use Rattle.wasm_types.specs.Locals.{zeros}
use Rattle.wasm_types.specs.Modules.{Module, Func, FuncType}
use Rattle.guest_module.specs.Start.{entry_from}
use Rattle.wasm_types.specs.Functions.{own_func, type_of, imported_type}
use Rattle.wasm_stack.specs.Control.{with_result}
use Rattle.wasm_stack.specs.Thread.{Thread, Frame, function_at_start, waiting_frame, fits_limits}

-- a thread with its module, and the function of the library at whose call it is, if it is at one
pub record Strand : Type 0 where
  pub «module» : Module
  pub thread : Thread
  pub call : Option ℕ

-- the module itself defines the function, with one parameter of 32 bits and no result
pub record IsHandler (m : Module) (f : ℕ) : Type 0 where
  pub own : length m.imports ≤ f
  pub type : type_of m f ≡ Some (record { params = types.I32 ∷ []; results = [] })

-- a function without a result at its start, above these frames
abbrev pub started_above : Option Func → List Frame → ℕ → List Value → Option Thread
started_above None callers f args = None
started_above (Some func) callers f args = Some (function_at_start callers f func.body (args ++ zeros func.locals) None)

-- a thread of the module that is at the start of this function, which has one argument
abbrev pub new_thread : Module → ℕ → ℕ → Option Thread
new_thread m f arg = started_above (own_func m f) [] f (I32 arg ∷ [])

-- a thread with the frame of a handler of a signal on top
abbrev pub thread_in_handler : Module → Thread → ℕ → ℕ → Option Thread
thread_in_handler m t f signal = started_above (own_func m f) (waiting_frame t ∷ t.callers) f (I32 signal ∷ [])

abbrev pub is_in : Option Thread → Bool
is_in None = false
is_in (Some t) = fits_limits t

-- a value of this type, or none where there is no type
abbrev pub IsResult : Option ValType → Option Value → Type 0
IsResult None None = Unit {0}
IsResult (Some types.I32) (Some (I32 x)) = Unit {0}
IsResult (Some types.I64) (Some (I64 x)) = Unit {0}
IsResult _ _ = ⊥

abbrev pub first_result : Option FuncType → Option ValType
first_result None = None
first_result (Some type) = slice_get type.results 0

-- the type of what a function of the library gives
abbrev pub library_result : Module → ℕ → Option ValType
library_result m f = first_result (imported_type m (slice_get m.imports f))

-- the value is one that the call at which the strand stands can give
pub record IsAnswer (s : Strand) (value : Option Value) : Type 0 where
  pub func : ℕ
  pub stands : s.call ≡ Some func
  pub typed : IsResult (library_result s.«module» func) value

-- the strand after its call
abbrev pub answered_strand : Strand → Option Value → Strand
answered_strand s value = record s { thread = with_result value s.thread; call = None }

-- ---- the thread that runs first

-- the frame of the function that the start section names is above
abbrev pub with_start : Module → Option ℕ → Option Thread → Option Thread
with_start m start None = None
with_start m None (Some t) = Some t
with_start m (Some s) (Some t) = started_above (own_func m s) (waiting_frame t ∷ t.callers) s []

abbrev pub entry_thread : Module → Option ℕ → Option Thread
entry_thread m None = None
entry_thread m (Some f) = started_above (own_func m f) [] f []

-- the thread that runs first: at its start, with the start section's function above it
abbrev pub first_thread : Module → Option Thread
first_thread m = with_start m m.start (entry_thread m (entry_from m m.exports))
