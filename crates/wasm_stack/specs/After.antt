-- What comes after an instruction of a thread, and how a thread stops (WebAssembly 1.0, section 4.4).
use Rattle.std.specs.Prelude.{ℕ, List, [], ◌∷◌, Option, Some, None, if◌then◌else◌}
use Rattle.wasm_types.specs.declared.code.Value.{Value}
use Rattle.wasm_types.specs.declared.code.Value.TheVariants.{I32, I64}
use Rattle.wasm_types.specs.declared.traps.Trap.{Trap}
use Rattle.wasm_types.specs.declared.traps.Trap.TheVariants.{Exhausted}
use Rattle.wasm_stack.specs.declared.call.CallSite.{CallSite}
use Rattle.wasm_stack.specs.Thread.{Thread, fits_limits, functions_of}

-- How a thread stops: at a call of the library, at its end, by a trap, or where no row is for it. A trap tells the functions of
-- the thread's frames as they were before the instruction that trapped, the innermost first.
pub data Halt : Type 0 where
  Calls : Thread → CallSite → Halt
  Ends : Halt
  Traps : Trap → List ℕ → Halt
  Sticks : Halt

-- what comes after a step
pub data AfterStep : Type 0 where
  Goes : Thread → AfterStep
  Stops : Halt → AfterStep

abbrev pub at_trap : Thread → Trap → AfterStep
at_trap t trap = Stops (Traps trap (functions_of t))

-- a frame above those of the thread, which stays as it was where there is no room for that
abbrev pub frame_goes_on : Thread → Option Thread → AfterStep
frame_goes_on t None = Stops Sticks
frame_goes_on t (Some above) = if fits_limits above then Goes above else at_trap t Exhausted

-- the topmost operand
abbrev pub on_top : List Value → Thread → (Value → Thread → AfterStep) → AfterStep
on_top [] t go = Stops Sticks
on_top (v ∷ rest) t go = go v (record t { stack = rest })

abbrev pub with_top : Thread → (Value → Thread → AfterStep) → AfterStep
with_top t go = on_top t.stack t go

-- the number of an operand of 32 bits
abbrev pub on_i32 : Value → (ℕ → AfterStep) → AfterStep
on_i32 (I32 x) go = go x
on_i32 (I64 x) go = Stops Sticks

-- a thread past its limits traps
abbrev pub limited_thread : AfterStep → AfterStep
limited_thread (Stops s) = Stops s
limited_thread (Goes t) = if fits_limits t then Goes t else at_trap t Exhausted
