-- What fits of a thread that stands at a call.
use Rattle.std.specs.Prelude.{ℕ, Option, Some, None}
use Rattle.wasm_types.specs.Modules.{Module}
use Rattle.wasm_stack.specs.After.{AfterStep, Goes, Stops}
use Rattle.wasm_stack.specs.Thread.{Thread}
use Rattle.wasm_step.specs.Fits.{HaltFits, ThreadFits, CallFits}

abbrev pub AfterFits : Module → AfterStep → Type 0
AfterFits m (Goes t) = ThreadFits m t
AfterFits m (Stops s) = HaltFits m s

-- a thread with the call at which it is, if it is at one
abbrev pub StandsFit : Module → Thread → Option ℕ → Type 0
StandsFit m t None = ThreadFits m t
StandsFit m t (Some f) = CallFits m t f
