-- What a burst of a strand answers, as the definitions have it.
use Rattle.std.specs.Prelude.{◌≡◌, Some}
use Rattle.wasm_types.specs.Modules.{Module}
use Rattle.wasm_step.specs.declared.strand.Pause.{Pause}
use Rattle.wasm_step.specs.declared.strand.Pause.TheVariants.{AtCall, Ended, Trapped}
use Rattle.wasm_step.specs.Burst.{BurstResult}
use Rattle.wasm_stack.specs.After.{Halt, Calls, Ends, Traps}
use Rattle.wasm_store.specs.Store.{Store}

abbrev pub pause_halt : Pause → Halt
pause_halt (AtCall s site) = Calls s.thread site
pause_halt Ended = Ends
pause_halt (Trapped trap functions) = Traps trap functions.items

abbrev pub pause_result : Pause → Store → BurstResult
pause_result p g = record { stop = pause_halt p; store = g }

-- a strand that is answered is one of this module, and is at the call that is answered
abbrev pub StandsAt : Module → Pause → Type 0
StandsAt m (AtCall s site) = (s.«module» ≡ m) × (s.call ≡ Some site.func)
StandsAt m Ended = Unit {0}
StandsAt m (Trapped trap functions) = Unit {0}
