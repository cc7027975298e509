-- What a burst answers, as the definitions have it.
use Rattle.wasm_step.specs.declared.run.Stopped.{Stopped}
use Rattle.wasm_step.specs.declared.run.Stopped.TheVariants as stopped
use Rattle.wasm_step.specs.Burst.{SettledThread, Done, BurstResult, at_next_instruction}
use Rattle.wasm_stack.specs.After.{AfterStep, Halt, Calls, Ends, Traps, Goes, Stops, Sticks}
use Rattle.wasm_store.specs.Store.{Store}
use Rattle.wasm_stack.specs.Thread.{Thread, functions_of}

-- a thread that goes on is at its next instruction
abbrev pub settled_of : AfterStep → SettledThread
settled_of (Goes t) = at_next_instruction t.todo t (Done Sticks)
settled_of (Stops s) = Done s

-- how a thread stops that does not go on
abbrev pub halt_of : AfterStep → Halt
halt_of (Goes t) = Sticks
halt_of (Stops s) = s

abbrev pub stopped_of : Stopped → Thread → Halt
stopped_of (stopped.Calling site) t = Calls t site
stopped_of stopped.Ended t = Ends
stopped_of (stopped.Trapped trap) t = Traps trap (functions_of t)
stopped_of stopped.Stuck t = Sticks

abbrev pub stopped_result : Stopped → Thread → Store → BurstResult
stopped_result s t g = record { stop = stopped_of s t; store = g }
