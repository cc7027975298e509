-- What the program answers, as the definitions have it, with the thread as it then is.
use Rattle.std.specs.Prelude.{ℕ, List, Option, Some, None}
use Rattle.wasm_types.specs.declared.code.Value.{Value}
use Rattle.wasm_stack.specs.Call.{site_of}
use Rattle.wasm_stack.specs.declared.halt.Next.{Next}
use Rattle.wasm_stack.specs.declared.halt.Next.TheVariants.{Going, Calling, Ended, Trapped, Stuck}
use Rattle.wasm_stack.specs.declared.halt.Way.{Way}
use Rattle.wasm_stack.specs.declared.halt.Way.TheVariants as way
use Rattle.wasm_stack.specs.Thread.{Thread, arguments, without_operands}
use Rattle.wasm_stack.specs.After.{Halt, Calls, Ends, Sticks, AfterStep, Goes, Stops, at_trap}

-- a call of the library, whose n arguments are the topmost operands
abbrev pub calling_library : Option (List Value) → ℕ → ℕ → Thread → Halt
calling_library None f n t = Sticks
calling_library (Some args) f n t = Calls (without_operands n t) (site_of f args)

abbrev pub after_of : Next → Thread → AfterStep
after_of Going t = Goes t
after_of (Calling f n) t = Stops (calling_library (arguments n t) f n t)
after_of Ended t = Stops Ends
after_of (Trapped trap) t = at_trap t trap
after_of Stuck t = Stops Sticks

abbrev pub way_of : Way → Thread → AfterStep
way_of way.Goes t = Goes t
way_of way.Ends t = Stops Ends
way_of way.Sticks t = Stops Sticks
