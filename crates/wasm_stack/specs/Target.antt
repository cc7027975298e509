-- Where a branch to the innermost level goes on.
use Rattle.std.specs.Prelude.{◌≡◌, true, false}
use Rattle.wasm_types.specs.Code.{trees}
use Rattle.wasm_stack.specs.declared.stack.Target.{Target}
use Rattle.wasm_stack.specs.declared.stack.Target.TheVariants.{Again, Out}
use Rattle.wasm_stack.specs.Thread.{Thread}

-- at these instructions, which begin it again, or after the level
abbrev pub IsTarget : Target → Thread → Type 0
IsTarget (Again body) t = (t.loops ≡ true) × (t.target ≡ trees body.now)
IsTarget (Out carries) t = (t.loops ≡ false) × (t.carries ≡ carries)
