use Rattle.std.proofs.Common.{◌≡◌, ◌≤◌, ◌++◌, length, map, take}
use Rattle.std.specs.Prelude.{reverse}
use Rattle.wasm_stack.specs.declared.stack.StackFrame.{StackFrame}
use Rattle.wasm_stack.proofs.stack.push_functions.Given as goal

-- the functions so far, with those of the frames that are left, are all
abbrev pub invariant-frames : goal.invariant-frames
invariant-frames l = record {
  within : l.left ≤ length l.frames;
  whole : l.functions.items ++ map (λ (f : StackFrame). f.func) (reverse (take l.left l.frames)) ≡ l.initial.functions.items ++ map (λ (f : StackFrame). f.func) (reverse l.frames);
}

abbrev pub decreases-frames : goal.decreases-frames
decreases-frames l = l.left
