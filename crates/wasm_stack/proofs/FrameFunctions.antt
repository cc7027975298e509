-- The functions of frames, in their order.
use Rattle.std.proofs.Common.{◌≡◌, ℕ, List, [], ◌∷◌, map, take, refl, ap}
use Rattle.wasm_types.specs.declared.code.Value.{Value}
use Rattle.wasm_stack.specs.declared.stack.StackFrame.{StackFrame}
use Rattle.wasm_stack.specs.declared.stack.StackLevel.{StackLevel}
use Rattle.wasm_stack.specs.Thread.{Frame}
use Rattle.wasm_stack.specs.inside.Stacks.{frames_of}

pub same_functions : (fs : List StackFrame) (labels : List StackLevel) (locals ops : List Value) → map (λ (f : Frame). f.func) (frames_of fs labels locals ops) ≡ map (λ (f : StackFrame). f.func) fs
same_functions [] labels locals ops = refl
same_functions (f ∷ fs) labels locals ops = ap (λ (ns : List ℕ). f.func ∷ ns) (same_functions fs (take f.labels_from labels) (take f.locals_from locals) (take f.bottom ops))
