use Rattle.std.proofs.Common.{◌≡◌, ℕ, List, [], ◌∷◌, ◌++◌, map, take, sym, ap, ◌∙◌}
use Rattle.std.specs.Prelude.{reverse}
use Rattle.wasm_stack.specs.declared.stack.StackFrame.{StackFrame}
use Rattle.wasm_stack.specs.Thread.{functions_of}
use Rattle.wasm_stack.proofs.FrameFunctions.{same_functions}
use Rattle.wasm_stack.proofs.stack.Stack.functions.Goals as goal

pub returns : goal.returns
returns c =
    let s = c.self.inside in
    let innermost : c.push.new.self.items ≡ s.here.func ∷ [] = c.in_ok-push.ensures.items ∙ ap (λ (ns : List ℕ). ns ++ s.here.func ∷ []) c.new-functions.ensures.items in
    c.in_ok-push_functions.ensures
    ∙ ap (λ (ns : List ℕ). ns ++ map (λ (f : StackFrame). f.func) (reverse c.deref.result.now)) innermost
    ∙ ap (λ (fs : List StackFrame). s.here.func ∷ map (λ (f : StackFrame). f.func) (reverse fs)) c.deref.ensures.value
    ∙ ap (λ (ns : List ℕ). s.here.func ∷ ns) (sym (same_functions (reverse s.callers.items) (take s.here.labels_from s.labels.items) (take s.here.locals_from s.locals.items) (take s.here.bottom s.operands.items)))
    ∙ ap functions_of c.self.view_is
