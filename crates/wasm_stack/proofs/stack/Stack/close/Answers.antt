use Rattle.std.proofs.Common.{sym, ap, ◌∙◌, arith}
use Rattle.wasm_stack.specs.Thread.{closed_level}
use Rattle.wasm_stack.proofs.StackViews.{closed_view}
use Rattle.wasm_stack.proofs.stack.Stack.close.Goals as goal

pub returns-clause-closed : goal.returns-clause-closed
returns-clause-closed c =
    ap closed_level (sym c.self.view_is)
    ∙ closed_view c.self.inside c.take_last-label.new.self c.take_last-label.result c.self.invariant (omega (arith, c.self.inside.labels.ok.0)) c.take_last-label.ensures.items
