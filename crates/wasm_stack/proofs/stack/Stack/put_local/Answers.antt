use Rattle.std.proofs.Common.{◌+◌, ap, ◌∙◌, refl}
use Rattle.std.proofs.Math.ListN.{set}
use Rattle.std.specs.Vec.{with_item}
use Rattle.wasm_stack.specs.Thread.{Thread}
use Rattle.wasm_stack.proofs.StackViews.{set_view}
use Rattle.wasm_stack.proofs.stack.Stack.put_local.Goals as goal

pub returns : goal.returns
returns c =
    set_view c.self.inside (with_item c.self.inside.locals (c.self.inside.here.locals_from + c.args.x) c.args.v) c.args.x c.args.v refl
    ∙ ap (λ (t : Thread). record t { locals = set t.locals c.args.x c.args.v }) c.self.view_is
