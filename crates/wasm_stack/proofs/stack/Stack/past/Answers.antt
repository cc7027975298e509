use Rattle.std.proofs.Common.{ap, sym, ◌∙◌, arith}
use Rattle.wasm_stack.specs.View.{closed_by}
use Rattle.wasm_stack.proofs.StackViews.{past_none, past_some}
use Rattle.wasm_stack.proofs.stack.Stack.past.Goals as goal

pub returns-then-len-self : goal.returns-then-len-self
returns-then-len-self c =
    let s = c.self.inside in
    ap (closed_by c.args.n) (sym c.self.view_is)
    ∙ past_none c.args.n s.here s.labels.items s.locals.items s.operands.items s.callers.items c.self.invariant.part (omega (arith, c.len.ensures, s.labels.ok.0))

pub past_known-requires : goal.past_known-requires
past_known-requires c =
    let s = c.self.inside in
    λ none. past_some c.args.n s.here s.labels.items s.locals.items s.operands.items s.callers.items c.self.invariant.part (omega (arith, c.len.ensures, s.labels.ok.0)) (ap (closed_by c.args.n) c.self.view_is ∙ none)
