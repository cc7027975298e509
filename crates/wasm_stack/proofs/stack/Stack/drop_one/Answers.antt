use Rattle.std.proofs.Common.{◌∙◌, sym, ap, arith}
use Rattle.wasm_stack.specs.Thread.{without_operands}
use Rattle.wasm_stack.proofs.StackViews.{IsSound-operands, keeps_popped, popped_view, some_operand}
use Rattle.wasm_stack.proofs.stack.Stack.drop_one.Goals as goal

pub take_last-top-requires : goal.take_last-top-requires
take_last-top-requires c = omega (arith, some_operand c.self.inside c.args.self.now c.self.view_is c.requires, c.self.inside.operands.ok.0)

pub invariant_of-self : goal.invariant_of-self
invariant_of-self c =
    let s = c.self.inside in
    IsSound-operands s c.take_last-top.new.self c.self.invariant (omega (arith, c.take_last-top.ensures.capacity)) (keeps_popped s _ c.take_last-top.result (some_operand s c.args.self.now c.self.view_is c.requires) c.take_last-top.ensures.items)

pub returns : goal.returns
returns c =
    let s = c.self.inside in
    sym (ap (without_operands 1) (sym c.self.view_is ∙ popped_view s c.take_last-top.new.self c.take_last-top.result c.self.invariant (some_operand s c.args.self.now c.self.view_is c.requires) c.take_last-top.ensures.items))
