use Rattle.std.proofs.Common.{◌∷◌, drop, ap, ◌∙◌, arith}
use Rattle.wasm_stack.specs.Thread.{Thread}
use Rattle.wasm_stack.proofs.InPlace.{put_one_sound, put_one_view}
use Rattle.wasm_stack.proofs.StackViews.{some_operand}
use Rattle.wasm_stack.proofs.stack.Stack.replace_one.Goals as goal

pub take_last-x-requires : goal.take_last-x-requires
take_last-x-requires c = omega (arith, some_operand c.self.inside c.args.self.now c.self.view_is c.requires, c.self.inside.operands.ok.0)

pub invariant_of-self : goal.invariant_of-self
invariant_of-self c =
    put_one_sound c.self.inside c.take_last-x.new.self c.push_reserved.new.self c.take_last-x.result c.args.v c.self.invariant (some_operand c.self.inside c.args.self.now c.self.view_is c.requires) (omega (arith, c.take_last-x.ensures.capacity)) (omega (arith, c.push_reserved.ensures.capacity)) c.take_last-x.ensures.items c.push_reserved.ensures.items

pub returns : goal.returns
returns c =
    put_one_view c.self.inside c.take_last-x.new.self c.push_reserved.new.self c.take_last-x.result c.args.v c.self.invariant (some_operand c.self.inside c.args.self.now c.self.view_is c.requires) (omega (arith, c.take_last-x.ensures.capacity)) (omega (arith, c.push_reserved.ensures.capacity)) c.take_last-x.ensures.items c.push_reserved.ensures.items
    ∙ ap (λ (t : Thread). record t { stack = c.args.v ∷ drop 1 t.stack }) c.self.view_is
