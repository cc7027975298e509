use Rattle.std.proofs.Common.{◌∷◌, drop, ap, ◌∙◌, arith}
use Rattle.wasm_stack.specs.Thread.{Thread}
use Rattle.wasm_stack.proofs.InPlace.{put_two_sound, put_two_view}
use Rattle.wasm_stack.proofs.StackViews.{two_operands}
use Rattle.wasm_stack.proofs.stack.Stack.replace_two.Goals as goal

pub take_last-y-requires : goal.take_last-y-requires
take_last-y-requires c = omega (arith, two_operands c.self.inside c.args.self.now c.self.view_is c.requires, c.self.inside.operands.ok.0)

pub invariant_of-self : goal.invariant_of-self
invariant_of-self c =
    put_two_sound c.self.inside c.take_last-y.new.self c.take_last-x.new.self c.push_reserved.new.self c.take_last-x.result c.take_last-y.result c.args.v c.self.invariant (two_operands c.self.inside c.args.self.now c.self.view_is c.requires) (omega (arith, c.take_last-y.ensures.capacity)) (omega (arith, c.take_last-x.ensures.capacity)) (omega (arith, c.push_reserved.ensures.capacity)) c.take_last-y.ensures.items c.take_last-x.ensures.items c.push_reserved.ensures.items

pub returns : goal.returns
returns c =
    put_two_view c.self.inside c.take_last-y.new.self c.take_last-x.new.self c.push_reserved.new.self c.take_last-x.result c.take_last-y.result c.args.v c.self.invariant (two_operands c.self.inside c.args.self.now c.self.view_is c.requires) (omega (arith, c.take_last-y.ensures.capacity)) (omega (arith, c.take_last-x.ensures.capacity)) (omega (arith, c.push_reserved.ensures.capacity)) c.take_last-y.ensures.items c.take_last-x.ensures.items c.push_reserved.ensures.items
    ∙ ap (λ (t : Thread). record t { stack = c.args.v ∷ drop 2 t.stack }) c.self.view_is
