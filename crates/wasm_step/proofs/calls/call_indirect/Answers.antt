use Rattle.std.proofs.Common.{◌≡◌, IfOk, rules, sym, ap, ◌∙◌, subst}
use Rattle.wasm_types.specs.declared.code.Value.TheVariants.{I32}
use Rattle.wasm_types.specs.Modules.{Module}
use Rattle.wasm_stack.specs.Answer.{after_of}
use Rattle.wasm_stack.specs.After.{AfterStep, limited_thread}
use Rattle.wasm_step.specs.Reduce.{call_element, call_indirect}
use Rattle.wasm_stack.specs.Thread.{Thread, with_operand}
use Rattle.wasm_step.proofs.calls.call_indirect.Goals as goal

pub returns-in-Some-I32 : goal.returns-in-Some-I32
returns-in-Some-I32 c =
    let g = c.args.store.now in
    let t : c.args.thread.now ≡ with_operand c.pop.new.self (I32 c.in-Some-I32.i) = search (rules, c.in-Some-I32.ensures.some, c.in-Some-I32.field-0-is) in
    let same =
    ap (λ e. limited_thread (call_element g.«module» c.args.type_index e c.pop.new.self)) c.element.ensures
    ∙ ap (λ (t : Thread). limited_thread (call_indirect c.args.type_index g t)) (sym t)
    in
    subst (λ (x : AfterStep). IfOk c.call_element.result (λ a. after_of a c.call_element.new.thread ≡ x)) same (subst (λ (m : Module). IfOk c.call_element.result (λ a. after_of a c.call_element.new.thread ≡ limited_thread (call_element m c.args.type_index c.element.result c.pop.new.self))) c.requires c.call_element.ensures)
