use Rattle.std.proofs.Common.{◌≡◌, ◌≤◌, ◌-◌, ◌∙◌, Some, length, take, drop, sym, ap, arith}
use Rattle.std.proofs.lemmas.List.{take_rest}
use Rattle.wasm_stack.specs.Call.{call_sited, site_of}
use Rattle.wasm_stack.specs.Thread.{arguments, without_operands}
use Rattle.wasm_stack.proofs.StackViews.{IsSound-operands, keeps_without, without_view, arguments_view}
use Rattle.wasm_stack.proofs.stack.Stack.take_site.Goals as goal

module _ (c : goal.After-truncate) where
  height : c.len-height.result ≡ length c.self.inside.operands.items
  height = c.len-height.ensures ∙ c.self.inside.operands.ok.0

  enough : c.args.n ≤ length c.self.inside.operands.items - c.self.inside.here.floor
  enough = omega (arith, height)

  kept : c.truncate.new.self.items ≡ take (length c.self.inside.operands.items - c.args.n) c.self.inside.operands.items
  kept = c.truncate.ensures.items ∙ ap (λ k. take (k - c.args.n) c.self.inside.operands.items) height

pub invariant_of-self : goal.invariant_of-self
invariant_of-self c =
    let s = c.self.inside in
    IsSound-operands s c.truncate.new.self c.self.invariant (omega (arith, c.truncate.ensures.capacity)) (keeps_without s c.args.n c.self.invariant (enough c) c.truncate.new.self.items (kept c))

pub returns-clause-some : goal.returns-clause-some
returns-clause-some c =
    let s = c.self.inside in
    let n = c.args.n in
    let rest = take_rest c.deref.result.now (c.len-height.result - n) in
    let read : drop (c.len-height.result - n) c.deref.result.now ≡ drop (length s.operands.items - n) s.operands.items = ap (λ o. drop (c.len-height.result - n) o) c.deref.ensures.value ∙ ap (λ k. drop (k - n) s.operands.items) (height c) in (
      ap (λ t. call_sited c.args.func (arguments n t)) (sym c.self.view_is)
          ∙ ap (call_sited c.args.func) (arguments_view s n c.self.invariant (enough c))
          ∙ ap Some (sym (c.site-site.ensures ∙ ap (site_of c.args.func) (rest ∙ read))),
      without_view s n c.self.invariant (enough c) c.truncate.new.self (kept c) ∙ ap (without_operands n) c.self.view_is,
    )
