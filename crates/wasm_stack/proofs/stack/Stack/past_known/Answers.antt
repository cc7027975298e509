use Rattle.std.proofs.Common.{◌≡◌, suc, ◌-◌, ◌≤◌, ap, sym, ◌∙◌, subst, length, get_or, take, arith}
use Rattle.wasm_stack.specs.declared.stack.StackLevel.{StackLevel}
use Rattle.wasm_stack.specs.View.{closed_by}
use Rattle.wasm_stack.proofs.StackViews.{IsPast, past_fits, past_in, past_sound, past_view}
use Rattle.wasm_stack.proofs.stack.Stack.past_known.Goals as goal

pub overflow_sub-around : goal.overflow_sub-around
overflow_sub-around c =
    omega (arith, c.len.ensures, c.self.inside.labels.ok.0, past_fits c.self.inside c.args.self.now c.args.n c.self.invariant c.self.view_is c.requires)

pub index-label-requires : goal.index-label-requires
index-label-requires c =
    omega (arith, c.len.ensures, c.self.inside.labels.ok.0, past_fits c.self.inside c.args.self.now c.args.n c.self.invariant c.self.view_is c.requires)

module _ (c : goal.After-self-3-1) where
  height : c.len.result ≡ length c.self.inside.labels.items
  height = c.len.ensures ∙ c.self.inside.labels.ok.0

  fits : c.args.n ≤ length c.self.inside.labels.items - c.self.inside.here.labels_from
  fits = past_fits c.self.inside c.args.self.now c.args.n c.self.invariant c.self.view_is c.requires

  cut : c.truncate.new.self.items ≡ take (length c.self.inside.labels.items - c.args.n) c.self.inside.labels.items
  cut = c.truncate.ensures.items ∙ ap (λ k. take (k - c.args.n) c.self.inside.labels.items) height

  label : IsPast c.args.n c.self.inside.here c.self.inside.labels.items c.self.inside.locals.items c.self.inside.operands.items c.self.inside.callers.items c.index-label.result.now
  label =
      let s = c.self.inside in
      let d = c.index-label.result.now in
      let n : suc (c.args.n - 1) ≡ c.args.n = omega arith in
      let is : get_or s.labels.items (length s.labels.items - c.args.n) d ≡ d = ap (λ k. get_or s.labels.items (k - c.args.n) d) (sym height) ∙ sym c.index-label.ensures in
      let past = past_in s.here s.labels.items s.locals.items s.operands.items s.callers.items d c.self.invariant.part (c.args.n - 1) (omega (arith, height, fits)) in
      let at_n = subst (λ n. IsPast n s.here s.labels.items s.locals.items s.operands.items s.callers.items (get_or s.labels.items (length s.labels.items - n) d)) n past in
      subst (λ (l : StackLevel). IsPast c.args.n s.here s.labels.items s.locals.items s.operands.items s.callers.items l) is at_n

pub invariant_of-self : goal.invariant_of-self
invariant_of-self c = past_sound c.self.inside c.args.n c.truncate.new.self c.index-label.result.now c.self.invariant (fits c) (label c) (cut c)

pub returns : goal.returns
returns c =
    ap (closed_by c.args.n) (sym c.self.view_is)
    ∙ past_view c.self.inside c.args.n c.truncate.new.self c.index-label.result.now c.self.invariant (fits c) (label c) (cut c)
