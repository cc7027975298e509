use Rattle.std.proofs.Common.{◌≡◌, ◌-◌, ap, sym, ◌∙◌, arith}
use Rattle.wasm_types.specs.Code.{tree, trees}
use Rattle.wasm_types.specs.CodeLaws.{tree-loop}
use Rattle.wasm_stack.specs.Thread.{Thread, OpenedLevel}
use Rattle.wasm_stack.specs.View.{opened_by}
use Rattle.wasm_stack.specs.inside.Stacks.{innermost_opened, frame_labels}
use Rattle.wasm_stack.proofs.StackViews.{innermost_top, opens_none}
use Rattle.wasm_stack.proofs.stack.Stack.target.Goals as goal
use Rattle.wasm_stack.proofs.stack.Stack.target.Goals.{After-index}

module _ (c : After-index) where
  opened : innermost_opened c.self.inside.here.gives (frame_labels c.self.inside.here c.self.inside.labels.items) ≡ opened_by (tree c.index.result.now.opener.now) (trees c.index.result.now.todo.now)
  opened =
      let s = c.self.inside in
      let height = c.len-2.ensures ∙ s.labels.ok.0 in
      innermost_top s.here.gives s.here.labels_from (c.len-2.result - 1) s.labels.items c.index.result.now (omega arith) (omega arith) c.index.ensures

pub returns-in-Loop : goal.returns-in-Loop
returns-in-Loop c =
    let o =
    opened (goal.at-returns-in-Loop c).After-index
    ∙ ap (λ i. opened_by (tree i) (trees c.index.result.now.todo.now)) c.in-Loop.is
    ∙ ap (λ i. opened_by i (trees c.index.result.now.todo.now)) (tree-loop c.in-Loop.field-0 c.in-Loop.body)
    in (
      ap (λ (t : Thread). t.loops) (sym c.self.view_is) ∙ ap (λ (o : OpenedLevel). o.loops) o,
      ap (λ (t : Thread). t.target) (sym c.self.view_is) ∙ ap (λ (o : OpenedLevel). o.target) o ∙ ap trees (sym c.deref.ensures.value),
    )

pub returns-in_default : goal.returns-in_default
returns-in_default c =
    let o = opened (goal.at-returns-in_default c).After-index in
    let i = c.index.result.now.opener.now in
    let none = opens_none i (trees c.index.result.now.todo.now) (record { block = c.in_default.not-Block; loop = c.in_default.not-Loop; choice = c.in_default.not-If }) in (
      ap (λ (t : Thread). t.loops) (sym c.self.view_is) ∙ ap (λ (o : OpenedLevel). o.loops) o ∙ none.0,
      ap (λ (t : Thread). t.carries) (sym c.self.view_is) ∙ ap (λ (o : OpenedLevel). o.carries) o ∙ none.1,
    )
