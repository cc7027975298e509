use Rattle.std.proofs.Common.{ap, ◌∙◌}
use Rattle.wasm_types.specs.Code.{tree, trees}
use Rattle.wasm_stack.specs.After.{Goes}
use Rattle.wasm_stack.specs.Thread.{Thread, with_todo}
use Rattle.wasm_stack.proofs.Ruled.{choice_false, choice_true, tests_choice}
use Rattle.wasm_stack.proofs.stack.Stack.choose_in_place.Goals as goal

pub last_i32-x-requires : goal.last_i32-x-requires
last_i32-x-requires c =
    tests_choice (tree c.args.opener.now) (trees c.args.on_true.now) (trees c.args.on_false.now) (with_todo c.args.self.now (trees c.args.todo.now.now)) c.requires.rule

pub returns-then-x-eq0-clause-goes : goal.returns-then-x-eq0-clause-goes
returns-then-x-eq0-clause-goes c = λ _.
    ap (λ (t : Thread). Goes t) (c.open_without_top.ensures.opened c.if-not-open_without_top.false (trees c.args.on_false.now))
    ∙ choice_false (tree c.args.opener.now) (trees c.args.on_true.now) (trees c.args.on_false.now) c.last_i32-x.result (with_todo c.args.self.now (trees c.args.todo.now.now)) c.last_i32-x.ensures c.if-x-eq0.true

pub returns-else-x-eq0-clause-goes : goal.returns-else-x-eq0-clause-goes
returns-else-x-eq0-clause-goes c = λ _.
    ap (λ (t : Thread). Goes t) (c.open_without_top.ensures.opened c.if-not-open_without_top.false (trees c.args.on_true.now))
    ∙ choice_true (tree c.args.opener.now) (trees c.args.on_true.now) (trees c.args.on_false.now) c.last_i32-x.result (with_todo c.args.self.now (trees c.args.todo.now.now)) c.last_i32-x.ensures c.if-x-eq0.false
