use Rattle.std.proofs.Common.{sym, ◌∙◌, Some, None}
use Rattle.wasm_stack.proofs.LevelEnds.{branch_by}
use Rattle.wasm_stack.proofs.stack.Stack.branch.Goals as goal

pub returns-then-not-past : goal.returns-then-not-past
returns-then-not-past c = sym (branch_by c.args.n c.args.self.now None c.if-not-past.ensures)

pub returns : goal.returns
returns c = c.jump.ensures ∙ sym (branch_by c.args.n c.args.self.now (Some c.past.new.self) c.if-not-past.ensures)
