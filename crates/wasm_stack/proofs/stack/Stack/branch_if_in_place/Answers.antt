use Rattle.wasm_stack.proofs.Ruled.{tests_branch}
use Rattle.wasm_stack.proofs.stack.Stack.branch_if_in_place.Goals as goal

pub last_i32-x-requires : goal.last_i32-x-requires
last_i32-x-requires c = tests_branch c.args.n c.args.self.now c.requires
