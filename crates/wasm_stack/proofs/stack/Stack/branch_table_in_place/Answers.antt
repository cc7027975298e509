use Rattle.wasm_stack.proofs.Ruled.{tests_table}
use Rattle.wasm_stack.proofs.stack.Stack.branch_table_in_place.Goals as goal

pub last_i32-i-requires : goal.last_i32-i-requires
last_i32-i-requires c = tests_table c.args.labels.now c.args.default c.args.self.now c.requires
