-- What branches carry, and what blocks leave.
use Rattle.std.specs.Prelude.{ℕ, Bool, true, false, List, Option, Some, None, slice_get, if◌then◌else◌}
use Rattle.std.specs.List.{list_all}
use Rattle.std.specs.Option.{option_map_or}
use Rattle.wasm_types.specs.declared.code.ValType.{ValType}
use Rattle.wasm_types.specs.declared.code.ValType.TheVariants.{I32}
use Rattle.wasm_types.specs.Maybe.{◌>>=◌}
use Rattle.wasm_types.specs.Stack.{BlockStack, pop_type, pop_result, push_result, jump_with, is_same, is_exactly}

-- what a branch to each open block carries, from the inside out
abbrev pub Labels : Type 0
Labels = List (Option ValType)

abbrev pub is_same_label : Option ValType → Option ValType → Bool
is_same_label None None = true
is_same_label (Some t) (Some u) = is_same t u
is_same_label _ _ = false

abbrev pub has_label : Labels → Option ValType → ℕ → Bool
has_label labels label n = option_map_or (is_same_label label) (slice_get labels n) false

-- the label of a table of branches, if all are of one type
abbrev pub table_label : Labels → List ℕ → ℕ → Option (Option ValType)
table_label labels ns default = do
  label ← slice_get labels default
  if list_all (has_label labels label) ns then Some label else None

abbrev pub typed_branch : Labels → ℕ → BlockStack → Option BlockStack
typed_branch labels n s = do
  label ← slice_get labels n
  jump_with label s

abbrev pub typed_branch_if : Labels → ℕ → BlockStack → Option BlockStack
typed_branch_if labels n s = do
  label ← slice_get labels n
  tested ← pop_type I32 s
  rest ← pop_result label tested
  Some (push_result label rest)

abbrev pub typed_branch_table : Labels → List ℕ → ℕ → BlockStack → Option BlockStack
typed_branch_table labels ns default s = do
  label ← table_label labels ns default
  tested ← pop_type I32 s
  jump_with label tested

-- the stack around a block, if what the code inside leaves is exactly the block's result
abbrev pub stack_around_block : Option ValType → Option BlockStack → BlockStack → Option BlockStack
stack_around_block result inside s = do
  end ← inside
  exact ← is_exactly result end
  Some s

-- the same, and the result on it
abbrev pub block_of : Option ValType → Option BlockStack → BlockStack → Option BlockStack
block_of result inside s = do
  before ← stack_around_block result inside s
  Some (push_result result before)

-- a test, and either of two blocks
abbrev pub stack_after_choice : Option ValType → Option BlockStack → Option BlockStack → BlockStack → Option BlockStack
stack_after_choice result on_true on_false s = do
  tested ← pop_type I32 s
  before ← stack_around_block result on_true tested
  block_of result on_false before
