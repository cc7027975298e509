-- The bridge from an instruction that the program makes to the tree that contracts see.
use Rattle.std.proofs.Common.{◌≡◌, List, [], ◌∷◌, ◌++◌, Option, refl, ap, ◌∙◌}
use Rattle.std.specs.Global.{Vec}
use Rattle.wasm_types.specs.declared.code.ValType.{ValType}
use Rattle.wasm_types.specs.declared.code.Instr.{Instr, Row_of-Instr, end_of-Instr, more_of-Instr, items-the_row-Instr, items_hidden-the_row-Instr-0}
use Rattle.wasm_types.specs.declared.code.Instr.TheBlock.{hidden-the_row-Instr-0}
use Rattle.wasm_types.specs.declared.code.Instr.TheVariants as instr
use Rattle.wasm_types.specs.Code.{Trees, Block, Loop, If, Then, tree, trees_of_row, instructions_before, trees}

-- a row's trees are those of its list
trees_of_row_is : (m : _) (row : Row_of-Instr m) → trees_of_row row ≡ trees (items-the_row-Instr m row)
trees_of_row_is m end_of-Instr = refl
trees_of_row_is m (more_of-Instr first rest) = ap (Then (tree first)) (trees_of_row_is _ rest)

-- the trees of a vector inside an instruction are those of its list
pub trees_of_vec : (v : Vec Instr) → trees_of_row (hidden-the_row-Instr-0 v) ≡ trees v.items
trees_of_vec v = trees_of_row_is _ (hidden-the_row-Instr-0 v) ∙ ap trees (items_hidden-the_row-Instr-0 v)

-- the tree of a block
pub tree-block : (result : Option ValType) (body : Vec Instr) → tree (instr.Block result body) ≡ Block result (trees body.items)
tree-block result body = ap (Block result) (trees_of_vec body)

-- the tree of a loop
pub tree-loop : (result : Option ValType) (body : Vec Instr) → tree (instr.Loop result body) ≡ Loop result (trees body.items)
tree-loop result body = ap (Loop result) (trees_of_vec body)

-- the tree of a choice
pub tree-if : (result : Option ValType) (on_true on_false : Vec Instr)
    → tree (instr.If result on_true on_false) ≡ If result (trees on_true.items) (trees on_false.items)
tree-if result on_true on_false =
    ap (λ (t : Trees). If result t (trees_of_row (hidden-the_row-Instr-0 on_false))) (trees_of_vec on_true)
    ∙ ap (If result (trees on_true.items)) (trees_of_vec on_false)

-- what is in front of others, in two parts
pub before-append : (a b : List Instr) (rest : Trees) → instructions_before (a ++ b) rest ≡ instructions_before a (instructions_before b rest)
before-append [] b rest = refl
before-append (x ∷ a) b rest = ap (Then (tree x)) (before-append a b rest)
