-- The trees of instructions that hold others.
use Rattle.std.proofs.Common.{◌≡◌, ◌∙◌, List, [], None, ap}
use Rattle.std.specs.Global.{Vec}
use Rattle.wasm_types.specs.declared.code.Instr.{Instr}
use Rattle.wasm_types.specs.declared.code.Instr.TheVariants as instr
use Rattle.wasm_types.specs.Code.{End, If, Loop, tree, trees}
use Rattle.wasm_types.specs.CodeLaws.{tree-if, tree-loop}

pub choice : (on_true on_false : Vec Instr) → on_false.items ≡ [] → tree (instr.If None on_true on_false) ≡ If None (trees on_true.items) End
choice on_true on_false none = tree-if None on_true on_false ∙ ap (λ (is : List Instr). If None (trees on_true.items) (trees is)) none

pub repetition : (body : Vec Instr) → tree (instr.Loop None body) ≡ Loop None (trees body.items)
repetition body = tree-loop None body
