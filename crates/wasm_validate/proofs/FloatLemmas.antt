-- Floats in a block and in a choice.
use Rattle.std.proofs.Common.{◌≡◌, Bool, true, false, ◌||◌, List, Option, ◌⊎◌, sym, ap, ◌∙◌, inl, inr}
use Rattle.std.specs.Global.{Vec}
use Rattle.wasm_types.specs.declared.code.ValType.{ValType}
use Rattle.wasm_types.specs.declared.code.Instr.{Instr}
use Rattle.wasm_types.specs.declared.code.Instr.TheVariants as instr
use Rattle.wasm_types.specs.Code.{tree, trees}
use Rattle.wasm_types.specs.declared.modules.Module.{Module as RustModule}
use Rattle.wasm_types.specs.Modules.{func, func_type, global_def, module_of}
use Rattle.wasm_types.specs.Floats.{has_float, have_float, is_float_result, has_float_type, has_float_func, has_float_global, is_float_import, is_with_floats}
use Rattle.std.specs.List.{list_any}
use Rattle.wasm_validate.proofs.ListTests.{list_any_map}
use Rattle.wasm_types.specs.CodeLaws.{tree-block, tree-loop, tree-if}

-- floats of a block or a loop
block_floats : (i : Instr) (result : Option ValType) (body : Vec Instr) → (i ≡ instr.Block result body) ⊎ (i ≡ instr.Loop result body) → has_float (tree i) ≡ (is_float_result result || have_float (trees body.items))
block_floats i result body (inl e) = ap (λ i. has_float (tree i)) e ∙ ap has_float (tree-block result body)
block_floats i result body (inr e) = ap (λ i. has_float (tree i)) e ∙ ap has_float (tree-loop result body)

-- a block without a float type
pub block_is : (i : Instr) (result : Option ValType) (body : Vec Instr) (instrs : List Instr) (r : Bool) → (i ≡ instr.Block result body) ⊎ (i ≡ instr.Loop result body)
    → is_float_result result ≡ false → instrs ≡ body.items → r ≡ have_float (trees instrs) → r ≡ has_float (tree i)
block_is i result body instrs r is without same e =
    e ∙ ap (λ l. have_float (trees l)) same ∙ ap (λ b. b || have_float (trees body.items)) (sym without) ∙ sym (block_floats i result body is)

-- floats of a choice
if_floats : (i : Instr) (result : Option ValType) (a b : Vec Instr) → i ≡ instr.If result a b → has_float (tree i) ≡ (is_float_result result || (have_float (trees a.items) || have_float (trees b.items)))
if_floats i result a b e = ap (λ i. has_float (tree i)) e ∙ ap has_float (tree-if result a b)

-- a choice whose first branch has a float
pub first_is : (i : Instr) (result : Option ValType) (a b : Vec Instr) (instrs : List Instr) → i ≡ instr.If result a b
    → is_float_result result ≡ false → instrs ≡ a.items → have_float (trees instrs) ≡ true → true ≡ has_float (tree i)
first_is i result a b instrs is without same e =
    ap (λ x. x || have_float (trees b.items)) (sym e ∙ ap (λ l. have_float (trees l)) same)
    ∙ ap (λ x. x || (have_float (trees a.items) || have_float (trees b.items))) (sym without) ∙ sym (if_floats i result a b is)

-- a choice whose first branch has none
pub second_is : (i : Instr) (result : Option ValType) (a b : Vec Instr) (first second : List Instr) (r : Bool) → i ≡ instr.If result a b
    → is_float_result result ≡ false → first ≡ a.items → have_float (trees first) ≡ false → second ≡ b.items → r ≡ have_float (trees second) → r ≡ has_float (tree i)
second_is i result a b first second r is without same_a none same_b e =
    e ∙ ap (λ l. have_float (trees l)) same_b
    ∙ ap (λ x. x || have_float (trees b.items)) (sym none ∙ ap (λ l. have_float (trees l)) same_a)
    ∙ ap (λ x. x || (have_float (trees a.items) || have_float (trees b.items))) (sym without) ∙ sym (if_floats i result a b is)

-- where only the offsets of data segments are left
pub last_is : (m : RustModule) {r : Bool}
    → list_any (λ t. has_float_type (func_type t)) m.types.items ≡ false → list_any (λ i. is_float_import i.desc) m.imports.items ≡ false
    → list_any (λ f. has_float_func (func f)) m.funcs.items ≡ false → list_any (λ g. has_float_global (global_def g)) m.globals.items ≡ false
    → list_any (λ e. have_float (trees e.offset.items)) m.elems.items ≡ false → r ≡ list_any (λ s. have_float (trees s.offset.items)) m.segments.items
    → r ≡ is_with_floats (module_of m)
last_is m types imports funcs globals elems r = simp (list_any_map, types, imports, funcs, globals, elems) r
