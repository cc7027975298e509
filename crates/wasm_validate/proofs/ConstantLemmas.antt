-- Expressions that are not one instruction.
use Rattle.std.proofs.Common.{◌≡◌, ◌≢◌, false, List, [], ◌∷◌, None, length, refl}
use Rattle.wasm_types.specs.declared.code.Instr.{Instr}
use Rattle.wasm_types.specs.Code.{Tree, Trees, Then, ConstI32, ConstI64, ConstF32, ConstF64, GlobalGet, tree, trees}
use Rattle.wasm_types.specs.Modules.{GlobalDef}
use Rattle.wasm_types.specs.Rules.{constant_type, is_offset}

two_are_no_constant : (x y : Tree) (rest : Trees) → None ≡ constant_type (Then x (Then y rest))
two_are_no_constant x y rest =
    elim x as (λ x. None ≡ constant_type (Then x (Then y rest))) [ ConstI32 bits ↦ refl | ConstI64 bits ↦ refl | ConstF32 bits ↦ refl | ConstF64 bits ↦ refl | _ ↦ refl ]

two_are_no_offset : (globals : List GlobalDef) (x y : Tree) (rest : Trees) → false ≡ is_offset globals (Then x (Then y rest))
two_are_no_offset globals x y rest =
    elim x as (λ x. false ≡ is_offset globals (Then x (Then y rest))) [ ConstI32 bits ↦ refl | GlobalGet g ↦ refl | _ ↦ refl ]

pub no_constant : (instrs : List Instr) → length instrs ≢ 1 → None ≡ constant_type (trees instrs)
no_constant [] not_one = refl
no_constant (x ∷ []) not_one = absurd (not_one refl)
no_constant (x ∷ (y ∷ rest)) not_one = two_are_no_constant (tree x) (tree y) (trees rest)

pub no_offset : (globals : List GlobalDef) (instrs : List Instr) → length instrs ≢ 1 → false ≡ is_offset globals (trees instrs)
no_offset globals [] not_one = refl
no_offset globals (x ∷ []) not_one = absurd (not_one refl)
no_offset globals (x ∷ (y ∷ rest)) not_one = two_are_no_offset globals (tree x) (tree y) (trees rest)
