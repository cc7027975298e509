-- What the opcodes of numeric instructions, loads and stores compute has the types that typing says.
use Rattle.std.proofs.Common.{◌≡◌, ℕ, ◌+◌, ◌<◌, ◌≤◌, Bool, true, false, List, [], ◌∷◌, Option, Some, None, refl, sym, ap, ◌∙◌, subst, arith, rules, tests}
use Rattle.std.specs.Prelude.{◌^◌, nat_eq, nat_lt, if◌then◌else◌, option_and_then, Result, Ok, Err}
use Rattle.std.specs.Int.{Width, w32, w64}
use Rattle.std.proofs.lemmas.Bool.{ltb-true, ltb-false, eqb-true, eqb-false}
use Rattle.wasm_num.specs.declared.Trap.{Trap as NoResult}
use Rattle.wasm_num.specs.Operators.{idiv_s, idiv_u, irem_s, irem_u}
use Rattle.wasm_types.specs.declared.code.Value.{Value}
use Rattle.wasm_types.specs.declared.code.Value.TheVariants.{I32, I64}
use Rattle.wasm_types.specs.declared.code.ValType.{ValType}
use Rattle.wasm_types.specs.declared.code.ValType.TheVariants as types
use Rattle.wasm_types.specs.Accesses.{Access, load_access, store_access}
use Rattle.wasm_types.specs.Floats.{is_float, is_float_access, is_float_operator}
use Rattle.wasm_types.specs.Numeric.{Operator, operator_of}
use Rattle.wasm_types.specs.Stack.{is_same}
use Rattle.wasm_values.specs.Access.{load_width, load_value, loaded_value, loaded_width, operand_of, store_width, stored_width, widened_load}
use Rattle.wasm_values.specs.Values.{type_of_value}
use Rattle.wasm_values.specs.Numeric.{Computed, Gives, Fails, IsNone, divided_32, divided_64, is_unary, unary, binary}

-- a number is the first of a range, or it is past that
each : (P : ℕ → Type 0) (low op : ℕ) → low ≤ op → P low → (low + 1 ≤ op → P op) → P op
each P low op le first rest = by_case (nat_eq low op) refl
  where
    by_case : (b : Bool) → nat_eq low op ≡ b → P op
    by_case true e = subst P (eqb-true low op e) first
    by_case false e = rest (let d = eqb-false low op e in omega arith)

never : true ≡ false → ⊥
never e = cc

-- ---- numeric instructions

-- the operand has this type, or there is a trap
abbrev pub ComputedFits : Computed → ValType → Type 0
ComputedFits (Gives v) k = type_of_value v ≡ k
ComputedFits (Fails trap) k = Unit {0}
ComputedFits IsNone k = ⊥

abbrev pub TakesFit : ℕ → List ValType → ValType → Type 0
TakesFit op [] k = ⊥
TakesFit op (t ∷ []) k = (is_unary op ≡ true) × ((v : Value) → type_of_value v ≡ t → ComputedFits (unary op v) k)
TakesFit op (t ∷ (u ∷ [])) k =
    (is_unary op ≡ false) × (t ≡ u) × ((x y : Value) → type_of_value x ≡ t → type_of_value y ≡ t → ComputedFits (binary op x y) k)
TakesFit op (t ∷ (u ∷ (w ∷ ts))) k = ⊥

abbrev pub FitsOf : ℕ → Option Operator → Type 0
FitsOf op None = Unit {0}
FitsOf op (Some o) = is_float_operator (Some o) ≡ false → TakesFit op o.takes o.gives

abbrev OpFits : ℕ → Type 0
OpFits op = FitsOf op (operator_of op)

on_32 : (op : ℕ) (k : ValType) → ((x : ℕ) → ComputedFits (unary op (I32 x)) k) → (v : Value) → type_of_value v ≡ types.I32 → ComputedFits (unary op v) k
on_32 op k h (I32 x) e = h x
on_32 op k h (I64 x) e = cc

on_64 : (op : ℕ) (k : ValType) → ((x : ℕ) → ComputedFits (unary op (I64 x)) k) → (v : Value) → type_of_value v ≡ types.I64 → ComputedFits (unary op v) k
on_64 op k h (I64 x) e = h x
on_64 op k h (I32 x) e = cc

both_32 : (op : ℕ) (k : ValType) → ((x y : ℕ) → ComputedFits (binary op (I32 x) (I32 y)) k) → (x y : Value) → type_of_value x ≡ types.I32 → type_of_value y ≡ types.I32 → ComputedFits (binary op x y) k
both_32 op k h (I32 x) (I32 y) d e = h x y
both_32 op k h (I64 x) y d e = cc
both_32 op k h (I32 x) (I64 y) d e = cc

both_64 : (op : ℕ) (k : ValType) → ((x y : ℕ) → ComputedFits (binary op (I64 x) (I64 y)) k) → (x y : Value) → type_of_value x ≡ types.I64 → type_of_value y ≡ types.I64 → ComputedFits (binary op x y) k
both_64 op k h (I64 x) (I64 y) d e = h x y
both_64 op k h (I32 x) y d e = cc
both_64 op k h (I64 x) (I32 y) d e = cc

divided_32_fits : (r : Result ℕ NoResult) → ComputedFits (divided_32 r) types.I32
divided_32_fits (Ok x) = refl
divided_32_fits (Err e) = tt

divided_64_fits : (r : Result ℕ NoResult) → ComputedFits (divided_64 r) types.I64
divided_64_fits (Ok x) = refl
divided_64_fits (Err e) = tt

from_45 : (op : ℕ) → 0x45 ≤ op → (0x55 ≤ op → OpFits op) → OpFits op
unfolding is_unary
from_45 op h rest =
    each OpFits 0x45 op h (λ _. (refl, on_32 0x45 types.I32 (λ x. refl))) (λ h.
    each OpFits 0x46 op h (λ _. (refl, refl, both_32 0x46 types.I32 (λ x y. refl))) (λ h.
    each OpFits 0x47 op h (λ _. (refl, refl, both_32 0x47 types.I32 (λ x y. refl))) (λ h.
    each OpFits 0x48 op h (λ _. (refl, refl, both_32 0x48 types.I32 (λ x y. refl))) (λ h.
    each OpFits 0x49 op h (λ _. (refl, refl, both_32 0x49 types.I32 (λ x y. refl))) (λ h.
    each OpFits 0x4A op h (λ _. (refl, refl, both_32 0x4A types.I32 (λ x y. refl))) (λ h.
    each OpFits 0x4B op h (λ _. (refl, refl, both_32 0x4B types.I32 (λ x y. refl))) (λ h.
    each OpFits 0x4C op h (λ _. (refl, refl, both_32 0x4C types.I32 (λ x y. refl))) (λ h.
    each OpFits 0x4D op h (λ _. (refl, refl, both_32 0x4D types.I32 (λ x y. refl))) (λ h.
    each OpFits 0x4E op h (λ _. (refl, refl, both_32 0x4E types.I32 (λ x y. refl))) (λ h.
    each OpFits 0x4F op h (λ _. (refl, refl, both_32 0x4F types.I32 (λ x y. refl))) (λ h.
    each OpFits 0x50 op h (λ _. (refl, on_64 0x50 types.I32 (λ x. refl))) (λ h.
    each OpFits 0x51 op h (λ _. (refl, refl, both_64 0x51 types.I32 (λ x y. refl))) (λ h.
    each OpFits 0x52 op h (λ _. (refl, refl, both_64 0x52 types.I32 (λ x y. refl))) (λ h.
    each OpFits 0x53 op h (λ _. (refl, refl, both_64 0x53 types.I32 (λ x y. refl))) (λ h.
    each OpFits 0x54 op h (λ _. (refl, refl, both_64 0x54 types.I32 (λ x y. refl))) (λ h.
    rest h))))))))))))))))

from_55 : (op : ℕ) → 0x55 ≤ op → (0x65 ≤ op → OpFits op) → OpFits op
unfolding is_unary
from_55 op h rest =
    each OpFits 0x55 op h (λ _. (refl, refl, both_64 0x55 types.I32 (λ x y. refl))) (λ h.
    each OpFits 0x56 op h (λ _. (refl, refl, both_64 0x56 types.I32 (λ x y. refl))) (λ h.
    each OpFits 0x57 op h (λ _. (refl, refl, both_64 0x57 types.I32 (λ x y. refl))) (λ h.
    each OpFits 0x58 op h (λ _. (refl, refl, both_64 0x58 types.I32 (λ x y. refl))) (λ h.
    each OpFits 0x59 op h (λ _. (refl, refl, both_64 0x59 types.I32 (λ x y. refl))) (λ h.
    each OpFits 0x5A op h (λ _. (refl, refl, both_64 0x5A types.I32 (λ x y. refl))) (λ h.
    each OpFits 0x5B op h (λ h. absurd (never h)) (λ h.
    each OpFits 0x5C op h (λ h. absurd (never h)) (λ h.
    each OpFits 0x5D op h (λ h. absurd (never h)) (λ h.
    each OpFits 0x5E op h (λ h. absurd (never h)) (λ h.
    each OpFits 0x5F op h (λ h. absurd (never h)) (λ h.
    each OpFits 0x60 op h (λ h. absurd (never h)) (λ h.
    each OpFits 0x61 op h (λ h. absurd (never h)) (λ h.
    each OpFits 0x62 op h (λ h. absurd (never h)) (λ h.
    each OpFits 0x63 op h (λ h. absurd (never h)) (λ h.
    each OpFits 0x64 op h (λ h. absurd (never h)) (λ h.
    rest h))))))))))))))))

from_65 : (op : ℕ) → 0x65 ≤ op → (0x75 ≤ op → OpFits op) → OpFits op
unfolding is_unary
from_65 op h rest =
    each OpFits 0x65 op h (λ h. absurd (never h)) (λ h.
    each OpFits 0x66 op h (λ h. absurd (never h)) (λ h.
    each OpFits 0x67 op h (λ _. (refl, on_32 0x67 types.I32 (λ x. refl))) (λ h.
    each OpFits 0x68 op h (λ _. (refl, on_32 0x68 types.I32 (λ x. refl))) (λ h.
    each OpFits 0x69 op h (λ _. (refl, on_32 0x69 types.I32 (λ x. refl))) (λ h.
    each OpFits 0x6A op h (λ _. (refl, refl, both_32 0x6A types.I32 (λ x y. refl))) (λ h.
    each OpFits 0x6B op h (λ _. (refl, refl, both_32 0x6B types.I32 (λ x y. refl))) (λ h.
    each OpFits 0x6C op h (λ _. (refl, refl, both_32 0x6C types.I32 (λ x y. refl))) (λ h.
    each OpFits 0x6D op h (λ _. (refl, refl, both_32 0x6D types.I32 (λ x y. divided_32_fits (idiv_s w32 x y)))) (λ h.
    each OpFits 0x6E op h (λ _. (refl, refl, both_32 0x6E types.I32 (λ x y. divided_32_fits (idiv_u x y)))) (λ h.
    each OpFits 0x6F op h (λ _. (refl, refl, both_32 0x6F types.I32 (λ x y. divided_32_fits (irem_s w32 x y)))) (λ h.
    each OpFits 0x70 op h (λ _. (refl, refl, both_32 0x70 types.I32 (λ x y. divided_32_fits (irem_u x y)))) (λ h.
    each OpFits 0x71 op h (λ _. (refl, refl, both_32 0x71 types.I32 (λ x y. refl))) (λ h.
    each OpFits 0x72 op h (λ _. (refl, refl, both_32 0x72 types.I32 (λ x y. refl))) (λ h.
    each OpFits 0x73 op h (λ _. (refl, refl, both_32 0x73 types.I32 (λ x y. refl))) (λ h.
    each OpFits 0x74 op h (λ _. (refl, refl, both_32 0x74 types.I32 (λ x y. refl))) (λ h.
    rest h))))))))))))))))

from_75 : (op : ℕ) → 0x75 ≤ op → (0x85 ≤ op → OpFits op) → OpFits op
unfolding is_unary
from_75 op h rest =
    each OpFits 0x75 op h (λ _. (refl, refl, both_32 0x75 types.I32 (λ x y. refl))) (λ h.
    each OpFits 0x76 op h (λ _. (refl, refl, both_32 0x76 types.I32 (λ x y. refl))) (λ h.
    each OpFits 0x77 op h (λ _. (refl, refl, both_32 0x77 types.I32 (λ x y. refl))) (λ h.
    each OpFits 0x78 op h (λ _. (refl, refl, both_32 0x78 types.I32 (λ x y. refl))) (λ h.
    each OpFits 0x79 op h (λ _. (refl, on_64 0x79 types.I64 (λ x. refl))) (λ h.
    each OpFits 0x7A op h (λ _. (refl, on_64 0x7A types.I64 (λ x. refl))) (λ h.
    each OpFits 0x7B op h (λ _. (refl, on_64 0x7B types.I64 (λ x. refl))) (λ h.
    each OpFits 0x7C op h (λ _. (refl, refl, both_64 0x7C types.I64 (λ x y. refl))) (λ h.
    each OpFits 0x7D op h (λ _. (refl, refl, both_64 0x7D types.I64 (λ x y. refl))) (λ h.
    each OpFits 0x7E op h (λ _. (refl, refl, both_64 0x7E types.I64 (λ x y. refl))) (λ h.
    each OpFits 0x7F op h (λ _. (refl, refl, both_64 0x7F types.I64 (λ x y. divided_64_fits (idiv_s w64 x y)))) (λ h.
    each OpFits 0x80 op h (λ _. (refl, refl, both_64 0x80 types.I64 (λ x y. divided_64_fits (idiv_u x y)))) (λ h.
    each OpFits 0x81 op h (λ _. (refl, refl, both_64 0x81 types.I64 (λ x y. divided_64_fits (irem_s w64 x y)))) (λ h.
    each OpFits 0x82 op h (λ _. (refl, refl, both_64 0x82 types.I64 (λ x y. divided_64_fits (irem_u x y)))) (λ h.
    each OpFits 0x83 op h (λ _. (refl, refl, both_64 0x83 types.I64 (λ x y. refl))) (λ h.
    each OpFits 0x84 op h (λ _. (refl, refl, both_64 0x84 types.I64 (λ x y. refl))) (λ h.
    rest h))))))))))))))))

from_85 : (op : ℕ) → 0x85 ≤ op → (0x95 ≤ op → OpFits op) → OpFits op
unfolding is_unary
from_85 op h rest =
    each OpFits 0x85 op h (λ _. (refl, refl, both_64 0x85 types.I64 (λ x y. refl))) (λ h.
    each OpFits 0x86 op h (λ _. (refl, refl, both_64 0x86 types.I64 (λ x y. refl))) (λ h.
    each OpFits 0x87 op h (λ _. (refl, refl, both_64 0x87 types.I64 (λ x y. refl))) (λ h.
    each OpFits 0x88 op h (λ _. (refl, refl, both_64 0x88 types.I64 (λ x y. refl))) (λ h.
    each OpFits 0x89 op h (λ _. (refl, refl, both_64 0x89 types.I64 (λ x y. refl))) (λ h.
    each OpFits 0x8A op h (λ _. (refl, refl, both_64 0x8A types.I64 (λ x y. refl))) (λ h.
    each OpFits 0x8B op h (λ h. absurd (never h)) (λ h.
    each OpFits 0x8C op h (λ h. absurd (never h)) (λ h.
    each OpFits 0x8D op h (λ h. absurd (never h)) (λ h.
    each OpFits 0x8E op h (λ h. absurd (never h)) (λ h.
    each OpFits 0x8F op h (λ h. absurd (never h)) (λ h.
    each OpFits 0x90 op h (λ h. absurd (never h)) (λ h.
    each OpFits 0x91 op h (λ h. absurd (never h)) (λ h.
    each OpFits 0x92 op h (λ h. absurd (never h)) (λ h.
    each OpFits 0x93 op h (λ h. absurd (never h)) (λ h.
    each OpFits 0x94 op h (λ h. absurd (never h)) (λ h.
    rest h))))))))))))))))

from_95 : (op : ℕ) → 0x95 ≤ op → (0xA5 ≤ op → OpFits op) → OpFits op
unfolding is_unary
from_95 op h rest =
    each OpFits 0x95 op h (λ h. absurd (never h)) (λ h.
    each OpFits 0x96 op h (λ h. absurd (never h)) (λ h.
    each OpFits 0x97 op h (λ h. absurd (never h)) (λ h.
    each OpFits 0x98 op h (λ h. absurd (never h)) (λ h.
    each OpFits 0x99 op h (λ h. absurd (never h)) (λ h.
    each OpFits 0x9A op h (λ h. absurd (never h)) (λ h.
    each OpFits 0x9B op h (λ h. absurd (never h)) (λ h.
    each OpFits 0x9C op h (λ h. absurd (never h)) (λ h.
    each OpFits 0x9D op h (λ h. absurd (never h)) (λ h.
    each OpFits 0x9E op h (λ h. absurd (never h)) (λ h.
    each OpFits 0x9F op h (λ h. absurd (never h)) (λ h.
    each OpFits 0xA0 op h (λ h. absurd (never h)) (λ h.
    each OpFits 0xA1 op h (λ h. absurd (never h)) (λ h.
    each OpFits 0xA2 op h (λ h. absurd (never h)) (λ h.
    each OpFits 0xA3 op h (λ h. absurd (never h)) (λ h.
    each OpFits 0xA4 op h (λ h. absurd (never h)) (λ h.
    rest h))))))))))))))))

from_A5 : (op : ℕ) → 0xA5 ≤ op → (0xB5 ≤ op → OpFits op) → OpFits op
unfolding is_unary
from_A5 op h rest =
    each OpFits 0xA5 op h (λ h. absurd (never h)) (λ h.
    each OpFits 0xA6 op h (λ h. absurd (never h)) (λ h.
    each OpFits 0xA7 op h (λ _. (refl, on_64 0xA7 types.I32 (λ x. refl))) (λ h.
    each OpFits 0xA8 op h (λ h. absurd (never h)) (λ h.
    each OpFits 0xA9 op h (λ h. absurd (never h)) (λ h.
    each OpFits 0xAA op h (λ h. absurd (never h)) (λ h.
    each OpFits 0xAB op h (λ h. absurd (never h)) (λ h.
    each OpFits 0xAC op h (λ _. (refl, on_32 0xAC types.I64 (λ x. refl))) (λ h.
    each OpFits 0xAD op h (λ _. (refl, on_32 0xAD types.I64 (λ x. refl))) (λ h.
    each OpFits 0xAE op h (λ h. absurd (never h)) (λ h.
    each OpFits 0xAF op h (λ h. absurd (never h)) (λ h.
    each OpFits 0xB0 op h (λ h. absurd (never h)) (λ h.
    each OpFits 0xB1 op h (λ h. absurd (never h)) (λ h.
    each OpFits 0xB2 op h (λ h. absurd (never h)) (λ h.
    each OpFits 0xB3 op h (λ h. absurd (never h)) (λ h.
    each OpFits 0xB4 op h (λ h. absurd (never h)) (λ h.
    rest h))))))))))))))))

from_B5 : (op : ℕ) → 0xB5 ≤ op → (0xC5 ≤ op → OpFits op) → OpFits op
unfolding is_unary
from_B5 op h rest =
    each OpFits 0xB5 op h (λ h. absurd (never h)) (λ h.
    each OpFits 0xB6 op h (λ h. absurd (never h)) (λ h.
    each OpFits 0xB7 op h (λ h. absurd (never h)) (λ h.
    each OpFits 0xB8 op h (λ h. absurd (never h)) (λ h.
    each OpFits 0xB9 op h (λ h. absurd (never h)) (λ h.
    each OpFits 0xBA op h (λ h. absurd (never h)) (λ h.
    each OpFits 0xBB op h (λ h. absurd (never h)) (λ h.
    each OpFits 0xBC op h (λ h. absurd (never h)) (λ h.
    each OpFits 0xBD op h (λ h. absurd (never h)) (λ h.
    each OpFits 0xBE op h (λ h. absurd (never h)) (λ h.
    each OpFits 0xBF op h (λ h. absurd (never h)) (λ h.
    each OpFits 0xC0 op h (λ _. (refl, on_32 0xC0 types.I32 (λ x. refl))) (λ h.
    each OpFits 0xC1 op h (λ _. (refl, on_32 0xC1 types.I32 (λ x. refl))) (λ h.
    each OpFits 0xC2 op h (λ _. (refl, on_64 0xC2 types.I64 (λ x. refl))) (λ h.
    each OpFits 0xC3 op h (λ _. (refl, on_64 0xC3 types.I64 (λ x. refl))) (λ h.
    each OpFits 0xC4 op h (λ _. (refl, on_64 0xC4 types.I64 (λ x. refl))) (λ h.
    rest h))))))))))))))))

past_all : (op : ℕ) → 0xC5 ≤ op → OpFits op
past_all op h =
    let none : operator_of op ≡ None = search (rules, tests) in
    subst (λ (o : Option Operator). FitsOf op o) (sym none) tt

below_all : (op : ℕ) → op < 0x45 → OpFits op
below_all op h =
    let none : operator_of op ≡ None = search (rules, tests) in
    subst (λ (o : Option Operator). FitsOf op o) (sym none) tt

-- an operator gives what typing says that it gives
pub operator_fits : (op : ℕ) → FitsOf op (operator_of op)
operator_fits op = by_case (nat_lt op 0x45) refl
  where
    by_case : (b : Bool) → nat_lt op 0x45 ≡ b → OpFits op
    by_case true e = below_all op (ltb-true op 0x45 e)
    by_case false e =
        let h : 0x45 ≤ op = ltb-false op 0x45 e in
        from_45 op h (λ h. from_55 op h (λ h. from_65 op h (λ h. from_75 op h (λ h. from_85 op h (λ h. from_95 op h (λ h. from_A5 op h (λ h. from_B5 op h (λ h. past_all op h))))))))

-- ---- loads and stores

-- the load reads some bytes, and makes an operand of this type from them
pub record LoadFits (op : ℕ) (k : ValType) : Type 0 where
  pub width : ℕ
  pub reads : load_width op ≡ Some width
  pub value : ℕ → Value
  pub makes : (n : ℕ) → load_value op n ≡ Some (value n)
  pub value_type : (n : ℕ) → type_of_value (value n) ≡ k

-- the store writes some bytes of an operand of this type
pub record StoreFits (op : ℕ) (k : ValType) : Type 0 where
  pub width : (v : Value) → type_of_value v ≡ k → ℕ
  pub writes : (v : Value) (e : type_of_value v ≡ k) → store_width op v ≡ Some (width v e)

abbrev pub LoadFitsOf : ℕ → Option Access → Type 0
LoadFitsOf op None = Unit {0}
LoadFitsOf op (Some a) = is_float_access (Some a) ≡ false → LoadFits op a.moved

abbrev pub StoreFitsOf : ℕ → Option Access → Type 0
StoreFitsOf op None = Unit {0}
StoreFitsOf op (Some a) = is_float_access (Some a) ≡ false → StoreFits op a.moved

-- operands of a type that is none of floats
record OperandFits (k : ValType) (bits : ℕ → Width → ℕ) : Type 0 where
  value : ℕ → Value
  makes : (n : ℕ) → operand_of k (bits n) ≡ Some (value n)
  value_type : (n : ℕ) → type_of_value (value n) ≡ k

operand_fits : (k : ValType) (bits : ℕ → Width → ℕ) → is_float k ≡ false → OperandFits k bits
operand_fits types.I32 bits e = record { value = λ n. I32 (bits n w32); makes = λ n. refl; value_type = λ n. refl }
operand_fits types.I64 bits e = record { value = λ n. I64 (bits n w64); makes = λ n. refl; value_type = λ n. refl }
operand_fits types.F32 bits e = absurd (never e)
operand_fits types.F64 bits e = absurd (never e)

-- a load makes an operand of the type that typing says
pub load_fits : (op : ℕ) → LoadFitsOf op (load_access op)
unfolding load_width load_value
load_fits op = by_access (load_access op) refl
  where
    by_access : (o : Option Access) → load_access op ≡ o → LoadFitsOf op o
    by_access None e = tt
    by_access (Some a) e =
        λ no_float. let operand = operand_fits a.moved (widened_load op a.exponent) no_float in record {
          width = 2 ^ a.exponent;
          reads = ap (option_and_then loaded_width) e ∙ ap (λ b. if b then None else Some (2 ^ a.exponent)) no_float;
          value = operand.value;
          makes = λ n. ap (option_and_then (loaded_value op n)) e ∙ operand.makes n;
          value_type = operand.value_type;
        }

same_itself : (k : ValType) → is_same k k ≡ true
same_itself types.I32 = refl
same_itself types.I64 = refl
same_itself types.F32 = refl
same_itself types.F64 = refl

-- a store writes an operand of the type that typing says
pub store_fits : (op : ℕ) → StoreFitsOf op (store_access op)
unfolding store_width
store_fits op = by_access (store_access op) refl
  where
    by_access : (o : Option Access) → store_access op ≡ o → StoreFitsOf op o
    by_access None e = tt
    by_access (Some a) e = λ _. record {
      width = λ v k. 2 ^ a.exponent;
      writes =
          λ v k. ap (option_and_then (stored_width (type_of_value v))) e
          ∙ ap (λ j. if is_same j a.moved then Some (2 ^ a.exponent) else None) k
          ∙ ap (λ b. if b then Some (2 ^ a.exponent) else None) (same_itself a.moved);
    }
