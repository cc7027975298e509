-- Reading instructions and expressions gives what their spellings say.
use Rattle.std.proofs.Common.{◌≡◌, ℕ, zero, suc, ◌+◌, ◌<◌, ◌≤◌, true, false, eqb, leb, ◌&&◌, ◌⊎◌, inl, inr, List, [], ◌∷◌, ◌++◌, length, Option, Some, refl, sym, ap, ◌∙◌, subst, append_assoc, arith, length-append}
use Rattle.std.proofs.lemmas.Bool.{eqb-true, eqb-false, leb-true, le-leb, lt-leb, ne_eqb, and_parts, or_cases}
use Rattle.fri_bytes.specs.Laws.{ExactReaders}
use Rattle.fri_bytes.specs.Reading.{Reads, BeginsSpelling}
use Rattle.wasm_types.specs.declared.code.ValType.{ValType}
use Rattle.wasm_types.specs.Code.{Tree, Trees, Unreachable, Nop, Block, Loop, If, Br, BrIf, BrTable, Return, CallFunc, CallIndirect, DropTop, Select, LocalGet, LocalSet, LocalTee, GlobalGet, GlobalSet, Load, Store, MemorySize, MemoryGrow, ConstI32, ConstI64, ConstF32, ConstF64, Op, End, Then}
use Rattle.wasm_decode.specs.Grammar.{IsU32, IsI32, IsI64, IsF32, IsF64, IsVector, IsResultType, IsMemArg, IsInstr, IsInstrs, NestsWithin, AllNestWithin, IsExpression}
use Rattle.wasm_decode.specs.Values.{u32_at, i32_at, i64_at, f32_at, f64_at, exact_byte_at, vector_at, result_type_at}
use Rattle.wasm_decode.specs.Instrs.{EndedInstructions, whole_at, block_at, if_at, zero_at, br_table_at, indirect_at, access_at, control_at, variable_instr_at, memory_at, numeric_at, plain_at, instr_at, is_end_opcode, sequence_at, levels_at, expression_at}
use Rattle.wasm_decode.proofs.ReaderSteps.{chosen, bind_some, some_is, guard_some, joined, byte_takes}
use Rattle.wasm_decode.proofs.ComposedReaders.{Behind, two_read, tag_takes, case_takes, last_takes, alone_takes, one_takes, all_takes}
use Rattle.wasm_decode.proofs.ValueLemmas.{u32_reads, i32_reads, i64_reads, f32_reads, f64_reads, vector_reads, result_type_reads}

-- instructions and the byte that ends them, which nest within less levels than n
pub record IsLevel (n : ℕ) (bytes : List ℕ) (x : EndedInstructions) : Type 0 where
  pub less : ℕ
  pub inside : List ℕ
  pub level : n ≡ less + 1
  pub parts : bytes ≡ inside ++ x.1 ∷ []
  pub spelled : IsInstrs inside x.0
  pub nests : AllNestWithin less x.0
  pub ends : (x.1 ≡ 0x0b) ⊎ (x.1 ≡ 0x05)

-- the same where 0B ends them
abbrev pub IsWhole : ℕ → List ℕ → Trees → Type 0
IsWhole n bytes ts = IsLevel n bytes (ts, 0x0b)

pub whole_reads : (n : ℕ) → Reads (IsLevel n) (levels_at n) → Reads (IsWhole n) (whole_at (levels_at n))
unfolding whole_at
whole_reads n laws = record {
  takes = λ bytes ts rest e.
      let b = bind_some _ _ _ e in
      let g = guard_some _ _ _ b.2 in
      let t = laws.takes bytes b.0.0 b.0.1 b.1 in
      let last : b.0.0.1 ≡ 0x0b = eqb-true b.0.0.1 0x0b g.0 in
      let whole : IsWhole n t.0 b.0.0.0 = subst (λ (k : ℕ). IsLevel n t.0 (b.0.0.0, k)) last t.2 in
      subst (λ (y : Trees × List ℕ). BeginsSpelling (IsWhole n) bytes y.0 y.1) g.1 (t.0, t.1, whole);
  again = λ s ts rest h. rw (laws.again s (ts, 0x0b) rest h) refl;
}

-- ---- parts of instructions

-- a block's result and what is inside it
abbrev IsBlock : ℕ → (Option ValType → Trees → Tree) → List ℕ → Tree → Type 0
IsBlock n make s t = (type w : List ℕ) × (result : Option ValType) × (body : Trees) × (s ≡ type ++ w) × IsResultType type result × IsWhole n w body × (t ≡ make result body)

block_reads : (n : ℕ) (make : Option ValType → Trees → Tree) → Reads (IsLevel n) (levels_at n) → Reads (IsBlock n make) (block_at make (levels_at n))
unfolding block_at
block_reads n make laws =
    two_read IsResultType (IsWhole n) (IsBlock n make) result_type_at (whole_at (levels_at n)) make result_type_reads (whole_reads n laws)
    (λ a b x y p q. (a, b, x, y, refl, p, q, refl)) (λ s t h. h)

-- the labels of a `br_table`
abbrev IsTableOfLabels : List ℕ → Tree → Type 0
IsTableOfLabels s t = (vector number labels : List ℕ) × (default : ℕ) × (s ≡ vector ++ number) × IsVector IsU32 vector labels × IsU32 number default × (t ≡ BrTable labels default)

-- the alignment and the offset of a load or a store
abbrev IsAccess : (ℕ → ℕ → Tree) → List ℕ → Tree → Type 0
IsAccess make s t = (a o : List ℕ) × (align offset : ℕ) × (s ≡ a ++ o) × IsU32 a align × IsU32 o offset × (t ≡ make align offset)

-- ---- what is read is spelled so: an instruction after its first byte

-- an instruction in which blocks nest within so many levels
abbrev Nested : ℕ → List ℕ → Tree → Type 0
Nested n s t = IsInstr s t × NestsWithin n t

block_takes : (n opcode : ℕ) (make : Option ValType → Trees → Tree) → Reads (IsLevel n) (levels_at n)
    → ((type inner : List ℕ) (result : Option ValType) (body : Trees) (less : ℕ) → IsResultType type result → IsInstrs inner body → n ≡ less + 1 → AllNestWithin less body → Nested n (opcode ∷ ((type ++ inner) ++ 0x0b ∷ [])) (make result body))
    → (bytes : List ℕ) (t : Tree) (rest : List ℕ) → block_at make (levels_at n) bytes ≡ Some (t, rest) → Behind (Nested n) opcode bytes t rest
block_takes n opcode make laws spells bytes t rest e =
    all_takes (Nested n) opcode bytes t rest (IsBlock n make) (block_at make (levels_at n)) (block_reads n make laws) e (λ s h.
    let type = h.0 in
    let w : IsWhole n h.1 h.3 = h.6 in
    let parts : s ≡ (type ++ w.inside) ++ 0x0b ∷ [] = h.4 ∙ ap (λ (r : List ℕ). type ++ r) w.parts ∙ sym (append_assoc type w.inside (0x0b ∷ [])) in
    let made = spells type w.inside h.2 h.3 w.less h.5 w.spelled w.level w.nests in
    subst (λ (u : Tree). Nested n (opcode ∷ s) u) (sym h.7) (subst (λ (r : List ℕ). Nested n (opcode ∷ r) (make h.2 h.3)) (sym parts) made))

if_takes : (n : ℕ) → Reads (IsLevel n) (levels_at n) → (bytes : List ℕ) (t : Tree) (rest : List ℕ) → if_at (levels_at n) bytes ≡ Some (t, rest) → Behind (Nested n) 0x04 bytes t rest
unfolding if_at
if_takes n laws bytes t rest e =
    let a = bind_some _ _ _ e in
    let b = bind_some _ _ _ a.2 in
    let type = result_type_reads.takes bytes a.0.0 a.0.1 a.1 in
    let first = laws.takes a.0.1 b.0.0 b.0.1 b.1 in
    let w : IsLevel n first.0 b.0.0 = first.2 in
    elim (chosen (eqb b.0.0.1 0x0b) _ _ _ b.2) [
      | inl p ↦
          let last : b.0.0.1 ≡ 0x0b = eqb-true b.0.0.1 0x0b p.0 in
          let made : Tree × List ℕ = (If a.0.0 b.0.0.0 End, b.0.1) in
          let inner : first.0 ≡ w.inside ++ 0x0b ∷ [] = subst (λ (k : ℕ). first.0 ≡ w.inside ++ k ∷ []) last w.parts in
          let parts : ◌≡◌ {A = List ℕ} (0x04 ∷ (type.0 ++ first.0)) (0x04 ∷ (((type.0 ++ w.inside) ++ []) ++ 0x0b ∷ [])) = ap (λ (r : List ℕ). 0x04 ∷ r) (ap (λ (r : List ℕ). type.0 ++ r) inner ∙ simp append_assoc) in
          subst (λ (y : Tree × List ℕ). Behind (Nested n) 0x04 bytes y.0 y.1) (some_is made (t, rest) p.1)
          (type.0 ++ first.0, joined bytes type.0 a.0.1 first.0 b.0.1 type.1 first.1, ((type.0, w.inside, [], parts, type.2, w.spelled, inl (refl, refl)), (w.less, w.level, w.nests, tt)))
      | inr p ↦
          let c = bind_some _ _ _ p.1 in
          let second = (whole_reads n laws).takes b.0.1 c.0.0 c.0.1 c.1 in
          let v : IsWhole n second.0 c.0.0 = second.2 in
          let middle : b.0.0.1 ≡ 0x05 = elim w.ends [ inl is ↦ absurd (eqb-false b.0.0.1 0x0b p.0 is) | inr is ↦ is ] in
          let made : Tree × List ℕ = (If a.0.0 b.0.0.0 c.0.0, c.0.1) in
          let inner : first.0 ≡ w.inside ++ 0x05 ∷ [] = subst (λ (k : ℕ). first.0 ≡ w.inside ++ k ∷ []) middle w.parts in
          let both : first.0 ++ second.0 ≡ (w.inside ++ 0x05 ∷ []) ++ (v.inside ++ 0x0b ∷ []) = ap (λ (r : List ℕ). r ++ second.0) inner ∙ ap (λ (r : List ℕ). (w.inside ++ 0x05 ∷ []) ++ r) v.parts in
          let parts : ◌≡◌ {A = List ℕ} (0x04 ∷ (type.0 ++ (first.0 ++ second.0))) (0x04 ∷ (((type.0 ++ w.inside) ++ (0x05 ∷ v.inside)) ++ 0x0b ∷ [])) = ap (λ (r : List ℕ). 0x04 ∷ r) (ap (λ (r : List ℕ). type.0 ++ r) both ∙ simp append_assoc) in
          let same : v.less ≡ w.less = omega (arith, v.level, w.level) in
          subst (λ (y : Tree × List ℕ). Behind (Nested n) 0x04 bytes y.0 y.1) (some_is made (t, rest) c.2) (
            type.0 ++ (first.0 ++ second.0),
            joined bytes type.0 a.0.1 (first.0 ++ second.0) c.0.1 type.1 (joined a.0.1 first.0 b.0.1 second.0 c.0.1 first.1 second.1),
            ((type.0, w.inside, 0x05 ∷ v.inside, parts, type.2, w.spelled, inr (v.inside, refl, v.spelled)), (w.less, w.level, w.nests, subst (λ (k : ℕ). AllNestWithin k c.0.0) same v.nests)),
          )
    ]

zero_takes : (n opcode : ℕ) (tree : Tree) → Nested n (opcode ∷ 0x00 ∷ []) tree → (bytes : List ℕ) (t : Tree) (rest : List ℕ) → zero_at tree bytes ≡ Some (t, rest) → Behind (Nested n) opcode bytes t rest
unfolding zero_at
zero_takes n opcode tree spelled bytes t rest e =
    let a = bind_some _ _ _ e in
    subst (λ (y : Tree × List ℕ). Behind (Nested n) opcode bytes y.0 y.1) (some_is (tree, a.0) (t, rest) a.2) (0x00 ∷ [], tag_takes 0x00 bytes a.0 a.1, spelled)

-- ---- what is spelled is read

-- an instruction's first byte, and that it is read after it
record Again (n : ℕ) (s : List ℕ) (t : Tree) : Type 0 where
  opcode : ℕ
  behind : List ℕ
  parts : s ≡ opcode ∷ behind
  goes_on : is_end_opcode opcode ≡ false
  read : (rest : List ℕ) → instr_at (levels_at n) opcode (behind ++ rest) ≡ Some (t, rest)

if_again_one : (n : ℕ) → Reads (IsLevel n) (levels_at n) → (type w : List ℕ) (result : Option ValType) (body : Trees) (rest : List ℕ) → IsResultType type result → IsWhole n w body → if_at (levels_at n) ((type ++ w) ++ rest) ≡ Some (If result body End, rest)
unfolding if_at
if_again_one n laws type w result body rest spelled whole =
    ap (if_at (levels_at n)) (append_assoc type w rest) ∙ rw (result_type_reads.again type result (w ++ rest) spelled, laws.again w (body, 0x0b) rest whole) refl

if_again_two : (n : ℕ) → Reads (IsLevel n) (levels_at n) → (type w v : List ℕ) (result : Option ValType) (a b : Trees) (rest : List ℕ) → IsResultType type result → IsLevel n w (a, 0x05) → IsWhole n v b → if_at (levels_at n) ((type ++ (w ++ v)) ++ rest) ≡ Some (If result a b, rest)
unfolding if_at
if_again_two n laws type w v result a b rest spelled first second =
    let regrouped : (type ++ (w ++ v)) ++ rest ≡ type ++ (w ++ (v ++ rest)) = simp append_assoc in
    ap (if_at (levels_at n)) regrouped ∙ rw (result_type_reads.again type result (w ++ (v ++ rest)) spelled, laws.again w (a, 0x05) (v ++ rest) first, (whole_reads n laws).again v b rest second) refl

-- opcodes from 12 on are read by those of instructions with none inside them
goes_on_from : (opcode : ℕ) → 0x12 ≤ opcode → is_end_opcode opcode ≡ false
goes_on_from opcode low =
    let not_end : eqb opcode 0x0b ≡ false = ne_eqb opcode 0x0b (λ is. omega (arith, low)) in
    let not_else : eqb opcode 0x05 ≡ false = ne_eqb opcode 0x05 (λ is. omega (arith, low)) in
    rw (not_end, not_else) refl

instr_is_plain : (n opcode : ℕ) (bytes : List ℕ) → 0x12 ≤ opcode → instr_at (levels_at n) opcode bytes ≡ plain_at opcode bytes
unfolding instr_at
instr_is_plain n opcode bytes low =
    let not2 : eqb opcode 0x02 ≡ false = ne_eqb opcode 0x02 (λ is. omega (arith, low)) in
    let not3 : eqb opcode 0x03 ≡ false = ne_eqb opcode 0x03 (λ is. omega (arith, low)) in
    let not4 : eqb opcode 0x04 ≡ false = ne_eqb opcode 0x04 (λ is. omega (arith, low)) in
    rw (not2, not3, not4) refl

memory_is_plain : (opcode : ℕ) (bytes : List ℕ) → 0x28 ≤ opcode → opcode ≤ 0x3e → plain_at opcode bytes ≡ memory_at opcode bytes
unfolding plain_at
memory_is_plain opcode bytes low high =
    let no_control : leb opcode 0x11 ≡ false = lt-leb opcode 0x11 (omega (arith, low)) in
    let no_variable : leb opcode 0x24 ≡ false = lt-leb opcode 0x24 (omega (arith, low)) in
    let memory : leb opcode 0x40 ≡ true = le-leb opcode 0x40 (omega (arith, high)) in
    rw (no_control, no_variable, memory) refl

op_again : (n opcode : ℕ) (rest : List ℕ) → 0x45 ≤ opcode → opcode ≤ 0xc4 → instr_at (levels_at n) opcode rest ≡ Some (Op opcode, rest)
unfolding plain_at numeric_at
op_again n opcode rest low high =
    let no_control : leb opcode 0x11 ≡ false = lt-leb opcode 0x11 (omega (arith, low)) in
    let no_variable : leb opcode 0x24 ≡ false = lt-leb opcode 0x24 (omega (arith, low)) in
    let no_memory : leb opcode 0x40 ≡ false = lt-leb opcode 0x40 (omega (arith, low)) in
    let not41 : eqb opcode 0x41 ≡ false = ne_eqb opcode 0x41 (λ is. omega (arith, low)) in
    let not42 : eqb opcode 0x42 ≡ false = ne_eqb opcode 0x42 (λ is. omega (arith, low)) in
    let not43 : eqb opcode 0x43 ≡ false = ne_eqb opcode 0x43 (λ is. omega (arith, low)) in
    let not44 : eqb opcode 0x44 ≡ false = ne_eqb opcode 0x44 (λ is. omega (arith, low)) in
    let from : leb 0x45 opcode ≡ true = le-leb 0x45 opcode low in
    let to : leb opcode 0xc4 ≡ true = le-leb opcode 0xc4 high in
    instr_is_plain n opcode rest (omega (arith, low)) ∙ rw (no_control, no_variable, no_memory, not41, not42, not43, not44, from, to) refl

-- ---- instructions one after the other

ends_from : (b : ℕ) → is_end_opcode b ≡ true → (b ≡ 0x0b) ⊎ (b ≡ 0x05)
ends_from b e =
    elim (or_cases (eqb b 0x0b) (eqb b 0x05) e) [
      | inl p ↦ inl (eqb-true b 0x0b p)
      | inr p ↦ inr (eqb-true b 0x05 p)
    ]

is_end_from : (b : ℕ) → (b ≡ 0x0b) ⊎ (b ≡ 0x05) → is_end_opcode b ≡ true
is_end_from b (inl e) = rw e refl
is_end_from b (inr e) = rw e refl

-- what a sequence is, before its level is known
abbrev Sequence : ℕ → List ℕ → EndedInstructions → List ℕ → Type 0
Sequence less bytes x rest = (inside : List ℕ) × (bytes ≡ (inside ++ x.1 ∷ []) ++ rest) × IsInstrs inside x.0 × AllNestWithin less x.0 × ((x.1 ≡ 0x0b) ⊎ (x.1 ≡ 0x05))

regrouped_four : (a b c d : List ℕ) → ((a ++ b) ++ c) ++ d ≡ a ++ ((b ++ c) ++ d)
regrouped_four a b c d = ap (λ (r : List ℕ). r ++ d) (append_assoc a b c) ∙ append_assoc a (b ++ c) d

module _ (readers : ExactReaders) where
  br_table_reads : Reads IsTableOfLabels br_table_at
  unfolding br_table_at
  br_table_reads =
      two_read (IsVector IsU32) IsU32 IsTableOfLabels (vector_at u32_at) u32_at BrTable (vector_reads readers IsU32 u32_at (u32_reads readers)) (u32_reads readers)
      (λ a b x y p q. (a, b, x, y, refl, p, q, refl)) (λ s t h. h)

  access_reads : (make : ℕ → ℕ → Tree) → Reads (IsAccess make) (access_at make)
  unfolding access_at
  access_reads make =
      two_read IsU32 IsU32 (IsAccess make) u32_at u32_at make (u32_reads readers) (u32_reads readers)
      (λ a b x y p q. (a, b, x, y, refl, p, q, refl)) (λ s t h. h)

  indirect_takes : (n : ℕ) (bytes : List ℕ) (t : Tree) (rest : List ℕ) → indirect_at bytes ≡ Some (t, rest) → Behind (Nested n) 0x11 bytes t rest
  unfolding indirect_at zero_at
  indirect_takes n bytes t rest e =
      let a = bind_some _ _ _ e in
      let b = bind_some _ _ _ a.2 in
      let type = (u32_reads readers).takes bytes a.0.0 a.0.1 a.1 in
      let last = tag_takes 0x00 a.0.1 b.0 b.1 in
      subst (λ (y : Tree × List ℕ). Behind (Nested n) 0x11 bytes y.0 y.1) (some_is (CallIndirect a.0.0, b.0) (t, rest) b.2)
      (type.0 ++ 0x00 ∷ [], joined bytes type.0 a.0.1 (0x00 ∷ []) b.0 type.1 last, ((type.0, refl, type.2), tt))

  control_takes : (n opcode : ℕ) (bytes : List ℕ) (t : Tree) (rest : List ℕ) → control_at opcode bytes ≡ Some (t, rest) → Behind (Nested n) opcode bytes t rest
  unfolding control_at
  control_takes n opcode bytes t rest e =
      let R = Nested n in
      case_takes R 0x00 opcode bytes t rest _ _ e (λ here. alone_takes R 0x00 bytes t rest Unreachable here (refl, tt)) (λ e1.
      case_takes R 0x01 opcode bytes t rest _ _ e1 (λ here. alone_takes R 0x01 bytes t rest Nop here (refl, tt)) (λ e2.
      case_takes R 0x0c opcode bytes t rest _ _ e2 (λ here. one_takes R 0x0c bytes t rest IsU32 u32_at Br (u32_reads readers) here (λ s k h. ((s, refl, h), tt))) (λ e3.
      case_takes R 0x0d opcode bytes t rest _ _ e3 (λ here. one_takes R 0x0d bytes t rest IsU32 u32_at BrIf (u32_reads readers) here (λ s k h. ((s, refl, h), tt))) (λ e4.
      case_takes R 0x0e opcode bytes t rest _ _ e4 (λ here. all_takes R 0x0e bytes t rest IsTableOfLabels br_table_at br_table_reads here (λ s h.
      subst (R (0x0e ∷ s)) (sym h.7) ((h.0, h.1, ap (λ (r : List ℕ). 0x0e ∷ r) h.4, h.5, h.6), tt))) (λ e5.
      case_takes R 0x0f opcode bytes t rest _ _ e5 (λ here. alone_takes R 0x0f bytes t rest Return here (refl, tt)) (λ e6.
      case_takes R 0x10 opcode bytes t rest _ _ e6 (λ here. one_takes R 0x10 bytes t rest IsU32 u32_at CallFunc (u32_reads readers) here (λ s k h. ((s, refl, h), tt))) (λ e7.
      last_takes R 0x11 opcode bytes t rest _ e7 (λ here. indirect_takes n bytes t rest here))))))))

  variable_takes : (n opcode : ℕ) (bytes : List ℕ) (t : Tree) (rest : List ℕ) → variable_instr_at opcode bytes ≡ Some (t, rest) → Behind (Nested n) opcode bytes t rest
  unfolding variable_instr_at
  variable_takes n opcode bytes t rest e =
      let R = Nested n in
      case_takes R 0x1a opcode bytes t rest _ _ e (λ here. alone_takes R 0x1a bytes t rest DropTop here (refl, tt)) (λ e1.
      case_takes R 0x1b opcode bytes t rest _ _ e1 (λ here. alone_takes R 0x1b bytes t rest Select here (refl, tt)) (λ e2.
      case_takes R 0x20 opcode bytes t rest _ _ e2 (λ here. one_takes R 0x20 bytes t rest IsU32 u32_at LocalGet (u32_reads readers) here (λ s k h. ((s, refl, h), tt))) (λ e3.
      case_takes R 0x21 opcode bytes t rest _ _ e3 (λ here. one_takes R 0x21 bytes t rest IsU32 u32_at LocalSet (u32_reads readers) here (λ s k h. ((s, refl, h), tt))) (λ e4.
      case_takes R 0x22 opcode bytes t rest _ _ e4 (λ here. one_takes R 0x22 bytes t rest IsU32 u32_at LocalTee (u32_reads readers) here (λ s k h. ((s, refl, h), tt))) (λ e5.
      case_takes R 0x23 opcode bytes t rest _ _ e5 (λ here. one_takes R 0x23 bytes t rest IsU32 u32_at GlobalGet (u32_reads readers) here (λ s k h. ((s, refl, h), tt))) (λ e6.
      last_takes R 0x24 opcode bytes t rest _ e6 (λ here. one_takes R 0x24 bytes t rest IsU32 u32_at GlobalSet (u32_reads readers) here (λ s k h. ((s, refl, h), tt)))))))))

  memory_takes : (n opcode : ℕ) (bytes : List ℕ) (t : Tree) (rest : List ℕ) → memory_at opcode bytes ≡ Some (t, rest) → Behind (Nested n) opcode bytes t rest
  unfolding memory_at
  memory_takes n opcode bytes t rest e =
      let R = Nested n in
      elim (chosen (leb 0x28 opcode && leb opcode 0x35) _ _ _ e) [
        | inl p ↦
            let ends = and_parts (leb 0x28 opcode) (leb opcode 0x35) p.0 in
            all_takes R opcode bytes t rest (IsAccess (Load opcode)) (access_at (Load opcode)) (access_reads (Load opcode)) p.1 (λ s h.
            subst (R (opcode ∷ s)) (sym h.7) ((s, refl, leb-true 0x28 opcode ends.0, leb-true opcode 0x35 ends.1, (h.0, h.1, h.4, h.5, h.6)), tt))
        | inr e1 ↦ elim (chosen (leb 0x36 opcode && leb opcode 0x3e) _ _ _ e1.1) [
          | inl p ↦
              let ends = and_parts (leb 0x36 opcode) (leb opcode 0x3e) p.0 in
              all_takes R opcode bytes t rest (IsAccess (Store opcode)) (access_at (Store opcode)) (access_reads (Store opcode)) p.1 (λ s h.
              subst (R (opcode ∷ s)) (sym h.7) ((s, refl, leb-true 0x36 opcode ends.0, leb-true opcode 0x3e ends.1, (h.0, h.1, h.4, h.5, h.6)), tt))
          | inr e2 ↦
              case_takes R 0x3f opcode bytes t rest _ _ e2.1 (λ here. zero_takes n 0x3f MemorySize (refl, tt) bytes t rest here) (λ e3.
              last_takes R 0x40 opcode bytes t rest _ e3 (λ here. zero_takes n 0x40 MemoryGrow (refl, tt) bytes t rest here))
        ]
      ]

  numeric_takes : (n opcode : ℕ) (bytes : List ℕ) (t : Tree) (rest : List ℕ) → numeric_at opcode bytes ≡ Some (t, rest) → Behind (Nested n) opcode bytes t rest
  unfolding numeric_at
  numeric_takes n opcode bytes t rest e =
      let R = Nested n in
      case_takes R 0x41 opcode bytes t rest _ _ e (λ here. one_takes R 0x41 bytes t rest IsI32 i32_at ConstI32 (i32_reads readers) here (λ s k h. ((s, refl, h), tt))) (λ e1.
      case_takes R 0x42 opcode bytes t rest _ _ e1 (λ here. one_takes R 0x42 bytes t rest IsI64 i64_at ConstI64 (i64_reads readers) here (λ s k h. ((s, refl, h), tt))) (λ e2.
      case_takes R 0x43 opcode bytes t rest _ _ e2 (λ here. one_takes R 0x43 bytes t rest IsF32 f32_at ConstF32 (f32_reads readers) here (λ s k h. ((s, refl, h), tt))) (λ e3.
      case_takes R 0x44 opcode bytes t rest _ _ e3 (λ here. one_takes R 0x44 bytes t rest IsF64 f64_at ConstF64 (f64_reads readers) here (λ s k h. ((s, refl, h), tt))) (λ e4.
      let g = guard_some (leb 0x45 opcode && leb opcode 0xc4) (Op opcode, bytes) (t, rest) e4 in
      let ends = and_parts (leb 0x45 opcode) (leb opcode 0xc4) g.0 in
      subst (λ (y : Tree × List ℕ). Behind R opcode bytes y.0 y.1) g.1 ([], refl, ((refl, leb-true 0x45 opcode ends.0, leb-true opcode 0xc4 ends.1), tt))))))

  plain_takes : (n opcode : ℕ) (bytes : List ℕ) (t : Tree) (rest : List ℕ) → plain_at opcode bytes ≡ Some (t, rest) → Behind (Nested n) opcode bytes t rest
  unfolding plain_at
  plain_takes n opcode bytes t rest e =
      elim (chosen (leb opcode 0x11) _ _ _ e) [
        | inl p ↦ control_takes n opcode bytes t rest p.1
        | inr e1 ↦ elim (chosen (leb opcode 0x24) _ _ _ e1.1) [
          | inl p ↦ variable_takes n opcode bytes t rest p.1
          | inr e2 ↦ elim (chosen (leb opcode 0x40) _ _ _ e2.1) [
            | inl p ↦ memory_takes n opcode bytes t rest p.1
            | inr p ↦ numeric_takes n opcode bytes t rest p.1
          ]
        ]
      ]

  pub instr_takes : (n : ℕ) → Reads (IsLevel n) (levels_at n) → (opcode : ℕ) (bytes : List ℕ) (t : Tree) (rest : List ℕ) → instr_at (levels_at n) opcode bytes ≡ Some (t, rest) → Behind (Nested n) opcode bytes t rest
  unfolding instr_at
  instr_takes n laws opcode bytes t rest e =
      let R = Nested n in
      case_takes R 0x02 opcode bytes t rest _ _ e (λ here. block_takes n 0x02 Block laws (λ type inner result body less ht hi level nests. ((type, inner, refl, ht, hi), (less, level, nests))) bytes t rest here) (λ e1.
      case_takes R 0x03 opcode bytes t rest _ _ e1 (λ here. block_takes n 0x03 Loop laws (λ type inner result body less ht hi level nests. ((type, inner, refl, ht, hi), (less, level, nests))) bytes t rest here) (λ e2.
      case_takes R 0x04 opcode bytes t rest _ _ e2 (λ here. if_takes n laws bytes t rest here) (λ e3. plain_takes n opcode bytes t rest e3)))

  indirect_again : (number : List ℕ) (type : ℕ) (rest : List ℕ) → IsU32 number type → indirect_at ((number ++ 0x00 ∷ []) ++ rest) ≡ Some (CallIndirect type, rest)
  unfolding indirect_at zero_at exact_byte_at
  indirect_again number type rest h = ap indirect_at (append_assoc number (0x00 ∷ []) rest) ∙ rw ((u32_reads readers).again number type (0x00 ∷ rest) h) refl

  access_again : (make : ℕ → ℕ → Tree) (s : List ℕ) (align offset : ℕ) (rest : List ℕ) → IsMemArg s align offset → access_at make (s ++ rest) ≡ Some (make align offset, rest)
  access_again make s align offset rest h = (access_reads make).again s (make align offset) rest (h.0, h.1, align, offset, h.2, h.3, h.4, refl)

  load_again : (n opcode align offset : ℕ) (s rest : List ℕ) → 0x28 ≤ opcode → opcode ≤ 0x35 → IsMemArg s align offset → instr_at (levels_at n) opcode (s ++ rest) ≡ Some (Load opcode align offset, rest)
  unfolding memory_at
  load_again n opcode align offset s rest low high h =
      let from : leb 0x28 opcode ≡ true = le-leb 0x28 opcode low in
      let to : leb opcode 0x35 ≡ true = le-leb opcode 0x35 high in
      instr_is_plain n opcode (s ++ rest) (omega (arith, low)) ∙ memory_is_plain opcode (s ++ rest) low (omega (arith, high))
      ∙ rw (from, to) (access_again (Load opcode) s align offset rest h)

  store_again : (n opcode align offset : ℕ) (s rest : List ℕ) → 0x36 ≤ opcode → opcode ≤ 0x3e → IsMemArg s align offset → instr_at (levels_at n) opcode (s ++ rest) ≡ Some (Store opcode align offset, rest)
  unfolding memory_at
  store_again n opcode align offset s rest low high h =
      let no_load : leb opcode 0x35 ≡ false = lt-leb opcode 0x35 (omega (arith, low)) in
      let behind_load : leb 0x28 opcode ≡ true = le-leb 0x28 opcode (omega (arith, low)) in
      let from : leb 0x36 opcode ≡ true = le-leb 0x36 opcode low in
      let to : leb opcode 0x3e ≡ true = le-leb opcode 0x3e high in
      instr_is_plain n opcode (s ++ rest) (omega (arith, low)) ∙ memory_is_plain opcode (s ++ rest) (omega (arith, low)) high
      ∙ rw (behind_load, no_load, from, to) (access_again (Store opcode) s align offset rest h)

  instr_again : (n : ℕ) → Reads (IsLevel n) (levels_at n) → (s : List ℕ) (t : Tree) → IsInstr s t → NestsWithin n t → Again n s t
  unfolding instr_at plain_at control_at variable_instr_at memory_at numeric_at zero_at exact_byte_at
  instr_again n laws s (Load opcode align offset) h nests =
      record { opcode = opcode; behind = h.0; parts = h.1; goes_on = goes_on_from opcode (omega (arith, h.2)); read = λ rest. load_again n opcode align offset h.0 rest h.2 h.3 h.4 }
  instr_again n laws s (Store opcode align offset) h nests =
      record { opcode = opcode; behind = h.0; parts = h.1; goes_on = goes_on_from opcode (omega (arith, h.2)); read = λ rest. store_again n opcode align offset h.0 rest h.2 h.3 h.4 }
  instr_again n laws s (Op opcode) h nests =
      record { opcode = opcode; behind = []; parts = h.0; goes_on = goes_on_from opcode (omega (arith, h.1)); read = λ rest. op_again n opcode rest h.1 h.2 }
  instr_again n laws s Unreachable h nests = record { opcode = 0x00; behind = []; parts = h; goes_on = refl; read = λ rest. refl }
  instr_again n laws s Nop h nests = record { opcode = 0x01; behind = []; parts = h; goes_on = refl; read = λ rest. refl }
  instr_again n laws s (Block result body) h nests =
      let w = h.1 ++ 0x0b ∷ [] in
      let whole : IsWhole n w body = record { less = nests.0; inside = h.1; level = nests.1; parts = refl; spelled = h.4; nests = nests.2; ends = inl refl } in
      record {
        opcode = 0x02;
        behind = h.0 ++ w;
        parts = h.2 ∙ ap (λ (r : List ℕ). 0x02 ∷ r) (append_assoc h.0 h.1 (0x0b ∷ []));
        goes_on = refl;
        read = λ rest. (block_reads n Block laws).again (h.0 ++ w) (Block result body) rest (h.0, w, result, body, refl, h.3, whole, refl);
      }
  instr_again n laws s (Loop result body) h nests =
      let w = h.1 ++ 0x0b ∷ [] in
      let whole : IsWhole n w body = record { less = nests.0; inside = h.1; level = nests.1; parts = refl; spelled = h.4; nests = nests.2; ends = inl refl } in
      record {
        opcode = 0x03;
        behind = h.0 ++ w;
        parts = h.2 ∙ ap (λ (r : List ℕ). 0x03 ∷ r) (append_assoc h.0 h.1 (0x0b ∷ []));
        goes_on = refl;
        read = λ rest. (block_reads n Loop laws).again (h.0 ++ w) (Loop result body) rest (h.0, w, result, body, refl, h.3, whole, refl);
      }
  instr_again n laws s (If result a b) h nests =
      let type = h.0 in let inner = h.1 in let other = h.2 in
      elim h.6 [
        | inl absent ↦
            let w = inner ++ 0x0b ∷ [] in
            let whole : IsWhole n w a = record { less = nests.0; inside = inner; level = nests.1; parts = refl; spelled = h.5; nests = nests.2; ends = inl refl } in
            let parts : s ≡ 0x04 ∷ (type ++ w) = h.3 ∙ ap (λ (r : List ℕ). 0x04 ∷ (((type ++ inner) ++ r) ++ 0x0b ∷ [])) absent.0 ∙ ap (λ (r : List ℕ). 0x04 ∷ r) (simp append_assoc) in
            record { opcode = 0x04; behind = type ++ w; parts = parts; goes_on = refl; read = λ rest. if_again_one n laws type w result a rest h.4 whole ∙ ap (λ (c : Trees). Some (If result a c, rest)) (sym absent.1) }
        | inr present ↦
            let w = inner ++ 0x05 ∷ [] in let v = present.0 ++ 0x0b ∷ [] in
            let first : IsLevel n w (a, 0x05) = record { less = nests.0; inside = inner; level = nests.1; parts = refl; spelled = h.5; nests = nests.2; ends = inr refl } in
            let second : IsWhole n v b = record { less = nests.0; inside = present.0; level = nests.1; parts = refl; spelled = present.2; nests = nests.3; ends = inl refl } in
            let parts : s ≡ 0x04 ∷ (type ++ (w ++ v)) = h.3 ∙ ap (λ (r : List ℕ). 0x04 ∷ (((type ++ inner) ++ r) ++ 0x0b ∷ [])) present.1 ∙ ap (λ (r : List ℕ). 0x04 ∷ r) (simp append_assoc) in
            record { opcode = 0x04; behind = type ++ (w ++ v); parts = parts; goes_on = refl; read = λ rest. if_again_two n laws type w v result a b rest h.4 first second }
      ]
  instr_again n laws s (Br k) h nests = record { opcode = 0x0c; behind = h.0; parts = h.1; goes_on = refl; read = λ rest. rw ((u32_reads readers).again h.0 k rest h.2) refl }
  instr_again n laws s (BrIf k) h nests = record { opcode = 0x0d; behind = h.0; parts = h.1; goes_on = refl; read = λ rest. rw ((u32_reads readers).again h.0 k rest h.2) refl }
  instr_again n laws s (BrTable labels default) h nests =
      record { opcode = 0x0e; behind = h.0 ++ h.1; parts = h.2; goes_on = refl; read = λ rest. br_table_reads.again (h.0 ++ h.1) (BrTable labels default) rest (h.0, h.1, labels, default, refl, h.3, h.4, refl) }
  instr_again n laws s Return h nests = record { opcode = 0x0f; behind = []; parts = h; goes_on = refl; read = λ rest. refl }
  instr_again n laws s (CallFunc k) h nests = record { opcode = 0x10; behind = h.0; parts = h.1; goes_on = refl; read = λ rest. rw ((u32_reads readers).again h.0 k rest h.2) refl }
  instr_again n laws s (CallIndirect type) h nests = record { opcode = 0x11; behind = h.0 ++ 0x00 ∷ []; parts = h.1; goes_on = refl; read = λ rest. indirect_again h.0 type rest h.2 }
  instr_again n laws s DropTop h nests = record { opcode = 0x1a; behind = []; parts = h; goes_on = refl; read = λ rest. refl }
  instr_again n laws s Select h nests = record { opcode = 0x1b; behind = []; parts = h; goes_on = refl; read = λ rest. refl }
  instr_again n laws s (LocalGet k) h nests = record { opcode = 0x20; behind = h.0; parts = h.1; goes_on = refl; read = λ rest. rw ((u32_reads readers).again h.0 k rest h.2) refl }
  instr_again n laws s (LocalSet k) h nests = record { opcode = 0x21; behind = h.0; parts = h.1; goes_on = refl; read = λ rest. rw ((u32_reads readers).again h.0 k rest h.2) refl }
  instr_again n laws s (LocalTee k) h nests = record { opcode = 0x22; behind = h.0; parts = h.1; goes_on = refl; read = λ rest. rw ((u32_reads readers).again h.0 k rest h.2) refl }
  instr_again n laws s (GlobalGet k) h nests = record { opcode = 0x23; behind = h.0; parts = h.1; goes_on = refl; read = λ rest. rw ((u32_reads readers).again h.0 k rest h.2) refl }
  instr_again n laws s (GlobalSet k) h nests = record { opcode = 0x24; behind = h.0; parts = h.1; goes_on = refl; read = λ rest. rw ((u32_reads readers).again h.0 k rest h.2) refl }
  instr_again n laws s MemorySize h nests = record { opcode = 0x3f; behind = 0x00 ∷ []; parts = h; goes_on = refl; read = λ rest. refl }
  instr_again n laws s MemoryGrow h nests = record { opcode = 0x40; behind = 0x00 ∷ []; parts = h; goes_on = refl; read = λ rest. refl }
  instr_again n laws s (ConstI32 k) h nests = record { opcode = 0x41; behind = h.0; parts = h.1; goes_on = refl; read = λ rest. rw ((i32_reads readers).again h.0 k rest h.2) refl }
  instr_again n laws s (ConstI64 k) h nests = record { opcode = 0x42; behind = h.0; parts = h.1; goes_on = refl; read = λ rest. rw ((i64_reads readers).again h.0 k rest h.2) refl }
  instr_again n laws s (ConstF32 k) h nests = record { opcode = 0x43; behind = h.0; parts = h.1; goes_on = refl; read = λ rest. rw ((f32_reads readers).again h.0 k rest h.2) refl }
  instr_again n laws s (ConstF64 k) h nests = record { opcode = 0x44; behind = h.0; parts = h.1; goes_on = refl; read = λ rest. rw ((f64_reads readers).again h.0 k rest h.2) refl }

  sequence_takes : (n : ℕ) → Reads (IsLevel n) (levels_at n) → (count : ℕ) (bytes : List ℕ) (x : EndedInstructions) (rest : List ℕ) → sequence_at (levels_at n) count bytes ≡ Some (x, rest) → Sequence n bytes x rest
  unfolding sequence_at
  sequence_takes n laws zero bytes x rest e = absurd cc
  sequence_takes n laws (suc count) bytes x rest e =
      let b = bind_some _ _ _ e in
      let front = byte_takes bytes b.0.0 b.0.1 b.1 in
      elim (chosen (is_end_opcode b.0.0) _ _ _ b.2) [
        | inl p ↦
            let made : EndedInstructions × List ℕ = ((End, b.0.0), b.0.1) in
            subst (λ (y : EndedInstructions × List ℕ). Sequence n bytes y.0 y.1) (some_is made (x, rest) p.1) ([], front, refl, tt, ends_from b.0.0 p.0)
        | inr p ↦
            let c = bind_some _ _ _ p.1 in
            let d = bind_some _ _ _ c.2 in
            let one = instr_takes n laws b.0.0 b.0.1 c.0.0 c.0.1 c.1 in
            let more = sequence_takes n laws count c.0.1 d.0.0 d.0.1 d.1 in
            let made : EndedInstructions × List ℕ = ((Then c.0.0 d.0.0.0, d.0.0.1), d.0.1) in
            let head = b.0.0 ∷ one.0 in
            let parts : bytes ≡ ((head ++ more.0) ++ d.0.0.1 ∷ []) ++ d.0.1 =
            front ∙ ap (λ (r : List ℕ). b.0.0 ∷ r) one.1 ∙ ap (λ (r : List ℕ). head ++ r) more.1 ∙ simp append_assoc in
            subst (λ (y : EndedInstructions × List ℕ). Sequence n bytes y.0 y.1) (some_is made (x, rest) d.2)
            (head ++ more.0, parts, (head, more.0, refl, one.2.0, more.2), (one.2.1, more.3), more.4)
      ]

  sequence_again : (n : ℕ) → Reads (IsLevel n) (levels_at n) → (count : ℕ) (inside : List ℕ) (ts : Trees) (e : ℕ) (rest : List ℕ) → length inside < count → IsInstrs inside ts → AllNestWithin n ts → (e ≡ 0x0b) ⊎ (e ≡ 0x05)
      → sequence_at (levels_at n) count ((inside ++ e ∷ []) ++ rest) ≡ Some ((ts, e), rest)
  unfolding sequence_at
  sequence_again n laws zero inside ts e rest room h nests ends = absurd (omega arith)
  sequence_again n laws (suc count) inside End e rest room h nests ends = rw (h, is_end_from e ends) refl
  sequence_again n laws (suc count) inside (Then first others) e rest room (front, back, parts, one, more) nests ends =
      let i = instr_again n laws front first one nests.0 in
      let all : inside ≡ (i.opcode ∷ i.behind) ++ back = parts ∙ ap (λ (r : List ℕ). r ++ back) i.parts in
      let less : length back < count = omega (arith, ap length all, length-append i.behind back) in
      let regrouped : (inside ++ e ∷ []) ++ rest ≡ i.opcode ∷ (i.behind ++ ((back ++ e ∷ []) ++ rest)) = ap (λ (r : List ℕ). (r ++ e ∷ []) ++ rest) all ∙ ap (λ (r : List ℕ). i.opcode ∷ r) (regrouped_four i.behind back (e ∷ []) rest) in
      ap (sequence_at (levels_at n) (suc count)) regrouped ∙ rw (i.goes_on, i.read ((back ++ e ∷ []) ++ rest), sequence_again n laws count back others e rest less more nests.1 ends) refl

  pub levels_read : (n : ℕ) → Reads (IsLevel n) (levels_at n)
  unfolding levels_at
  levels_read zero = record {
    takes = λ bytes x rest e. absurd cc;
    again = λ s x rest h. absurd (omega (arith, h.level));
  }
  levels_read (suc less) = record {
    takes = λ bytes x rest e.
        let s = sequence_takes less (levels_read less) (length bytes) bytes x rest e in
        (s.0 ++ x.1 ∷ [], s.1, record { less = less; inside = s.0; level = omega arith; parts = refl; spelled = s.2; nests = s.3; ends = s.4 });
    again = λ s x rest h.
        let same : h.less ≡ less = omega (arith, h.level) in
        let room : length h.inside < length ((h.inside ++ x.1 ∷ []) ++ rest) = omega (arith, length-append (h.inside ++ x.1 ∷ []) rest, length-append h.inside (x.1 ∷ [])) in
        ap (λ (r : List ℕ). sequence_at (levels_at less) (length (r ++ rest)) (r ++ rest)) h.parts
        ∙ sequence_again less (levels_read less) (length ((h.inside ++ x.1 ∷ []) ++ rest)) h.inside x.0 x.1 rest room h.spelled (subst (λ (k : ℕ). AllNestWithin k x.0) same h.nests) h.ends;
  }

  pub expr_reads : Reads IsExpression expression_at
  unfolding expression_at
  expr_reads = record {
    takes = λ bytes body rest e.
        let b = (whole_reads 1001 (levels_read 1001)).takes bytes body rest e in
        let w : IsWhole 1001 b.0 body = b.2 in
        let same : w.less ≡ 1000 = omega (arith, w.level) in
        (b.0, b.1, (w.inside, w.parts, w.spelled, subst (λ (k : ℕ). AllNestWithin k body) same w.nests));
    again = λ s body rest h.
        (whole_reads 1001 (levels_read 1001)).again s body rest (record { less = 1000; inside = h.0; level = refl; parts = h.1; spelled = h.2; nests = h.3; ends = inl refl });
  }
