-- The binary format of WebAssembly: which bytes spell which value, a case for each production. The numbers
-- beside the productions are the sections of the WebAssembly Core Specification 1.0 (W3C, December 2019).
use Rattle.std.specs.Prelude.{◌≡◌, ℕ, ◌+◌, ◌^◌, ◌<◌, ◌≤◌, ◌⊎◌, ℤ, List, [], ◌∷◌, ◌++◌, length, Bool, true, false, Option, Some, None, sum_by, IsUtf8}
use Rattle.std.specs.Int.{w32, w64, cast_unsigned}
use Rattle.fri_bytes.specs.Leb.{IsUnsigned, IsSigned}
use Rattle.fri_bytes.specs.Reading.{IsLe}
use Rattle.wasm_types.specs.declared.code.ValType.{ValType}
use Rattle.wasm_types.specs.declared.code.ValType.TheVariants.{I32, I64, F32, F64}
use Rattle.wasm_types.specs.declared.modules.Limits.{Limits}
use Rattle.wasm_types.specs.declared.modules.ImportDesc.{ImportDesc}
use Rattle.wasm_types.specs.declared.modules.ImportDesc.TheVariants as imported
use Rattle.wasm_types.specs.declared.modules.ExportDesc.{ExportDesc}
use Rattle.wasm_types.specs.declared.modules.ExportDesc.TheVariants as exported
use Rattle.wasm_types.specs.Code.{Tree, Trees, Unreachable, Nop, Block, Loop, If, Br, BrIf, BrTable, Return, CallFunc, CallIndirect, DropTop, Select, LocalGet, LocalSet, LocalTee, GlobalGet, GlobalSet, Load, Store, MemorySize, MemoryGrow, ConstI32, ConstI64, ConstF32, ConstF64, Op, End, Then}
use Rattle.wasm_types.specs.Modules.{FuncType, Import, Func, GlobalDef, Export, Elem, Segment, Module}

-- ---- values (5.2) and vectors (5.1.3)

-- 5.2.2: an unsigned number of 32 bits. Indices are such numbers too (5.5.1).
abbrev pub IsU32 : List ℕ → ℕ → Type 0
IsU32 = IsUnsigned (2 ^ 32)

-- 5.2.2: the bits of a number of 32 bits, which is spelled as a signed one
abbrev pub IsI32 : List ℕ → ℕ → Type 0
IsI32 bytes bits = (z : ℤ) × IsSigned (2 ^ 31) bytes z × (bits ≡ cast_unsigned w32 z)

-- 5.2.2: the bits of a number of 64 bits, which is spelled as a signed one
abbrev pub IsI64 : List ℕ → ℕ → Type 0
IsI64 bytes bits = (z : ℤ) × IsSigned (2 ^ 63) bytes z × (bits ≡ cast_unsigned w64 z)

-- 5.2.3: the bits of a float of 32 bits, the lowest byte first
abbrev pub IsF32 : List ℕ → ℕ → Type 0
IsF32 = IsLe w32

-- 5.2.3: the bits of a float of 64 bits, the lowest byte first
abbrev pub IsF64 : List ℕ → ℕ → Type 0
IsF64 = IsLe w64

-- one spelling after the other
abbrev pub IsEach : {A : Type 0} → (List ℕ → A → Type 0) → List ℕ → List A → Type 0
IsEach P bytes [] = bytes ≡ []
IsEach P bytes (x ∷ xs) = (first others : List ℕ) × (bytes ≡ first ++ others) × P first x × IsEach P others xs

-- 5.1.3: a count, and that many
abbrev pub IsVector : {A : Type 0} → (List ℕ → A → Type 0) → List ℕ → List A → Type 0
IsVector P bytes xs = (count elements : List ℕ) × (bytes ≡ count ++ elements) × IsU32 count (length xs) × IsEach P elements xs

-- 5.1.3: a vector of bytes (5.2.1), which stand for themselves
abbrev pub IsBytes : List ℕ → List ℕ → Type 0
IsBytes bytes contents = (size : List ℕ) × (bytes ≡ size ++ contents) × IsU32 size (length contents)

-- 5.2.4: a name, which is UTF-8
abbrev pub IsName : List ℕ → List ℕ → Type 0
IsName bytes name = IsBytes bytes name × IsUtf8 name

-- a size, and exactly that many bytes, which spell the value
abbrev pub IsSized : {A : Type 0} → (List ℕ → A → Type 0) → List ℕ → A → Type 0
IsSized P bytes x = (contents : List ℕ) × IsBytes bytes contents × P contents x

-- ---- types (5.3)

-- 5.3.1
abbrev pub IsValType : List ℕ → ValType → Type 0
IsValType bytes I32 = bytes ≡ 0x7f ∷ []
IsValType bytes I64 = bytes ≡ 0x7e ∷ []
IsValType bytes F32 = bytes ≡ 0x7d ∷ []
IsValType bytes F64 = bytes ≡ 0x7c ∷ []

-- 5.3.2: the result of a block
abbrev pub IsResultType : List ℕ → Option ValType → Type 0
IsResultType bytes None = bytes ≡ 0x40 ∷ []
IsResultType bytes (Some type) = IsValType bytes type

-- 5.3.3
abbrev pub IsFuncType : List ℕ → FuncType → Type 0
IsFuncType bytes t =
    (params results : List ℕ) × (bytes ≡ 0x60 ∷ (params ++ results)) × IsVector IsValType params t.params × IsVector IsValType results t.results

-- limits with a minimum and, where there is one, a maximum
abbrev pub IsMinMax : List ℕ → ℕ → Option ℕ → Type 0
IsMinMax bytes min None = (low : List ℕ) × (bytes ≡ 0x00 ∷ low) × IsU32 low min
IsMinMax bytes min (Some max) = (low high : List ℕ) × (bytes ≡ 0x01 ∷ (low ++ high)) × IsU32 low min × IsU32 high max

-- 5.3.4, and so the types of memories (5.3.5)
abbrev pub IsLimits : List ℕ → Limits → Type 0
IsLimits bytes l = IsMinMax bytes l.min l.max

-- 5.3.6: the type of a table
abbrev pub IsTable : List ℕ → Limits → Type 0
IsTable bytes l = (limits : List ℕ) × (bytes ≡ 0x70 ∷ limits) × IsLimits limits l

-- 5.3.7: whether a global is mutable
abbrev pub IsMutable : List ℕ → Bool → Type 0
IsMutable bytes false = bytes ≡ 0x00 ∷ []
IsMutable bytes true = bytes ≡ 0x01 ∷ []

-- 5.3.7: the type of a global
abbrev pub IsGlobalType : List ℕ → ValType × Bool → Type 0
IsGlobalType bytes t = (type mutable : List ℕ) × (bytes ≡ type ++ mutable) × IsValType type t.0 × IsMutable mutable t.1

-- ---- instructions (5.4)

-- 5.4.4: the alignment, as an exponent of 2, and the offset of a load or a store
abbrev pub IsMemArg : List ℕ → ℕ → ℕ → Type 0
IsMemArg bytes align offset = (a o : List ℕ) × (bytes ≡ a ++ o) × IsU32 a align × IsU32 o offset

abbrev mutual
  -- 5.4.1 to 5.4.5. The second branch of an `if` may be left out where it is empty.
  pub IsInstr : List ℕ → Tree → Type 0
  IsInstr bytes Unreachable = bytes ≡ 0x00 ∷ []
  IsInstr bytes Nop = bytes ≡ 0x01 ∷ []
  IsInstr bytes (Block result body) =
      (type inner : List ℕ) × (bytes ≡ 0x02 ∷ (type ++ inner ++ 0x0b ∷ [])) × IsResultType type result × IsInstrs inner body
  IsInstr bytes (Loop result body) =
      (type inner : List ℕ) × (bytes ≡ 0x03 ∷ (type ++ inner ++ 0x0b ∷ [])) × IsResultType type result × IsInstrs inner body
  IsInstr bytes (If result on_true on_false) =
      (type inner other : List ℕ) × (bytes ≡ 0x04 ∷ (type ++ inner ++ other ++ 0x0b ∷ [])) × IsResultType type result × IsInstrs inner on_true
      × (((other ≡ []) × (on_false ≡ End)) ⊎ ((second : List ℕ) × (other ≡ 0x05 ∷ second) × IsInstrs second on_false))
  IsInstr bytes (Br label) = (number : List ℕ) × (bytes ≡ 0x0c ∷ number) × IsU32 number label
  IsInstr bytes (BrIf label) = (number : List ℕ) × (bytes ≡ 0x0d ∷ number) × IsU32 number label
  IsInstr bytes (BrTable labels default) =
      (vector number : List ℕ) × (bytes ≡ 0x0e ∷ (vector ++ number)) × IsVector IsU32 vector labels × IsU32 number default
  IsInstr bytes Return = bytes ≡ 0x0f ∷ []
  IsInstr bytes (CallFunc func) = (number : List ℕ) × (bytes ≡ 0x10 ∷ number) × IsU32 number func
  IsInstr bytes (CallIndirect type) = (number : List ℕ) × (bytes ≡ 0x11 ∷ (number ++ 0x00 ∷ [])) × IsU32 number type
  IsInstr bytes DropTop = bytes ≡ 0x1a ∷ []
  IsInstr bytes Select = bytes ≡ 0x1b ∷ []
  IsInstr bytes (LocalGet local) = (number : List ℕ) × (bytes ≡ 0x20 ∷ number) × IsU32 number local
  IsInstr bytes (LocalSet local) = (number : List ℕ) × (bytes ≡ 0x21 ∷ number) × IsU32 number local
  IsInstr bytes (LocalTee local) = (number : List ℕ) × (bytes ≡ 0x22 ∷ number) × IsU32 number local
  IsInstr bytes (GlobalGet global) = (number : List ℕ) × (bytes ≡ 0x23 ∷ number) × IsU32 number global
  IsInstr bytes (GlobalSet global) = (number : List ℕ) × (bytes ≡ 0x24 ∷ number) × IsU32 number global
  IsInstr bytes (Load opcode align offset) = (memarg : List ℕ) × (bytes ≡ opcode ∷ memarg) × (0x28 ≤ opcode) × (opcode ≤ 0x35) × IsMemArg memarg align offset
  IsInstr bytes (Store opcode align offset) = (memarg : List ℕ) × (bytes ≡ opcode ∷ memarg) × (0x36 ≤ opcode) × (opcode ≤ 0x3e) × IsMemArg memarg align offset
  IsInstr bytes MemorySize = bytes ≡ 0x3f ∷ 0x00 ∷ []
  IsInstr bytes MemoryGrow = bytes ≡ 0x40 ∷ 0x00 ∷ []
  IsInstr bytes (ConstI32 bits) = (number : List ℕ) × (bytes ≡ 0x41 ∷ number) × IsI32 number bits
  IsInstr bytes (ConstI64 bits) = (number : List ℕ) × (bytes ≡ 0x42 ∷ number) × IsI64 number bits
  IsInstr bytes (ConstF32 bits) = (number : List ℕ) × (bytes ≡ 0x43 ∷ number) × IsF32 number bits
  IsInstr bytes (ConstF64 bits) = (number : List ℕ) × (bytes ≡ 0x44 ∷ number) × IsF64 number bits
  IsInstr bytes (Op opcode) = (bytes ≡ opcode ∷ []) × (0x45 ≤ opcode) × (opcode ≤ 0xc4)

  -- one instruction after the other
  pub IsInstrs : List ℕ → Trees → Type 0
  IsInstrs bytes End = bytes ≡ []
  IsInstrs bytes (Then first rest) = (front others : List ℕ) × (bytes ≡ front ++ others) × IsInstr front first × IsInstrs others rest

abbrev mutual
  -- Blocks, loops and ifs nest at most this deep in the instruction, itself counted.
  pub NestsWithin : ℕ → Tree → Type 0
  NestsWithin depth (Block result body) = (less : ℕ) × (depth ≡ less + 1) × AllNestWithin less body
  NestsWithin depth (Loop result body) = (less : ℕ) × (depth ≡ less + 1) × AllNestWithin less body
  NestsWithin depth (If result on_true on_false) = (less : ℕ) × (depth ≡ less + 1) × AllNestWithin less on_true × AllNestWithin less on_false
  NestsWithin depth instr = Unit {0}

  -- the same of each instruction of a sequence
  pub AllNestWithin : ℕ → Trees → Type 0
  AllNestWithin depth End = Unit {0}
  AllNestWithin depth (Then first rest) = NestsWithin depth first × AllNestWithin depth rest

-- 5.4.6: an expression. How deep blocks may nest is left to the implementation. Here it is 1,000 deep.
abbrev pub IsExpression : List ℕ → Trees → Type 0
IsExpression bytes body = (instrs : List ℕ) × (bytes ≡ instrs ++ 0x0b ∷ []) × IsInstrs instrs body × AllNestWithin 1000 body

-- ---- what is in sections (5.5)

-- 5.5.5: what is imported
abbrev pub IsImportDesc : List ℕ → ImportDesc → Type 0
IsImportDesc bytes (imported.Func type) = (number : List ℕ) × (bytes ≡ 0x00 ∷ number) × IsU32 number type
IsImportDesc bytes (imported.Table limits) = (table : List ℕ) × (bytes ≡ 0x01 ∷ table) × IsTable table limits
IsImportDesc bytes (imported.Memory limits) = (memory : List ℕ) × (bytes ≡ 0x02 ∷ memory) × IsLimits memory limits
IsImportDesc bytes (imported.Global value_type mutable) = (type : List ℕ) × (bytes ≡ 0x03 ∷ type) × IsGlobalType type (value_type, mutable)

-- 5.5.5
abbrev pub IsImport : List ℕ → Import → Type 0
IsImport bytes i = (front name desc : List ℕ) × (bytes ≡ front ++ name ++ desc) × IsName front i.«module» × IsName name i.name × IsImportDesc desc i.desc

-- 5.5.9
abbrev pub IsGlobal : List ℕ → GlobalDef → Type 0
IsGlobal bytes g = (type init : List ℕ) × (bytes ≡ type ++ init) × IsGlobalType type (g.value_type, g.mutable) × IsExpression init g.init

-- 5.5.10: what is exported
abbrev pub IsExportDesc : List ℕ → ExportDesc → Type 0
IsExportDesc bytes (exported.Func index) = (number : List ℕ) × (bytes ≡ 0x00 ∷ number) × IsU32 number index
IsExportDesc bytes (exported.Table index) = (number : List ℕ) × (bytes ≡ 0x01 ∷ number) × IsU32 number index
IsExportDesc bytes (exported.Memory index) = (number : List ℕ) × (bytes ≡ 0x02 ∷ number) × IsU32 number index
IsExportDesc bytes (exported.Global index) = (number : List ℕ) × (bytes ≡ 0x03 ∷ number) × IsU32 number index

-- 5.5.10
abbrev pub IsExport : List ℕ → Export → Type 0
IsExport bytes e = (name desc : List ℕ) × (bytes ≡ name ++ desc) × IsName name e.name × IsExportDesc desc e.desc

-- 5.5.11: the index of the function that runs first
abbrev pub IsStart : List ℕ → Option ℕ → Type 0
IsStart bytes None = ⊥
IsStart bytes (Some func) = IsU32 bytes func

-- 5.5.12
abbrev pub IsElem : List ℕ → Elem → Type 0
IsElem bytes e =
    (table offset funcs : List ℕ) × (bytes ≡ table ++ offset ++ funcs) × IsU32 table e.table × IsExpression offset e.offset × IsVector IsU32 funcs e.funcs

-- 5.5.13: locals of one type, as their count and the type
abbrev pub IsLocals : List ℕ → ℕ × ValType → Type 0
IsLocals bytes l = (count type : List ℕ) × (bytes ≡ count ++ type) × IsU32 count l.0 × IsValType type l.1

-- 5.5.13: the locals and the body of a function of the type with this index. There are fewer than 2 ^ 32
-- locals.
abbrev pub IsFunc : ℕ → List ℕ → Func → Type 0
IsFunc type_index bytes f =
    (locals body : List ℕ) × (bytes ≡ locals ++ body) × IsVector IsLocals locals f.locals × IsExpression body f.body
    × (sum_by (λ l. l.0) f.locals < 2 ^ 32) × (f.type_index ≡ type_index)

-- one function for each index of a type
abbrev pub AreFuncs : List ℕ → List ℕ → List Func → Type 0
AreFuncs [] bytes [] = bytes ≡ []
AreFuncs [] bytes (f ∷ fs) = ⊥
AreFuncs (index ∷ indices) bytes [] = ⊥
AreFuncs (index ∷ indices) bytes (f ∷ fs) = (first others : List ℕ) × (bytes ≡ first ++ others) × IsSized (IsFunc index) first f × AreFuncs indices others fs

-- 5.5.13: a vector of functions, as many as the function section has indices
abbrev pub IsCode : List ℕ → List ℕ → List Func → Type 0
IsCode indices bytes fs = (count elements : List ℕ) × (bytes ≡ count ++ elements) × IsU32 count (length indices) × AreFuncs indices elements fs

-- 5.5.14
abbrev pub IsSegment : List ℕ → Segment → Type 0
IsSegment bytes s =
    (memory offset contents : List ℕ) × (bytes ≡ memory ++ offset ++ contents) × IsU32 memory s.memory
    × IsExpression offset s.offset × IsBytes contents s.bytes

-- ---- sections and modules (5.5)

-- contents that begin with a name. What follows it is ignored.
abbrev pub BeginsWithName : List ℕ → List ℕ → Type 0
BeginsWithName bytes name = (front ignored : List ℕ) × (bytes ≡ front ++ ignored) × IsName front name

-- 5.5.3: a custom section with this name
abbrev pub IsCustom : List ℕ → List ℕ → Type 0
IsCustom bytes name = (sized : List ℕ) × (bytes ≡ 0 ∷ sized) × IsSized BeginsWithName sized name

-- any custom sections, one after the other
abbrev pub AreCustoms : List ℕ → Type 0
AreCustoms bytes = (names : List (List ℕ)) × IsEach IsCustom bytes names

-- 5.5.2: the section with this id, or nothing, which stands for a given value
abbrev pub IsSection : {A : Type 0} → ℕ → A → (List ℕ → A → Type 0) → A → List ℕ → Type 0
IsSection id absent P x bytes = ((bytes ≡ []) × (x ≡ absent)) ⊎ ((sized : List ℕ) × (bytes ≡ id ∷ sized) × IsSized P sized x)

-- custom sections, such a section, and what follows it
pub record HasSection (P Q : List ℕ → Type 0) (bytes : List ℕ) : Type 0 where
  pub customs : List ℕ
  pub section : List ℕ
  pub others : List ℕ
  pub parts : bytes ≡ customs ++ section ++ others
  pub are_customs : AreCustoms customs
  pub is_section : P section
  pub follow : Q others

-- 5.5.15: `\0asm` and the version
abbrev pub header : List ℕ
header = 0x00 ∷ 0x61 ∷ 0x73 ∷ 0x6d ∷ 0x01 ∷ 0x00 ∷ 0x00 ∷ 0x00 ∷ []

-- 5.5.15: the sections of a module (5.5.4 to 5.5.14), whose functions have the types with these indices
abbrev pub AreSections : List ℕ → Module → List ℕ → Type 0
AreSections indices m =
    HasSection (IsSection 1 [] (IsVector IsFuncType) m.types) (
    HasSection (IsSection 2 [] (IsVector IsImport) m.imports) (
    HasSection (IsSection 3 [] (IsVector IsU32) indices) (
    HasSection (IsSection 4 [] (IsVector IsTable) m.tables) (
    HasSection (IsSection 5 [] (IsVector IsLimits) m.mems) (
    HasSection (IsSection 6 [] (IsVector IsGlobal) m.globals) (
    HasSection (IsSection 7 [] (IsVector IsExport) m.exports) (
    HasSection (IsSection 8 None IsStart m.start) (
    HasSection (IsSection 9 [] (IsVector IsElem) m.elems) (
    HasSection (IsSection 10 [] (IsCode indices) m.funcs) (
    HasSection (IsSection 11 [] (IsVector IsSegment) m.segments) AreCustoms))))))))))

-- 5.5.15: the bytes spell the module
pub record SpellsModule (bytes : List ℕ) (m : Module) : Type 0 where
  pub sections : List ℕ
  pub indices : List ℕ
  pub parts : bytes ≡ header ++ sections
  pub are_sections : AreSections indices m sections
  pub same_count : length m.funcs ≡ length indices
