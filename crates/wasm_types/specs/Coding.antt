-- A code for sequences of instructions: a list of words, each an opcode and numbers, that gives them back.
-- A word makes an instruction of the sequences read last, and puts it in front of the one before those.
use Rattle.std.specs.Prelude.{◌≡◌, ℕ, List, [], ◌∷◌, Option, Some, None, nat_eq, get_or, if◌then◌else◌, refl}
use Rattle.std.proofs.Common.{ap, ◌∙◌}
use Rattle.std.specs.Coded.{Coded, code_by, coded×, coded_ℕ, coded_list}
use Rattle.wasm_types.specs.declared.code.ValType.{ValType}
use Rattle.wasm_types.specs.declared.code.ValType.TheVariants.{I32, I64, F32, F64}
use Rattle.wasm_types.specs.Code.{Tree, Unreachable, Nop, Block, Loop, If, Br, BrIf, BrTable, Return, CallFunc, CallIndirect, DropTop, Select, LocalGet, LocalSet, LocalTee, GlobalGet, GlobalSet, Load, Store, MemorySize, MemoryGrow, ConstI32, ConstI64, ConstF32, ConstF64, Op, Trees, End, Then}

abbrev Word : Type 0
Word = ℕ × List ℕ

-- the number of a block's result type
abbrev number_of : Option ValType → ℕ
number_of None = 0
number_of (Some I32) = 1
number_of (Some I64) = 2
number_of (Some F32) = 3
number_of (Some F64) = 4

abbrev numbered : ℕ → Option ValType
numbered n =
    if nat_eq n 1 then Some I32 else
    if nat_eq n 2 then Some I64 else
    if nat_eq n 3 then Some F32 else
    if nat_eq n 4 then Some F64 else
    None

abbrev type_in : List ℕ → Option ValType
type_in ns = numbered (get_or ns 0 0)

abbrev table_in : List ℕ → Tree
table_in [] = BrTable [] 0
table_in (default ∷ labels) = BrTable labels default

-- an instruction with none inside it, by its opcode
abbrev leaf_in : ℕ → List ℕ → Tree
leaf_in opcode ns =
    if nat_eq opcode 4 then Unreachable else
    if nat_eq opcode 5 then Nop else
    if nat_eq opcode 6 then Br (get_or ns 0 0) else
    if nat_eq opcode 7 then BrIf (get_or ns 0 0) else
    if nat_eq opcode 8 then table_in ns else
    if nat_eq opcode 9 then Return else
    if nat_eq opcode 10 then CallFunc (get_or ns 0 0) else
    if nat_eq opcode 11 then CallIndirect (get_or ns 0 0) else
    if nat_eq opcode 12 then DropTop else
    if nat_eq opcode 13 then Select else
    if nat_eq opcode 14 then LocalGet (get_or ns 0 0) else
    if nat_eq opcode 15 then LocalSet (get_or ns 0 0) else
    if nat_eq opcode 16 then LocalTee (get_or ns 0 0) else
    if nat_eq opcode 17 then GlobalGet (get_or ns 0 0) else
    if nat_eq opcode 18 then GlobalSet (get_or ns 0 0) else
    if nat_eq opcode 19 then Load (get_or ns 0 0) (get_or ns 1 0) (get_or ns 2 0) else
    if nat_eq opcode 20 then Store (get_or ns 0 0) (get_or ns 1 0) (get_or ns 2 0) else
    if nat_eq opcode 21 then MemorySize else
    if nat_eq opcode 22 then MemoryGrow else
    if nat_eq opcode 23 then ConstI32 (get_or ns 0 0) else
    if nat_eq opcode 24 then ConstI64 (get_or ns 0 0) else
    if nat_eq opcode 25 then ConstF32 (get_or ns 0 0) else
    if nat_eq opcode 26 then ConstF64 (get_or ns 0 0) else
    Op (get_or ns 0 0)

-- an instruction in front of the sequence read last
abbrev put : Tree → List Trees → List Trees
put i [] = []
put i (rest ∷ more) = Then i rest ∷ more

abbrev put_block : ℕ → Option ValType → List Trees → List Trees
put_block opcode result [] = []
put_block opcode result (body ∷ more) = if nat_eq opcode 1 then put (Block result body) more else put (Loop result body) more

abbrev put_if : Option ValType → List Trees → List Trees
put_if result [] = []
put_if result (on_false ∷ []) = []
put_if result (on_false ∷ (on_true ∷ more)) = put (If result on_true on_false) more

abbrev read_word : ℕ → List ℕ → List Trees → List Trees
read_word opcode ns read =
    if nat_eq opcode 0 then End ∷ read else
    if nat_eq opcode 3 then put_if (type_in ns) read else
    if nat_eq opcode 1 then put_block 1 (type_in ns) read else
    if nat_eq opcode 2 then put_block 2 (type_in ns) read else
    put (leaf_in opcode ns) read

abbrev read_words : List Word → List Trees → List Trees
read_words [] read = read
read_words (w ∷ ws) read = read_words ws (read_word w.0 w.1 read)

abbrev first_read : List Trees → Trees
first_read [] = End
first_read (ts ∷ more) = ts

abbrev trees_in : List Word → Trees
trees_in ws = first_read (read_words ws [])

abbrev mutual
  -- an instruction's words, in front of others; those of the sequence after it stand before them
  write : Tree → List Word → List Word
  write (Block result body) ws = write_all body ((1, number_of result ∷ []) ∷ ws)
  write (Loop result body) ws = write_all body ((2, number_of result ∷ []) ∷ ws)
  write (If result on_true on_false) ws = write_all on_true (write_all on_false ((3, number_of result ∷ []) ∷ ws))
  write Unreachable ws = (4, []) ∷ ws
  write Nop ws = (5, []) ∷ ws
  write (Br n) ws = (6, n ∷ []) ∷ ws
  write (BrIf n) ws = (7, n ∷ []) ∷ ws
  write (BrTable labels default) ws = (8, default ∷ labels) ∷ ws
  write Return ws = (9, []) ∷ ws
  write (CallFunc n) ws = (10, n ∷ []) ∷ ws
  write (CallIndirect n) ws = (11, n ∷ []) ∷ ws
  write DropTop ws = (12, []) ∷ ws
  write Select ws = (13, []) ∷ ws
  write (LocalGet n) ws = (14, n ∷ []) ∷ ws
  write (LocalSet n) ws = (15, n ∷ []) ∷ ws
  write (LocalTee n) ws = (16, n ∷ []) ∷ ws
  write (GlobalGet n) ws = (17, n ∷ []) ∷ ws
  write (GlobalSet n) ws = (18, n ∷ []) ∷ ws
  write (Load opcode align offset) ws = (19, opcode ∷ (align ∷ (offset ∷ []))) ∷ ws
  write (Store opcode align offset) ws = (20, opcode ∷ (align ∷ (offset ∷ []))) ∷ ws
  write MemorySize ws = (21, []) ∷ ws
  write MemoryGrow ws = (22, []) ∷ ws
  write (ConstI32 n) ws = (23, n ∷ []) ∷ ws
  write (ConstI64 n) ws = (24, n ∷ []) ∷ ws
  write (ConstF32 n) ws = (25, n ∷ []) ∷ ws
  write (ConstF64 n) ws = (26, n ∷ []) ∷ ws
  write (Op n) ws = (27, n ∷ []) ∷ ws

  write_all : Trees → List Word → List Word
  write_all End ws = (0, []) ∷ ws
  write_all (Then i rest) ws = write_all rest (write i ws)

numbered_number : (result : Option ValType) → numbered (number_of result) ≡ result
numbered_number None = refl
numbered_number (Some I32) = refl
numbered_number (Some I64) = refl
numbered_number (Some F32) = refl
numbered_number (Some F64) = refl

mutual
  read_write : (i : Tree) (ws : List Word) (rest : Trees) (read : List Trees) → read_words (write i ws) (rest ∷ read) ≡ read_words ws (Then i rest ∷ read)
  read_write (Block result body) ws rest read =
      read_write_trees body ((1, number_of result ∷ []) ∷ ws) (rest ∷ read)
      ∙ ap (λ r. read_words ws (Then (Block r body) rest ∷ read)) (numbered_number result)
  read_write (Loop result body) ws rest read =
      read_write_trees body ((2, number_of result ∷ []) ∷ ws) (rest ∷ read)
      ∙ ap (λ r. read_words ws (Then (Loop r body) rest ∷ read)) (numbered_number result)
  read_write (If result on_true on_false) ws rest read =
      read_write_trees on_true (write_all on_false ((3, number_of result ∷ []) ∷ ws)) (rest ∷ read)
      ∙ read_write_trees on_false ((3, number_of result ∷ []) ∷ ws) (on_true ∷ (rest ∷ read))
      ∙ ap (λ r. read_words ws (Then (If r on_true on_false) rest ∷ read)) (numbered_number result)
  read_write Unreachable ws rest read = refl
  read_write Nop ws rest read = refl
  read_write (Br n) ws rest read = refl
  read_write (BrIf n) ws rest read = refl
  read_write (BrTable labels default) ws rest read = refl
  read_write Return ws rest read = refl
  read_write (CallFunc n) ws rest read = refl
  read_write (CallIndirect n) ws rest read = refl
  read_write DropTop ws rest read = refl
  read_write Select ws rest read = refl
  read_write (LocalGet n) ws rest read = refl
  read_write (LocalSet n) ws rest read = refl
  read_write (LocalTee n) ws rest read = refl
  read_write (GlobalGet n) ws rest read = refl
  read_write (GlobalSet n) ws rest read = refl
  read_write (Load opcode align offset) ws rest read = refl
  read_write (Store opcode align offset) ws rest read = refl
  read_write MemorySize ws rest read = refl
  read_write MemoryGrow ws rest read = refl
  read_write (ConstI32 n) ws rest read = refl
  read_write (ConstI64 n) ws rest read = refl
  read_write (ConstF32 n) ws rest read = refl
  read_write (ConstF64 n) ws rest read = refl
  read_write (Op n) ws rest read = refl

  pub read_write_trees : (ts : Trees) (ws : List Word) (read : List Trees) → read_words (write_all ts ws) read ≡ read_words ws (ts ∷ read)
  read_write_trees End ws read = refl
  read_write_trees (Then i rest) ws read = read_write_trees rest (write i ws) read ∙ read_write i ws rest read

abbrev pub trees_code : Coded Trees
trees_code =
    code_by (List Word) (coded_list (coded× coded_ℕ (coded_list coded_ℕ))) (λ ts. write_all ts []) trees_in (λ ts. ap first_read (read_write_trees ts [] []))
