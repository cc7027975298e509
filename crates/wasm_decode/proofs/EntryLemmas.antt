-- Reading what is in sections gives what its spellings say.
use Rattle.std.proofs.Common.{◌≡◌, ℕ, true, List, [], ◌∷◌, ◌++◌, length, Option, Some, None, refl, sym, ap, ◌∙◌, subst, append_assoc}
use Rattle.std.proofs.lemmas.Bool.{eqb-true, eq-eqb, ltb-true, lt-ltb}
use Rattle.fri_bytes.specs.Laws.{ExactReaders}
use Rattle.fri_bytes.specs.Reading.{Reads, BeginsSpelling}
use Rattle.wasm_types.specs.declared.modules.ImportDesc.{ImportDesc}
use Rattle.wasm_types.specs.declared.modules.ImportDesc.TheVariants as imported
use Rattle.wasm_types.specs.declared.modules.ExportDesc.{ExportDesc}
use Rattle.wasm_types.specs.declared.modules.ExportDesc.TheVariants as exported
use Rattle.wasm_types.specs.Modules.{Func}
use Rattle.wasm_decode.specs.Grammar.{IsU32, IsVector, IsBytes, IsName, IsSized, IsValType, IsLimits, IsTable, IsGlobalType, IsExpression, IsImportDesc, IsImport, IsGlobal, IsExportDesc, IsExport, IsStart, IsElem, IsLocals, IsFunc, AreFuncs, IsCode, IsSegment}
use Rattle.wasm_decode.specs.Values.{Reader, ◌>>=◌, u32_at, vector_at, byte_vector_at, utf8_name_at, whole_read, sized_at, val_type_at, limits_at, table_at, global_type_at}
use Rattle.wasm_decode.specs.Instrs.{expression_at}
use Rattle.wasm_decode.specs.Entries.{imported_at, import_desc_at, import_at, exported_of, export_desc_at, export_at, global_def_at, start_at, elem_at, segment_at, locals_at, are_few_locals, func_at, funcs_at, code_at}
use Rattle.wasm_decode.proofs.ReaderSteps.{bind_some, some_is, kept, joined}
use Rattle.wasm_decode.proofs.ComposedReaders.{Behind, AgainBehind, one_read, two_read, three_read, byte_read, case_takes, last_takes, one_takes, value_takes}
use Rattle.wasm_decode.proofs.ValueLemmas.{u32_reads, vector_reads, bytes_reads, name_reads, all_reads, sized_reads, val_type_reads, limits_reads, table_reads, global_type_reads}
use Rattle.wasm_decode.proofs.InstrLemmas.{expr_reads}

exported_is : (byte index : ℕ) (d : ExportDesc) (s : List ℕ) → exported_of byte index ≡ Some d → IsU32 s index → IsExportDesc (byte ∷ s) d
unfolding exported_of
exported_is byte index d s e h =
    let P : ℕ → ExportDesc → Type 0 = λ k v. IsExportDesc (k ∷ s) v in
    value_takes P 0x00 byte (exported.Func index) d _ e (s, refl, h) (λ e1.
    value_takes P 0x01 byte (exported.Table index) d _ e1 (s, refl, h) (λ e2.
    value_takes P 0x02 byte (exported.Memory index) d _ e2 (s, refl, h) (λ e3.
    value_takes P 0x03 byte (exported.Global index) d _ e3 (s, refl, h) (λ none. absurd cc))))

-- what is exported, after the byte that says what it is
unfoldable exported_at : ℕ → Reader ExportDesc
exported_at byte bytes = do
  index ← u32_at bytes
  desc ← exported_of byte index.0
  Some (desc, index.1)

start_is : (s : List ℕ) (x : Option ℕ) → IsStart s x → (n : ℕ) × IsU32 s n × (x ≡ Some n)
start_is s None h = absurd h
start_is s (Some n) h = (n, h, refl)

module _ (readers : ExactReaders) where
  pub indices_read : Reads (IsVector IsU32) (vector_at u32_at)
  indices_read = vector_reads readers IsU32 u32_at (u32_reads readers)

  -- ---- imports and exports

  imported_takes : (byte : ℕ) (bytes : List ℕ) (d : ImportDesc) (rest : List ℕ) → imported_at byte bytes ≡ Some (d, rest) → Behind IsImportDesc byte bytes d rest
  unfolding imported_at
  imported_takes byte bytes d rest e =
      let R = IsImportDesc in
      case_takes R 0x00 byte bytes d rest _ _ e (λ here. one_takes R 0x00 bytes d rest IsU32 u32_at imported.Func (u32_reads readers) here (λ s n h. (s, refl, h))) (λ e1.
      case_takes R 0x01 byte bytes d rest _ _ e1 (λ here. one_takes R 0x01 bytes d rest IsTable table_at imported.Table (table_reads readers) here (λ s l h. (s, refl, h))) (λ e2.
      case_takes R 0x02 byte bytes d rest _ _ e2 (λ here. one_takes R 0x02 bytes d rest IsLimits limits_at imported.Memory (limits_reads readers) here (λ s l h. (s, refl, h))) (λ e3.
      last_takes R 0x03 byte bytes d rest _ e3 (λ here. one_takes R 0x03 bytes d rest IsGlobalType global_type_at (λ t. imported.Global t.0 t.1) global_type_reads here (λ s t h. (s, refl, h))))))

  imported_again : (s : List ℕ) (d : ImportDesc) → IsImportDesc s d → AgainBehind imported_at s d
  unfolding imported_at
  imported_again s (imported.Func n) h = record { first = 0x00; behind = h.0; parts = h.1; read = λ rest. rw ((u32_reads readers).again h.0 n rest h.2) refl }
  imported_again s (imported.Table l) h = record { first = 0x01; behind = h.0; parts = h.1; read = λ rest. rw ((table_reads readers).again h.0 l rest h.2) refl }
  imported_again s (imported.Memory l) h = record { first = 0x02; behind = h.0; parts = h.1; read = λ rest. rw ((limits_reads readers).again h.0 l rest h.2) refl }
  imported_again s (imported.Global value_type mutable) h = record { first = 0x03; behind = h.0; parts = h.1; read = λ rest. rw (global_type_reads.again h.0 (value_type, mutable) rest h.2) refl }

  import_desc_reads : Reads IsImportDesc import_desc_at
  unfolding import_desc_at
  import_desc_reads = byte_read IsImportDesc imported_at imported_takes imported_again

  pub import_reads : Reads IsImport import_at
  unfolding import_at
  import_reads =
      three_read IsName IsName IsImportDesc IsImport utf8_name_at utf8_name_at import_desc_at (λ front name desc. record { «module» = front; name = name; desc = desc }) (name_reads readers) (name_reads readers) import_desc_reads
      (λ a b c x y z p q r. (a, b, c, refl, p, q, r)) (λ s i h. (h.0, h.1, h.2, i.«module», i.name, i.desc, h.3, h.4, h.5, h.6, refl))

  exported_takes : (byte : ℕ) (bytes : List ℕ) (d : ExportDesc) (rest : List ℕ) → exported_at byte bytes ≡ Some (d, rest) → Behind IsExportDesc byte bytes d rest
  unfolding exported_at
  exported_takes byte bytes d rest e =
      let a = bind_some _ _ _ e in
      let b = bind_some _ _ _ a.2 in
      let number = (u32_reads readers).takes bytes a.0.0 a.0.1 a.1 in
      subst (λ (y : ExportDesc × List ℕ). Behind IsExportDesc byte bytes y.0 y.1) (some_is (b.0, a.0.1) (d, rest) b.2)
      (number.0, number.1, exported_is byte a.0.0 b.0 number.0 b.1 number.2)

  exported_again : (s : List ℕ) (d : ExportDesc) → IsExportDesc s d → AgainBehind exported_at s d
  unfolding exported_at exported_of
  exported_again s (exported.Func n) h = record { first = 0x00; behind = h.0; parts = h.1; read = λ rest. rw ((u32_reads readers).again h.0 n rest h.2) refl }
  exported_again s (exported.Table n) h = record { first = 0x01; behind = h.0; parts = h.1; read = λ rest. rw ((u32_reads readers).again h.0 n rest h.2) refl }
  exported_again s (exported.Memory n) h = record { first = 0x02; behind = h.0; parts = h.1; read = λ rest. rw ((u32_reads readers).again h.0 n rest h.2) refl }
  exported_again s (exported.Global n) h = record { first = 0x03; behind = h.0; parts = h.1; read = λ rest. rw ((u32_reads readers).again h.0 n rest h.2) refl }

  export_desc_reads : Reads IsExportDesc export_desc_at
  unfolding export_desc_at exported_at
  export_desc_reads = byte_read IsExportDesc exported_at exported_takes exported_again

  pub export_reads : Reads IsExport export_at
  unfolding export_at
  export_reads =
      two_read IsName IsExportDesc IsExport utf8_name_at export_desc_at (λ name desc. record { name = name; desc = desc }) (name_reads readers) export_desc_reads
      (λ a b x y p q. (a, b, refl, p, q)) (λ s e h. (h.0, h.1, e.name, e.desc, h.2, h.3, h.4, refl))

  -- ---- globals, the start function and segments

  pub global_reads : Reads IsGlobal global_def_at
  unfolding global_def_at
  global_reads =
      two_read IsGlobalType IsExpression IsGlobal global_type_at expression_at (λ type init. record { value_type = type.0; mutable = type.1; init = init }) global_type_reads (expr_reads readers)
      (λ a b x y p q. (a, b, refl, p, q)) (λ s g h. (h.0, h.1, (g.value_type, g.mutable), g.init, h.2, h.3, h.4, refl))

  pub start_reads : Reads IsStart start_at
  unfolding start_at
  start_reads = one_read IsU32 IsStart u32_at (λ n. Some n) (u32_reads readers) (λ s n h. h) start_is

  pub elem_reads : Reads IsElem elem_at
  unfolding elem_at
  elem_reads =
      three_read IsU32 IsExpression (IsVector IsU32) IsElem u32_at expression_at (vector_at u32_at) (λ table offset funcs. record { table = table; offset = offset; funcs = funcs }) (u32_reads readers) (expr_reads readers) indices_read
      (λ a b c x y z p q r. (a, b, c, refl, p, q, r)) (λ s e h. (h.0, h.1, h.2, e.table, e.offset, e.funcs, h.3, h.4, h.5, h.6, refl))

  pub segment_reads : Reads IsSegment segment_at
  unfolding segment_at
  segment_reads =
      three_read IsU32 IsExpression IsBytes IsSegment u32_at expression_at byte_vector_at (λ memory offset contents. record { memory = memory; offset = offset; bytes = contents }) (u32_reads readers) (expr_reads readers) (bytes_reads readers)
      (λ a b c x y z p q r. (a, b, c, refl, p, q, r)) (λ s e h. (h.0, h.1, h.2, e.memory, e.offset, e.bytes, h.3, h.4, h.5, h.6, refl))

  -- ---- functions

  locals_reads : Reads IsLocals locals_at
  unfolding locals_at
  locals_reads =
      two_read IsU32 IsValType IsLocals u32_at val_type_at (λ count type. (count, type)) (u32_reads readers) val_type_reads
      (λ a b x y p q. (a, b, refl, p, q)) (λ s l h. (h.0, h.1, l.0, l.1, h.2, h.3, h.4, refl))

  locals_read : Reads (IsVector IsLocals) (vector_at locals_at)
  locals_read = vector_reads readers IsLocals locals_at locals_reads

  func_reads : (index : ℕ) → Reads (IsFunc index) (func_at index)
  unfolding func_at
  func_reads index = record {
    takes = λ bytes f rest e.
        let a = bind_some _ _ _ e in
        let p = kept _ _ _ a.2 in
        let b = bind_some _ _ _ p.1 in
        let made : Func × List ℕ = (record { type_index = index; locals = a.0.0; body = b.0.0 }, b.0.1) in
        let locals = locals_read.takes bytes a.0.0 a.0.1 a.1 in
        let body = (expr_reads readers).takes a.0.1 b.0.0 b.0.1 b.1 in
        subst (λ (y : Func × List ℕ). BeginsSpelling (IsFunc index) bytes y.0 y.1) (some_is made (f, rest) b.2)
        (locals.0 ++ body.0, joined bytes locals.0 a.0.1 body.0 b.0.1 locals.1 body.1, (locals.0, body.0, refl, locals.2, body.2, ltb-true _ _ p.0, refl));
    again = λ s f rest h.
        let parts : s ++ rest ≡ h.0 ++ (h.1 ++ rest) = ap (λ (r : List ℕ). r ++ rest) h.2 ∙ append_assoc h.0 h.1 rest in
        let front : vector_at locals_at (s ++ rest) ≡ Some (f.locals, h.1 ++ rest) = ap (vector_at locals_at) parts ∙ locals_read.again h.0 f.locals (h.1 ++ rest) h.3 in
        let few : are_few_locals f.locals ≡ true = lt-ltb _ _ h.5 in
        rw (front, few, (expr_reads readers).again h.1 f.body rest h.4) (ap (λ (k : ℕ). Some (record f { type_index = k }, rest)) (sym h.6));
  }

  sized_func_reads : (index : ℕ) → Reads (IsSized (IsFunc index)) (sized_at (whole_read (func_at index)))
  sized_func_reads index = sized_reads readers (IsFunc index) (whole_read (func_at index)) (all_reads (IsFunc index) (func_at index) (func_reads index))

  funcs_take : (indices bytes : List ℕ) (fs : List Func) (rest : List ℕ) → funcs_at indices bytes ≡ Some (fs, rest) → BeginsSpelling (AreFuncs indices) bytes fs rest
  unfolding funcs_at
  funcs_take [] bytes fs rest e = subst (λ (y : List Func × List ℕ). BeginsSpelling (AreFuncs []) bytes y.0 y.1) (some_is ([], bytes) (fs, rest) e) ([], refl, refl)
  funcs_take (index ∷ indices) bytes fs rest e =
      let a = bind_some _ _ _ e in
      let b = bind_some _ _ _ a.2 in
      let first = (sized_func_reads index).takes bytes a.0.0 a.0.1 a.1 in
      let others = funcs_take indices a.0.1 b.0.0 b.0.1 b.1 in
      subst (λ (y : List Func × List ℕ). BeginsSpelling (AreFuncs (index ∷ indices)) bytes y.0 y.1) (some_is (a.0.0 ∷ b.0.0, b.0.1) (fs, rest) b.2)
      (first.0 ++ others.0, joined bytes first.0 a.0.1 others.0 b.0.1 first.1 others.1, (first.0, others.0, refl, first.2, others.2))

  funcs_again : (indices s : List ℕ) (fs : List Func) (rest : List ℕ) → AreFuncs indices s fs → funcs_at indices (s ++ rest) ≡ Some (fs, rest)
  unfolding funcs_at
  funcs_again [] s [] rest h = rw h refl
  funcs_again [] s (f ∷ fs) rest h = absurd h
  funcs_again (index ∷ indices) s [] rest h = absurd h
  funcs_again (index ∷ indices) s (f ∷ fs) rest (first, others, parts, one, more) =
      let front : sized_at (whole_read (func_at index)) (s ++ rest) ≡ Some (f, others ++ rest) = ap (sized_at (whole_read (func_at index))) (ap (λ (t : List ℕ). t ++ rest) parts ∙ append_assoc first others rest) ∙ (sized_func_reads index).again first f (others ++ rest) one in
      rw (front, funcs_again indices others fs rest more) refl

  pub code_reads : (indices : List ℕ) → Reads (IsCode indices) (code_at indices)
  unfolding code_at
  code_reads indices = record {
    takes = λ bytes fs rest e.
        let a = bind_some _ _ _ e in
        let count = (u32_reads readers).takes bytes a.0.0 a.0.1 a.1 in
        let p = kept _ _ _ a.2 in
        let others = funcs_take indices a.0.1 fs rest p.1 in
        (count.0 ++ others.0, joined bytes count.0 a.0.1 others.0 rest count.1 others.1, (count.0, others.0, refl, subst (IsU32 count.0) (eqb-true _ _ p.0) count.2, others.2));
    again = λ s fs rest h.
        let parts : s ++ rest ≡ h.0 ++ (h.1 ++ rest) = ap (λ (r : List ℕ). r ++ rest) h.2 ∙ append_assoc h.0 h.1 rest in
        ap (code_at indices) parts ∙ rw ((u32_reads readers).again h.0 (length indices) (h.1 ++ rest) h.3, eq-eqb (length indices) (length indices) refl) (funcs_again indices h.1 fs rest h.4);
  }
