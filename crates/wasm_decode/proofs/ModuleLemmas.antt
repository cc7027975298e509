-- The module that is read is the one that the bytes spell.
use Rattle.std.proofs.Common.{◌≡◌, ℕ, true, eqb, List, [], ◌++◌, length, take, drop, Some, None, refl, sym, ap, ◌∙◌, subst, lit<}
use Rattle.std.specs.Cmp.Lexicographic.{bytes_decides}
use Rattle.std.proofs.lemmas.Bool.{eqb-true, eq-eqb}
use Rattle.std.proofs.lemmas.List.{take-append-drop}
use Rattle.fri_bytes.specs.Laws.{ExactReaders}
use Rattle.wasm_types.specs.Modules.{Module}
use Rattle.wasm_decode.specs.Grammar.{IsU32, IsVector, IsFuncType, IsLimits, IsTable, IsImport, IsGlobal, IsExport, IsStart, IsElem, IsCode, IsSegment, AreCustoms, HasSection, IsSection, header, SpellsModule}
use Rattle.wasm_decode.specs.Values.{u32_at, vector_at, end_of, func_type_at, limits_at, table_at}
use Rattle.wasm_decode.specs.Entries.{import_at, export_at, global_def_at, start_at, elem_at, segment_at, code_at}
use Rattle.wasm_decode.specs.Sections.{customs_at, section_at, header_at, module_of_bytes}
use Rattle.wasm_decode.proofs.ReaderSteps.{bind_some, guard_some}
use Rattle.wasm_decode.proofs.ValueLemmas.{vector_reads, end_takes, func_type_reads, limits_reads, table_reads}
use Rattle.wasm_decode.proofs.EntryLemmas.{indices_read, import_reads, export_reads, global_reads, start_reads, elem_reads, segment_reads, code_reads}
use Rattle.wasm_decode.proofs.SectionLemmas.{Tail, tail_end, tail_after, section_takes, section_again, customs_take, customs_again}

header_takes : (bytes rest : List ℕ) → header_at bytes ≡ Some rest → bytes ≡ header ++ rest
unfolding header_at
header_takes bytes rest e =
    let g = guard_some _ _ _ e in
    let front : header ≡ take 8 bytes = (bytes_decides header (take 8 bytes)).0 g.0 in
    sym (take-append-drop 8 bytes) ∙ ap (λ (s : List ℕ). s ++ drop 8 bytes) (sym front) ∙ ap (λ (s : List ℕ). header ++ s) g.1

header_again : (rest : List ℕ) → header_at (header ++ rest) ≡ Some rest
unfolding header_at
header_again rest = refl

-- ---- the sections from each id on

abbrev From12 : List ℕ → Module → List ℕ → Type 0
From12 indices m = AreCustoms

abbrev From11 : List ℕ → Module → List ℕ → Type 0
From11 indices m = HasSection (IsSection 11 [] (IsVector IsSegment) m.segments) (From12 indices m)

abbrev From10 : List ℕ → Module → List ℕ → Type 0
From10 indices m = HasSection (IsSection 10 [] (IsCode indices) m.funcs) (From11 indices m)

abbrev From9 : List ℕ → Module → List ℕ → Type 0
From9 indices m = HasSection (IsSection 9 [] (IsVector IsElem) m.elems) (From10 indices m)

abbrev From8 : List ℕ → Module → List ℕ → Type 0
From8 indices m = HasSection (IsSection 8 None IsStart m.start) (From9 indices m)

abbrev From7 : List ℕ → Module → List ℕ → Type 0
From7 indices m = HasSection (IsSection 7 [] (IsVector IsExport) m.exports) (From8 indices m)

abbrev From6 : List ℕ → Module → List ℕ → Type 0
From6 indices m = HasSection (IsSection 6 [] (IsVector IsGlobal) m.globals) (From7 indices m)

abbrev From5 : List ℕ → Module → List ℕ → Type 0
From5 indices m = HasSection (IsSection 5 [] (IsVector IsLimits) m.mems) (From6 indices m)

abbrev From4 : List ℕ → Module → List ℕ → Type 0
From4 indices m = HasSection (IsSection 4 [] (IsVector IsTable) m.tables) (From5 indices m)

abbrev From3 : List ℕ → Module → List ℕ → Type 0
From3 indices m = HasSection (IsSection 3 [] (IsVector IsU32) indices) (From4 indices m)

abbrev From2 : List ℕ → Module → List ℕ → Type 0
From2 indices m = HasSection (IsSection 2 [] (IsVector IsImport) m.imports) (From3 indices m)

abbrev From1 : List ℕ → Module → List ℕ → Type 0
From1 indices m = HasSection (IsSection 1 [] (IsVector IsFuncType) m.types) (From2 indices m)

-- the steps of a reading that gave something, with the bytes after each
record Steps (bytes : List ℕ) (m : Module) : Type 0 where
  indices : List ℕ
  rest0 : List ℕ
  rest1 : List ℕ
  rest2 : List ℕ
  rest3 : List ℕ
  rest4 : List ℕ
  rest5 : List ℕ
  rest6 : List ℕ
  rest7 : List ℕ
  rest8 : List ℕ
  rest9 : List ℕ
  rest10 : List ℕ
  rest11 : List ℕ
  step0 : header_at bytes ≡ Some rest0
  step1 : section_at 1 [] (vector_at func_type_at) rest0 ≡ Some (m.types, rest1)
  step2 : section_at 2 [] (vector_at import_at) rest1 ≡ Some (m.imports, rest2)
  step3 : section_at 3 [] (vector_at u32_at) rest2 ≡ Some (indices, rest3)
  step4 : section_at 4 [] (vector_at table_at) rest3 ≡ Some (m.tables, rest4)
  step5 : section_at 5 [] (vector_at limits_at) rest4 ≡ Some (m.mems, rest5)
  step6 : section_at 6 [] (vector_at global_def_at) rest5 ≡ Some (m.globals, rest6)
  step7 : section_at 7 [] (vector_at export_at) rest6 ≡ Some (m.exports, rest7)
  step8 : section_at 8 None start_at rest7 ≡ Some (m.start, rest8)
  step9 : section_at 9 [] (vector_at elem_at) rest8 ≡ Some (m.elems, rest9)
  step10 : section_at 10 [] (code_at indices) rest9 ≡ Some (m.funcs, rest10)
  step11 : section_at 11 [] (vector_at segment_at) rest10 ≡ Some (m.segments, rest11)
  last : customs_at rest11 ≡ Some []
  same_count : length m.funcs ≡ length indices

module_steps : (bytes : List ℕ) (m : Module) → module_of_bytes bytes ≡ Some m → Steps bytes m
unfolding module_of_bytes
module_steps bytes m e =
    let s0 = bind_some _ _ _ e in
    let s1 = bind_some _ _ _ s0.2 in
    let s2 = bind_some _ _ _ s1.2 in
    let s3 = bind_some _ _ _ s2.2 in
    let s4 = bind_some _ _ _ s3.2 in
    let s5 = bind_some _ _ _ s4.2 in
    let s6 = bind_some _ _ _ s5.2 in
    let s7 = bind_some _ _ _ s6.2 in
    let s8 = bind_some _ _ _ s7.2 in
    let s9 = bind_some _ _ _ s8.2 in
    let s10 = bind_some _ _ _ s9.2 in
    let s11 = bind_some _ _ _ s10.2 in
    let customs = bind_some _ _ _ s11.2 in
    let end = bind_some _ _ _ customs.2 in
    let g = guard_some _ _ _ end.2 in
    let nothing : customs.0 ≡ [] = end_takes customs.0 end.0 end.1 in
    subst (Steps bytes) g.1 (record {
      indices = s3.0.0;
      rest0 = s0.0;
      rest1 = s1.0.1;
      rest2 = s2.0.1;
      rest3 = s3.0.1;
      rest4 = s4.0.1;
      rest5 = s5.0.1;
      rest6 = s6.0.1;
      rest7 = s7.0.1;
      rest8 = s8.0.1;
      rest9 = s9.0.1;
      rest10 = s10.0.1;
      rest11 = s11.0.1;
      step0 = s0.1;
      step1 = s1.1;
      step2 = s2.1;
      step3 = s3.1;
      step4 = s4.1;
      step5 = s5.1;
      step6 = s6.1;
      step7 = s7.1;
      step8 = s8.1;
      step9 = s9.1;
      step10 = s10.1;
      step11 = s11.1;
      last = customs.1 ∙ ap (λ (r : List ℕ). Some r) nothing;
      same_count = eqb-true _ _ g.0;
    })

read_from : (bytes : List ℕ) (m : Module) → Steps bytes m → module_of_bytes bytes ≡ Some m
unfolding module_of_bytes end_of
read_from bytes m h =
    let same : eqb (length m.funcs) (length h.indices) ≡ true = eq-eqb _ _ h.same_count in
    rw (h.step0, h.step1, h.step2, h.step3, h.step4, h.step5, h.step6, h.step7, h.step8, h.step9, h.step10, h.step11, h.last, same) refl

module _ (readers : ExactReaders) where
  spells_from : (bytes : List ℕ) (m : Module) → Steps bytes m → SpellsModule bytes m
  spells_from bytes m h =
      let indices = h.indices in
      let f12 : From12 indices m h.rest11 = customs_take readers h.rest11 h.last in
      let f11 : From11 indices m h.rest10 = section_takes readers 11 [] (IsVector IsSegment) m.segments (From12 indices m) (vector_at segment_at) (vector_reads readers IsSegment segment_at (segment_reads readers)) h.rest10 h.rest11 h.step11 f12 in
      let f10 : From10 indices m h.rest9 = section_takes readers 10 [] (IsCode indices) m.funcs (From11 indices m) (code_at indices) (code_reads readers indices) h.rest9 h.rest10 h.step10 f11 in
      let f9 : From9 indices m h.rest8 = section_takes readers 9 [] (IsVector IsElem) m.elems (From10 indices m) (vector_at elem_at) (vector_reads readers IsElem elem_at (elem_reads readers)) h.rest8 h.rest9 h.step9 f10 in
      let f8 : From8 indices m h.rest7 = section_takes readers 8 None IsStart m.start (From9 indices m) start_at (start_reads readers) h.rest7 h.rest8 h.step8 f9 in
      let f7 : From7 indices m h.rest6 = section_takes readers 7 [] (IsVector IsExport) m.exports (From8 indices m) (vector_at export_at) (vector_reads readers IsExport export_at (export_reads readers)) h.rest6 h.rest7 h.step7 f8 in
      let f6 : From6 indices m h.rest5 = section_takes readers 6 [] (IsVector IsGlobal) m.globals (From7 indices m) (vector_at global_def_at) (vector_reads readers IsGlobal global_def_at (global_reads readers)) h.rest5 h.rest6 h.step6 f7 in
      let f5 : From5 indices m h.rest4 = section_takes readers 5 [] (IsVector IsLimits) m.mems (From6 indices m) (vector_at limits_at) (vector_reads readers IsLimits limits_at (limits_reads readers)) h.rest4 h.rest5 h.step5 f6 in
      let f4 : From4 indices m h.rest3 = section_takes readers 4 [] (IsVector IsTable) m.tables (From5 indices m) (vector_at table_at) (vector_reads readers IsTable table_at (table_reads readers)) h.rest3 h.rest4 h.step4 f5 in
      let f3 : From3 indices m h.rest2 = section_takes readers 3 [] (IsVector IsU32) indices (From4 indices m) (vector_at u32_at) (indices_read readers) h.rest2 h.rest3 h.step3 f4 in
      let f2 : From2 indices m h.rest1 = section_takes readers 2 [] (IsVector IsImport) m.imports (From3 indices m) (vector_at import_at) (vector_reads readers IsImport import_at (import_reads readers)) h.rest1 h.rest2 h.step2 f3 in
      let f1 : From1 indices m h.rest0 = section_takes readers 1 [] (IsVector IsFuncType) m.types (From2 indices m) (vector_at func_type_at) (vector_reads readers IsFuncType func_type_at (func_type_reads readers)) h.rest0 h.rest1 h.step1 f2 in
      record { sections = h.rest0; indices = indices; parts = header_takes bytes h.rest0 h.step0; are_sections = f1; same_count = h.same_count }

  pub module_takes : (bytes : List ℕ) (m : Module) → module_of_bytes bytes ≡ Some m → SpellsModule bytes m
  module_takes bytes m e = spells_from bytes m (module_steps bytes m e)

  -- ---- what is spelled is read

  tail11 : (indices : List ℕ) (m : Module) → Tail 11 (From12 indices m)
  tail11 indices m = tail_end readers 11

  tail10 : (indices : List ℕ) (m : Module) → Tail 10 (From11 indices m)
  tail10 indices m = tail_after readers 10 11 [] (IsVector IsSegment) m.segments (From12 indices m) (lit< tt) (tail11 indices m)

  tail9 : (indices : List ℕ) (m : Module) → Tail 9 (From10 indices m)
  tail9 indices m = tail_after readers 9 10 [] (IsCode indices) m.funcs (From11 indices m) (lit< tt) (tail10 indices m)

  tail8 : (indices : List ℕ) (m : Module) → Tail 8 (From9 indices m)
  tail8 indices m = tail_after readers 8 9 [] (IsVector IsElem) m.elems (From10 indices m) (lit< tt) (tail9 indices m)

  tail7 : (indices : List ℕ) (m : Module) → Tail 7 (From8 indices m)
  tail7 indices m = tail_after readers 7 8 None IsStart m.start (From9 indices m) (lit< tt) (tail8 indices m)

  tail6 : (indices : List ℕ) (m : Module) → Tail 6 (From7 indices m)
  tail6 indices m = tail_after readers 6 7 [] (IsVector IsExport) m.exports (From8 indices m) (lit< tt) (tail7 indices m)

  tail5 : (indices : List ℕ) (m : Module) → Tail 5 (From6 indices m)
  tail5 indices m = tail_after readers 5 6 [] (IsVector IsGlobal) m.globals (From7 indices m) (lit< tt) (tail6 indices m)

  tail4 : (indices : List ℕ) (m : Module) → Tail 4 (From5 indices m)
  tail4 indices m = tail_after readers 4 5 [] (IsVector IsLimits) m.mems (From6 indices m) (lit< tt) (tail5 indices m)

  tail3 : (indices : List ℕ) (m : Module) → Tail 3 (From4 indices m)
  tail3 indices m = tail_after readers 3 4 [] (IsVector IsTable) m.tables (From5 indices m) (lit< tt) (tail4 indices m)

  tail2 : (indices : List ℕ) (m : Module) → Tail 2 (From3 indices m)
  tail2 indices m = tail_after readers 2 3 [] (IsVector IsU32) indices (From4 indices m) (lit< tt) (tail3 indices m)

  tail1 : (indices : List ℕ) (m : Module) → Tail 1 (From2 indices m)
  tail1 indices m = tail_after readers 1 2 [] (IsVector IsImport) m.imports (From3 indices m) (lit< tt) (tail2 indices m)

  again_steps : (bytes : List ℕ) (m : Module) → SpellsModule bytes m → Steps bytes m
  again_steps bytes m h =
      let indices = h.indices in
      let rest0 = h.sections in
      let f1 : From1 indices m rest0 = h.are_sections in
      let s1 = section_again readers 1 [] (IsVector IsFuncType) m.types (From2 indices m) (vector_at func_type_at) (vector_reads readers IsFuncType func_type_at (func_type_reads readers)) (lit< tt) (tail1 indices m) rest0 f1 in
      let s2 = section_again readers 2 [] (IsVector IsImport) m.imports (From3 indices m) (vector_at import_at) (vector_reads readers IsImport import_at (import_reads readers)) (lit< tt) (tail2 indices m) s1.0 s1.2 in
      let s3 = section_again readers 3 [] (IsVector IsU32) indices (From4 indices m) (vector_at u32_at) (indices_read readers) (lit< tt) (tail3 indices m) s2.0 s2.2 in
      let s4 = section_again readers 4 [] (IsVector IsTable) m.tables (From5 indices m) (vector_at table_at) (vector_reads readers IsTable table_at (table_reads readers)) (lit< tt) (tail4 indices m) s3.0 s3.2 in
      let s5 = section_again readers 5 [] (IsVector IsLimits) m.mems (From6 indices m) (vector_at limits_at) (vector_reads readers IsLimits limits_at (limits_reads readers)) (lit< tt) (tail5 indices m) s4.0 s4.2 in
      let s6 = section_again readers 6 [] (IsVector IsGlobal) m.globals (From7 indices m) (vector_at global_def_at) (vector_reads readers IsGlobal global_def_at (global_reads readers)) (lit< tt) (tail6 indices m) s5.0 s5.2 in
      let s7 = section_again readers 7 [] (IsVector IsExport) m.exports (From8 indices m) (vector_at export_at) (vector_reads readers IsExport export_at (export_reads readers)) (lit< tt) (tail7 indices m) s6.0 s6.2 in
      let s8 = section_again readers 8 None IsStart m.start (From9 indices m) start_at (start_reads readers) (lit< tt) (tail8 indices m) s7.0 s7.2 in
      let s9 = section_again readers 9 [] (IsVector IsElem) m.elems (From10 indices m) (vector_at elem_at) (vector_reads readers IsElem elem_at (elem_reads readers)) (lit< tt) (tail9 indices m) s8.0 s8.2 in
      let s10 = section_again readers 10 [] (IsCode indices) m.funcs (From11 indices m) (code_at indices) (code_reads readers indices) (lit< tt) (tail10 indices m) s9.0 s9.2 in
      let s11 = section_again readers 11 [] (IsVector IsSegment) m.segments (From12 indices m) (vector_at segment_at) (vector_reads readers IsSegment segment_at (segment_reads readers)) (lit< tt) (tail11 indices m) s10.0 s10.2 in
      record {
        indices = indices;
        rest0 = rest0;
        rest1 = s1.0;
        rest2 = s2.0;
        rest3 = s3.0;
        rest4 = s4.0;
        rest5 = s5.0;
        rest6 = s6.0;
        rest7 = s7.0;
        rest8 = s8.0;
        rest9 = s9.0;
        rest10 = s10.0;
        rest11 = s11.0;
        step0 = ap header_at h.parts ∙ header_again rest0;
        step1 = s1.1;
        step2 = s2.1;
        step3 = s3.1;
        step4 = s4.1;
        step5 = s5.1;
        step6 = s6.1;
        step7 = s7.1;
        step8 = s8.1;
        step9 = s9.1;
        step10 = s10.1;
        step11 = s11.1;
        last = customs_again readers s11.0 s11.2;
        same_count = h.same_count;
      }

  pub module_again : (bytes : List ℕ) (m : Module) → SpellsModule bytes m → module_of_bytes bytes ≡ Some m
  module_again bytes m h = read_from bytes m (again_steps bytes m h)
