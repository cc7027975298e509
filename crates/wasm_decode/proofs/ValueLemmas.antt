-- Reading numbers, vectors and types gives what their spellings say.
use Rattle.std.proofs.Common.{◌≡◌, ℕ, zero, suc, ◌^◌, Bool, true, false, List, [], ◌∷◌, ◌++◌, length, Option, Some, None, refl, sym, ap, ◌∙◌, subst, append_assoc}
use Rattle.std.specs.Prelude.{◌==◌, if◌then◌else◌}
use Rattle.std.specs.Int.{w32, w64, cast_unsigned}
use Rattle.std.proofs.lemmas.Bool.{eqb-true}
use Rattle.std.proofs.lemmas.List.{append-nil, nil_from_length}
use Rattle.std.proofs.lemmas.Str.{is_utf8-from_IsUtf8, IsUtf8-from_is_utf8}
use Rattle.fri_bytes.specs.Laws.{ExactReaders}
use Rattle.fri_bytes.specs.Leb.{IsSigned, signed_at}
use Rattle.fri_bytes.specs.Reading.{Reads, BeginsSpelling}
use Rattle.wasm_types.specs.declared.code.ValType.{ValType}
use Rattle.wasm_types.specs.declared.code.ValType.TheVariants.{I32, I64, F32, F64}
use Rattle.wasm_types.specs.declared.modules.Limits.{Limits}
use Rattle.wasm_types.specs.Modules.{FuncType}
use Rattle.wasm_decode.specs.Grammar.{IsU32, IsI32, IsI64, IsF32, IsF64, IsEach, IsVector, IsBytes, IsName, IsSized, IsValType, IsResultType, IsFuncType, IsMinMax, IsLimits, IsTable, IsMutable, IsGlobalType}
use Rattle.wasm_decode.specs.Values.{Reader, ◌>>=◌, u32_at, i32_at, i64_at, f32_at, f64_at, each_at, vector_at, byte_vector_at, utf8_name_at, end_of, whole_read, sized_at, val_type_of, val_type_at, result_type_at, func_type_at, min_limits_at, min_max_at, limits_of, limits_at, table_at, mutable_of, mutable_at, global_type_at}
use Rattle.wasm_decode.proofs.ReaderSteps.{bind_some, some_is, guard_some, joined}
use Rattle.wasm_decode.proofs.ComposedReaders.{Behind, AgainBehind, read_as, one_read, two_read, tag_read, byte_read, case_takes, last_takes, alone_takes, all_takes, value_takes}

-- ---- vectors

each_takes : {A : Type 0} (P : List ℕ → A → Type 0) (read : Reader A) → Reads P read → (n : ℕ) (bytes : List ℕ) (xs : List A) (rest : List ℕ) → each_at read n bytes ≡ Some (xs, rest) → BeginsSpelling (IsEach P) bytes xs rest × (length xs ≡ n)
unfolding each_at
each_takes {A} P read laws zero bytes xs rest e =
    let is = some_is ([], bytes) (xs, rest) e in
    subst (λ (y : List A × List ℕ). BeginsSpelling (IsEach P) bytes y.0 y.1 × (length y.0 ≡ 0)) is (([], refl, refl), refl)
each_takes {A} P read laws (suc n) bytes xs rest e =
    let a = bind_some _ _ _ e in
    let b = bind_some _ _ _ a.2 in
    let first = laws.takes bytes a.0.0 a.0.1 a.1 in
    let others = each_takes P read laws n a.0.1 b.0.0 b.0.1 b.1 in
    let is = some_is (a.0.0 ∷ b.0.0, b.0.1) (xs, rest) b.2 in
    subst (λ (y : List A × List ℕ). BeginsSpelling (IsEach P) bytes y.0 y.1 × (length y.0 ≡ suc n)) is
    ((first.0 ++ others.0.0, joined bytes first.0 a.0.1 others.0.0 b.0.1 first.1 others.0.1, (first.0, others.0.0, refl, first.2, others.0.2)), ap suc others.1)

each_again : {A : Type 0} (P : List ℕ → A → Type 0) (read : Reader A) → Reads P read → (s : List ℕ) (xs : List A) (rest : List ℕ) → IsEach P s xs → each_at read (length xs) (s ++ rest) ≡ Some (xs, rest)
unfolding each_at
each_again P read laws s [] rest h = rw h refl
each_again P read laws s (x ∷ xs) rest (first, others, parts, one, more) =
    let front : read (s ++ rest) ≡ Some (x, others ++ rest) = ap read (ap (λ (t : List ℕ). t ++ rest) parts ∙ append_assoc first others rest) ∙ laws.again first x (others ++ rest) one in
    rw (front, each_again P read laws others xs rest more) refl

-- reading all of the bytes gives exactly what the spellings say
pub record ReadsAll {A : Type 0} (P : List ℕ → A → Type 0) (read : List ℕ → Option A) : Type 0 where
  pub takes : (bytes : List ℕ) (x : A) → read bytes ≡ Some x → P bytes x
  pub again : (bytes : List ℕ) (x : A) → P bytes x → read bytes ≡ Some x

pub end_takes : (bytes : List ℕ) (unit : Unit {0}) → end_of bytes ≡ Some unit → bytes ≡ []
unfolding end_of
end_takes bytes unit e = nil_from_length bytes (eqb-true _ _ (guard_some _ _ _ e).0)

pub all_reads : {A : Type 0} (P : List ℕ → A → Type 0) (read : Reader A) → Reads P read → ReadsAll P (whole_read read)
unfolding whole_read end_of
all_reads {A} P read laws = record {
  takes = λ bytes x e.
      let a = bind_some _ _ _ e in
      let end = bind_some _ _ _ a.2 in
      let nothing = end_takes a.0.1 end.0 end.1 in
      let b = laws.takes bytes a.0.0 a.0.1 a.1 in
      let whole : bytes ≡ b.0 = b.1 ∙ ap (λ (r : List ℕ). b.0 ++ r) nothing ∙ append-nil b.0 in
      subst (P bytes) (some_is a.0.0 x end.2) (subst (λ (s : List ℕ). P s a.0.0) (sym whole) b.2);
  again = λ bytes x h.
      let front : read bytes ≡ Some (x, []) = ap read (sym (append-nil bytes)) ∙ laws.again bytes x [] h in
      rw front refl;
}

-- ---- types

val_type_is : (b : ℕ) (t : ValType) → val_type_of b ≡ Some t → IsValType (b ∷ []) t
unfolding val_type_of
val_type_is b t e =
    let P : ℕ → ValType → Type 0 = λ k v. IsValType (k ∷ []) v in
    value_takes P 0x7f b I32 t _ e refl (λ e1.
    value_takes P 0x7e b I64 t _ e1 refl (λ e2.
    value_takes P 0x7d b F32 t _ e2 refl (λ e3.
    value_takes P 0x7c b F64 t _ e3 refl (λ none. absurd cc))))

-- the value type that the first byte says
unfoldable val_type_behind : ℕ → Reader ValType
val_type_behind b bytes = do
  type ← val_type_of b
  Some (type, bytes)

val_type_behind_takes : (b : ℕ) (bytes : List ℕ) (t : ValType) (rest : List ℕ) → val_type_behind b bytes ≡ Some (t, rest) → Behind IsValType b bytes t rest
unfolding val_type_behind
val_type_behind_takes b bytes t rest e =
    let v = bind_some _ _ _ e in
    alone_takes IsValType b bytes t rest v.0 v.2 (val_type_is b v.0 v.1)

val_type_again : (s : List ℕ) (t : ValType) → IsValType s t → AgainBehind val_type_behind s t
unfolding val_type_behind val_type_of
val_type_again s I32 h = record { first = 0x7f; behind = []; parts = h; read = λ rest. refl }
val_type_again s I64 h = record { first = 0x7e; behind = []; parts = h; read = λ rest. refl }
val_type_again s F32 h = record { first = 0x7d; behind = []; parts = h; read = λ rest. refl }
val_type_again s F64 h = record { first = 0x7c; behind = []; parts = h; read = λ rest. refl }

pub val_type_reads : Reads IsValType val_type_at
unfolding val_type_at val_type_behind
val_type_reads = byte_read IsValType val_type_behind val_type_behind_takes val_type_again

-- the result of a block that the first byte says
unfoldable result_behind : ℕ → Reader (Option ValType)
result_behind b bytes =
    if b == 0x40 then Some (None, bytes) else (do
      type ← val_type_of b
      Some (Some type, bytes))

result_behind_takes : (b : ℕ) (bytes : List ℕ) (t : Option ValType) (rest : List ℕ) → result_behind b bytes ≡ Some (t, rest) → Behind IsResultType b bytes t rest
unfolding result_behind
result_behind_takes b bytes t rest e =
    case_takes IsResultType 0x40 b bytes t rest _ _ e (λ here. alone_takes IsResultType 0x40 bytes t rest None here refl) (λ there.
    let v = bind_some _ _ _ there in
    alone_takes IsResultType b bytes t rest (Some v.0) v.2 (val_type_is b v.0 v.1))

result_again : (s : List ℕ) (t : Option ValType) → IsResultType s t → AgainBehind result_behind s t
unfolding result_behind val_type_of
result_again s None h = record { first = 0x40; behind = []; parts = h; read = λ rest. refl }
result_again s (Some I32) h = record { first = 0x7f; behind = []; parts = h; read = λ rest. refl }
result_again s (Some I64) h = record { first = 0x7e; behind = []; parts = h; read = λ rest. refl }
result_again s (Some F32) h = record { first = 0x7d; behind = []; parts = h; read = λ rest. refl }
result_again s (Some F64) h = record { first = 0x7c; behind = []; parts = h; read = λ rest. refl }

pub result_type_reads : Reads IsResultType result_type_at
unfolding result_type_at result_behind
result_type_reads = byte_read IsResultType result_behind result_behind_takes result_again

-- parameters and results
unfoldable params_at : Reader FuncType
params_at bytes = do
  params ← vector_at val_type_at bytes
  results ← vector_at val_type_at params.1
  Some (record { params = params.0; results = results.0 }, results.1)

abbrev AreParams : List ℕ → FuncType → Type 0
AreParams bytes t = (params results : List ℕ) × (bytes ≡ params ++ results) × IsVector IsValType params t.params × IsVector IsValType results t.results

mutable_take : (b : ℕ) (bytes : List ℕ) (m : Bool) (rest : List ℕ) → mutable_of b bytes ≡ Some (m, rest) → Behind IsMutable b bytes m rest
unfolding mutable_of
mutable_take b bytes m rest e =
    case_takes IsMutable 0x00 b bytes m rest _ _ e (λ here. alone_takes IsMutable 0x00 bytes m rest false here refl) (λ there.
    last_takes IsMutable 0x01 b bytes m rest _ there (λ here. alone_takes IsMutable 0x01 bytes m rest true here refl))

mutable_again : (s : List ℕ) (m : Bool) → IsMutable s m → AgainBehind mutable_of s m
unfolding mutable_of
mutable_again s false h = record { first = 0x00; behind = []; parts = h; read = λ rest. refl }
mutable_again s true h = record { first = 0x01; behind = []; parts = h; read = λ rest. refl }

mutable_reads : Reads IsMutable mutable_at
unfolding mutable_at
mutable_reads = byte_read IsMutable mutable_of mutable_take mutable_again

pub global_type_reads : Reads IsGlobalType global_type_at
unfolding global_type_at
global_type_reads =
    two_read IsValType IsMutable IsGlobalType val_type_at mutable_at (λ type mutable. (type, mutable)) val_type_reads mutable_reads
    (λ a b x y p q. (a, b, refl, p, q)) (λ s t h. (h.0, h.1, t.0, t.1, h.2, h.3, h.4, refl))

module _ (readers : ExactReaders) where
  -- ---- numbers

  pub u32_reads : Reads IsU32 u32_at
  u32_reads = readers.unsigned (2 ^ 32)

  pub i32_reads : Reads IsI32 i32_at
  unfolding i32_at
  i32_reads = one_read (IsSigned (2 ^ 31)) IsI32 (signed_at (2 ^ 31)) (cast_unsigned w32) (readers.signed (2 ^ 31)) (λ s z h. (z, h, refl)) (λ s n h. h)

  pub i64_reads : Reads IsI64 i64_at
  unfolding i64_at
  i64_reads = one_read (IsSigned (2 ^ 63)) IsI64 (signed_at (2 ^ 63)) (cast_unsigned w64) (readers.signed (2 ^ 63)) (λ s z h. (z, h, refl)) (λ s n h. h)

  pub f32_reads : Reads IsF32 f32_at
  f32_reads = readers.number w32

  pub f64_reads : Reads IsF64 f64_at
  f64_reads = readers.number w64

  pub vector_reads : {A : Type 0} (P : List ℕ → A → Type 0) (read : Reader A) → Reads P read → Reads (IsVector P) (vector_at read)
  unfolding vector_at
  vector_reads {A} P read laws = record {
    takes = λ bytes xs rest e.
        let a = bind_some _ _ _ e in
        let count = u32_reads.takes bytes a.0.0 a.0.1 a.1 in
        let elements = each_takes P read laws a.0.0 a.0.1 xs rest a.2 in
        (count.0 ++ elements.0.0, joined bytes count.0 a.0.1 elements.0.0 rest count.1 elements.0.1, (count.0, elements.0.0, refl, subst (IsU32 count.0) (sym elements.1) count.2, elements.0.2));
    again = λ s xs rest h.
        let front : u32_at (s ++ rest) ≡ Some (length xs, h.1 ++ rest) = ap u32_at (ap (λ (t : List ℕ). t ++ rest) h.2 ∙ append_assoc h.0 h.1 rest) ∙ u32_reads.again h.0 (length xs) (h.1 ++ rest) h.3 in
        rw front (each_again P read laws h.1 xs rest h.4);
  }

  pub bytes_reads : Reads IsBytes byte_vector_at
  unfolding byte_vector_at
  bytes_reads = record {
    takes = λ bytes contents rest e.
        let a = bind_some _ _ _ e in
        let size = u32_reads.takes bytes a.0.0 a.0.1 a.1 in
        let piece = (readers.piece a.0.0).takes a.0.1 contents rest a.2 in
        let behind : a.0.1 ≡ contents ++ rest = piece.1 ∙ ap (λ (s : List ℕ). s ++ rest) piece.2.1 in
        (size.0 ++ contents, joined bytes size.0 a.0.1 contents rest size.1 behind, (size.0, refl, subst (IsU32 size.0) (sym piece.2.0) size.2));
    again = λ s contents rest h.
        let front : u32_at (s ++ rest) ≡ Some (length contents, contents ++ rest) = ap u32_at (ap (λ (t : List ℕ). t ++ rest) h.1 ∙ append_assoc h.0 contents rest) ∙ u32_reads.again h.0 (length contents) (contents ++ rest) h.2 in
        rw front ((readers.piece (length contents)).again contents contents rest (refl, refl));
  }

  pub name_reads : Reads IsName utf8_name_at
  unfolding utf8_name_at
  name_reads = record {
    takes = λ bytes name rest e.
        let a = bind_some _ _ _ e in
        let g = guard_some _ _ _ a.2 in
        let one = bytes_reads.takes bytes a.0.0 a.0.1 a.1 in
        subst (λ (y : List ℕ × List ℕ). BeginsSpelling IsName bytes y.0 y.1) g.1 (one.0, one.1, (one.2, IsUtf8-from_is_utf8 a.0.0 g.0));
    again = λ s name rest h. rw (bytes_reads.again s name rest h.0, is_utf8-from_IsUtf8 name h.1) refl;
  }

  pub sized_reads : {A : Type 0} (P : List ℕ → A → Type 0) (read : List ℕ → Option A) → ReadsAll P read → Reads (IsSized P) (sized_at read)
  unfolding sized_at
  sized_reads {A} P read laws = record {
    takes = λ bytes x rest e.
        let a = bind_some _ _ _ e in
        let b = bind_some _ _ _ a.2 in
        let sized = bytes_reads.takes bytes a.0.0 a.0.1 a.1 in
        subst (λ (y : A × List ℕ). BeginsSpelling (IsSized P) bytes y.0 y.1) (some_is (b.0, a.0.1) (x, rest) b.2)
        (sized.0, sized.1, (a.0.0, sized.2, laws.takes a.0.0 b.0 b.1));
    again = λ s x rest h. rw (bytes_reads.again s h.0 rest h.1, laws.again h.0 x h.2) refl;
  }

  val_types_read : Reads (IsVector IsValType) (vector_at val_type_at)
  val_types_read = vector_reads IsValType val_type_at val_type_reads

  params_read : Reads AreParams params_at
  unfolding params_at
  params_read =
      two_read (IsVector IsValType) (IsVector IsValType) AreParams (vector_at val_type_at) (vector_at val_type_at) (λ params results. record { params = params; results = results }) val_types_read val_types_read
      (λ a b x y p q. (a, b, refl, p, q)) (λ s t h. (h.0, h.1, t.params, t.results, h.2, h.3, h.4, refl))

  pub func_type_reads : Reads IsFuncType func_type_at
  unfolding func_type_at params_at
  func_type_reads =
      read_as _ IsFuncType func_type_at (tag_read 0x60 AreParams params_at params_read)
      (λ s t h. (h.2.0, h.2.1, h.1 ∙ ap (λ (r : List ℕ). 0x60 ∷ r) h.2.2, h.2.3, h.2.4)) (λ s t h. (h.0 ++ h.1, h.2, (h.0, h.1, refl, h.3, h.4)))

  min_reads : Reads (λ s (l : Limits). IsU32 s l.min × (l.max ≡ None)) min_limits_at
  unfolding min_limits_at
  min_reads = one_read IsU32 _ u32_at (λ min. record { min = min; max = None }) u32_reads (λ s n h. (h, refl)) (λ s l h. (l.min, h.0, ap (λ (m : Option ℕ). record l { max = m }) h.1))

  min_max_reads : Reads (λ s (l : Limits). (max : ℕ) × (l.max ≡ Some max) × (low high : List ℕ) × (s ≡ low ++ high) × IsU32 low l.min × IsU32 high max) min_max_at
  unfolding min_max_at
  min_max_reads =
      two_read IsU32 IsU32 _ u32_at u32_at (λ min max. record { min = min; max = Some max }) u32_reads u32_reads
      (λ a b x y p q. (y, refl, a, b, refl, p, q)) (λ s l h. (h.2, h.3, l.min, h.0, h.4, h.5, h.6, ap (λ (m : Option ℕ). record l { max = m }) h.1))

  limits_take : (flag : ℕ) (bytes : List ℕ) (l : Limits) (rest : List ℕ) → limits_of flag bytes ≡ Some (l, rest) → Behind IsLimits flag bytes l rest
  unfolding limits_of
  limits_take flag bytes l rest e =
      case_takes IsLimits 0x00 flag bytes l rest _ _ e (λ here. all_takes IsLimits 0x00 bytes l rest _ min_limits_at min_reads here (λ s h. subst (IsMinMax (0x00 ∷ s) l.min) (sym h.1) (s, refl, h.0))) (λ there.
      last_takes IsLimits 0x01 flag bytes l rest _ there (λ here. all_takes IsLimits 0x01 bytes l rest _ min_max_at min_max_reads here (λ s h.
      subst (IsMinMax (0x01 ∷ s) l.min) (sym h.1) (h.2, h.3, ap (λ (r : List ℕ). 0x01 ∷ r) h.4, h.5, h.6))))

  limits_again : (s : List ℕ) (min : ℕ) (max : Option ℕ) → IsMinMax s min max → AgainBehind limits_of s (record { min = min; max = max })
  unfolding limits_of
  limits_again s min None h = record { first = 0x00; behind = h.0; parts = h.1; read = λ rest. min_reads.again h.0 _ rest (h.2, refl) }
  limits_again s min (Some max) h = record { first = 0x01; behind = h.0 ++ h.1; parts = h.2; read = λ rest. min_max_reads.again (h.0 ++ h.1) _ rest (max, refl, h.0, h.1, refl, h.3, h.4) }

  pub limits_reads : Reads IsLimits limits_at
  unfolding limits_at
  limits_reads = byte_read IsLimits limits_of limits_take (λ s l h. limits_again s l.min l.max h)

  pub table_reads : Reads IsTable table_at
  unfolding table_at
  table_reads = tag_read 0x70 IsLimits limits_at limits_reads
