-- Reading numbers, vectors and types from the front of bytes: the value, and the bytes after it.
use Rattle.std.specs.Prelude.{ℕ, zero, suc, ◌^◌, List, [], ◌∷◌, length, Bool, true, false, Option, Some, None, ◌==◌, if◌then◌else◌}
use Rattle.std.specs.Int.{w32, w64, cast_unsigned}
use Rattle.std.specs.Str.{is_utf8}
use Rattle.fri_bytes.specs.Leb.{unsigned_at, signed_at}
use Rattle.fri_bytes.specs.Reading.{byte_at, piece_at, le_at}
use Rattle.wasm_types.specs.declared.code.ValType.{ValType}
use Rattle.wasm_types.specs.declared.code.ValType.TheVariants.{I32, I64, F32, F64}
use Rattle.wasm_types.specs.declared.modules.Limits.{Limits}
use Rattle.wasm_types.specs.Modules.{FuncType}

-- a value and the bytes after it, or nothing
abbrev pub Reader : Type 0 → Type 0
Reader A = List ℕ → Option (A × List ℕ)

infixl 10 ◌>>=◌
-- a step, and where it gives something the next one
abbrev pub ◌>>=◌ : {A B : Type 0} → Option A → (A → Option B) → Option B
(Some x) >>= f = f x
None >>= f = None

-- ---- numbers

-- an unsigned number of 32 bits
abbrev pub u32_at : Reader ℕ
u32_at = unsigned_at (2 ^ 32)

-- the bits of a signed number of 32 bits
unfoldable pub i32_at : Reader ℕ
i32_at bytes = do
  z ← signed_at (2 ^ 31) bytes
  Some (cast_unsigned w32 z.0, z.1)

-- the bits of a signed number of 64 bits
unfoldable pub i64_at : Reader ℕ
i64_at bytes = do
  z ← signed_at (2 ^ 63) bytes
  Some (cast_unsigned w64 z.0, z.1)

-- the bits of a float of 32 bits
abbrev pub f32_at : Reader ℕ
f32_at = le_at w32

-- the bits of a float of 64 bits
abbrev pub f64_at : Reader ℕ
f64_at = le_at w64

-- a byte that has to be there
unfoldable pub exact_byte_at : ℕ → List ℕ → Option (List ℕ)
exact_byte_at tag bytes = do
  b ← byte_at bytes
  if b.0 == tag then Some b.1 else None

-- ---- vectors

-- so many values
unfoldable pub each_at : {A : Type 0} → Reader A → ℕ → Reader (List A)
each_at read zero bytes = Some ([], bytes)
each_at read (suc n) bytes = do
  first ← read bytes
  others ← each_at read n first.1
  Some (first.0 ∷ others.0, others.1)

-- a count, and that many
unfoldable pub vector_at : {A : Type 0} → Reader A → Reader (List A)
vector_at read bytes = do
  count ← u32_at bytes
  each_at read count.0 count.1

-- a vector of bytes
unfoldable pub byte_vector_at : Reader (List ℕ)
byte_vector_at bytes = do
  size ← u32_at bytes
  piece_at size.0 size.1

-- a vector of bytes that is UTF-8
unfoldable pub utf8_name_at : Reader (List ℕ)
utf8_name_at bytes = do
  name ← byte_vector_at bytes
  if is_utf8 name.0 then Some name else None

-- nothing more
unfoldable pub end_of : List ℕ → Option (Unit {0})
end_of bytes = if length bytes == 0 then Some tt else None

-- all of the bytes
unfoldable pub whole_read : {A : Type 0} → Reader A → List ℕ → Option A
whole_read read bytes = do
  x ← read bytes
  end ← end_of x.1
  Some x.0

-- a vector of bytes, and what reading gives of these
unfoldable pub sized_at : {A : Type 0} → (List ℕ → Option A) → Reader A
sized_at read bytes = do
  contents ← byte_vector_at bytes
  x ← read contents.0
  Some (x, contents.1)

-- ---- types

-- the value type that a byte stands for
unfoldable pub val_type_of : ℕ → Option ValType
val_type_of b =
    if b == 0x7f then Some I32 else
    (if b == 0x7e then Some I64 else
    (if b == 0x7d then Some F32 else
    (if b == 0x7c then Some F64 else None)))

-- a value type
unfoldable pub val_type_at : Reader ValType
val_type_at bytes = do
  b ← byte_at bytes
  type ← val_type_of b.0
  Some (type, b.1)

-- the result of a block
unfoldable pub result_type_at : Reader (Option ValType)
result_type_at bytes = do
  b ← byte_at bytes
  if b.0 == 0x40 then Some (None, b.1) else (do
    type ← val_type_of b.0
    Some (Some type, b.1))

-- a function type
unfoldable pub func_type_at : Reader FuncType
func_type_at bytes = do
  after ← exact_byte_at 0x60 bytes
  params ← vector_at val_type_at after
  results ← vector_at val_type_at params.1
  Some (record { params = params.0; results = results.0 }, results.1)

-- limits with a minimum alone
unfoldable pub min_limits_at : Reader Limits
min_limits_at bytes = do
  min ← u32_at bytes
  Some (record { min = min.0; max = None }, min.1)

-- limits with a minimum and a maximum
unfoldable pub min_max_at : Reader Limits
min_max_at bytes = do
  min ← u32_at bytes
  max ← u32_at min.1
  Some (record { min = min.0; max = Some max.0 }, max.1)

-- limits, after the byte that says whether there is a maximum
unfoldable pub limits_of : ℕ → Reader Limits
limits_of flag bytes =
    if flag == 0x00 then min_limits_at bytes else
    (if flag == 0x01 then min_max_at bytes else None)

-- limits
unfoldable pub limits_at : Reader Limits
limits_at bytes = do
  flag ← byte_at bytes
  limits_of flag.0 flag.1

-- the type of a table
unfoldable pub table_at : Reader Limits
table_at bytes = do
  after ← exact_byte_at 0x70 bytes
  limits_at after

-- whether a global is mutable, after the byte that says it
unfoldable pub mutable_of : ℕ → Reader Bool
mutable_of b bytes =
    if b == 0x00 then Some (false, bytes) else
    (if b == 0x01 then Some (true, bytes) else None)

-- whether a global is mutable
unfoldable pub mutable_at : Reader Bool
mutable_at bytes = do
  b ← byte_at bytes
  mutable_of b.0 b.1

-- the type of a global
unfoldable pub global_type_at : Reader (ValType × Bool)
global_type_at bytes = do
  type ← val_type_at bytes
  mutable ← mutable_at type.1
  Some ((type.0, mutable.0), mutable.1)
