-- The operands of one block, and what instructions take from them and put on them.
use Rattle.std.specs.Prelude.{Bool, true, false, List, [], ◌∷◌, Option, Some, None, reverse, if◌then◌else◌}
use Rattle.wasm_types.specs.declared.code.ValType.{ValType}
use Rattle.wasm_types.specs.declared.code.ValType.TheVariants.{I32, I64, F32, F64}
use Rattle.wasm_types.specs.Maybe.{◌>>=◌}

-- the type of an operand, or none where it is not known, which fits every type
abbrev pub Operand : Type 0
Operand = Option ValType

-- The operands of a block, the top first. After a jump the block's code is not reached: then what lies
-- below these is not known.
pub record BlockStack : Type 0 where
  pub types : List Operand
  pub after_jump : Bool

abbrev pub no_operands : BlockStack
no_operands = record { types = []; after_jump = false }

abbrev pub jumped_stack : BlockStack
jumped_stack = record { types = []; after_jump = true }

abbrev pub push_operand : Operand → BlockStack → BlockStack
push_operand x s = record s { types = x ∷ s.types }

-- an operand, and the stack below it
pub record PoppedOperand : Type 0 where
  pub operand : Operand
  pub below : BlockStack

abbrev pub pop_from : List Operand → Bool → Option PoppedOperand
pop_from [] false = None
pop_from [] true = Some (record { operand = None; below = jumped_stack })
pop_from (x ∷ xs) after_jump = Some (record { operand = x; below = record { types = xs; after_jump = after_jump } })

abbrev pub pop : BlockStack → Option PoppedOperand
pop s = pop_from s.types s.after_jump

abbrev pub is_same : ValType → ValType → Bool
is_same I32 I32 = true
is_same I64 I64 = true
is_same F32 F32 = true
is_same F64 F64 = true
is_same _ _ = false

abbrev pub fits_type : Operand → ValType → Bool
fits_type None t = true
fits_type (Some u) t = is_same u t

-- what is left below an operand of this type
abbrev pub pop_type : ValType → BlockStack → Option BlockStack
pop_type t s = do
  top ← pop s
  if fits_type top.operand t then Some top.below else None

-- the same of several types, one after another
abbrev pub pop_each : List ValType → BlockStack → Option BlockStack
pop_each [] s = Some s
pop_each (t ∷ ts) s = pop_type t s >>= pop_each ts

-- the same of several types, the last of which is on top
abbrev pub pop_types : List ValType → BlockStack → Option BlockStack
pop_types ts = pop_each (reverse ts)

-- the same of a result, if there is one
abbrev pub pop_result : Option ValType → BlockStack → Option BlockStack
pop_result None s = Some s
pop_result (Some t) s = pop_type t s

abbrev pub push_result : Option ValType → BlockStack → BlockStack
push_result None s = s
push_result (Some t) s = push_operand (Some t) s

-- the type of two operands of one type
abbrev pub common_type : Operand → Operand → Option Operand
common_type None y = Some y
common_type (Some t) None = Some (Some t)
common_type (Some t) (Some u) = if is_same t u then Some (Some t) else None

-- one of two operands below a test
abbrev pub typed_select : BlockStack → Option BlockStack
typed_select s = do
  tested ← pop_type I32 s
  second ← pop tested
  first ← pop second.below
  chosen ← common_type first.operand second.operand
  Some (push_operand chosen first.below)

abbrev pub has_no_operand : List Operand → Bool
has_no_operand [] = true
has_no_operand (x ∷ xs) = false

-- the result is there, and nothing else
abbrev pub is_exactly : Option ValType → BlockStack → Option BlockStack
is_exactly result s = do
  rest ← pop_result result s
  if has_no_operand rest.types then Some rest else None

-- a jump that takes the label's operand
abbrev pub jump_with : Option ValType → BlockStack → Option BlockStack
jump_with label s = do
  rest ← pop_result label s
  Some jumped_stack

-- an operator's operands in, and its result out
abbrev pub operate : List ValType → Option ValType → BlockStack → Option BlockStack
operate params result s = do
  rest ← pop_types params s
  Some (push_result result rest)

abbrev pub typed_drop_top : BlockStack → Option BlockStack
typed_drop_top s = do
  top ← pop s
  Some top.below
