-- Where floats are in a module.
use Rattle.std.specs.Prelude.{ℕ, Bool, true, false, ◌||◌, Option}
use Rattle.std.specs.List.{list_any}
use Rattle.std.specs.Option.{option_map_or}
use Rattle.wasm_types.specs.declared.code.ValType.{ValType}
use Rattle.wasm_types.specs.declared.code.ValType.TheVariants.{I32, I64, F32, F64}
use Rattle.wasm_types.specs.declared.modules.ImportDesc.{ImportDesc}
use Rattle.wasm_types.specs.declared.modules.ImportDesc.TheVariants as desc
use Rattle.wasm_types.specs.Code.{Tree, Trees, Block, Loop, If, Load, Store, ConstF32, ConstF64, Op, End, Then}
use Rattle.wasm_types.specs.Modules.{FuncType, Import, Func, GlobalDef, Elem, Segment, Module}
use Rattle.wasm_types.specs.Accesses.{Access, load_access, store_access}
use Rattle.wasm_types.specs.Numeric.{Operator, operator_of}

abbrev pub is_float : ValType → Bool
is_float I32 = false
is_float I64 = false
is_float F32 = true
is_float F64 = true

abbrev pub is_float_result : Option ValType → Bool
is_float_result result = option_map_or is_float result false

-- an access moves a float
abbrev pub is_float_access : Option Access → Bool
is_float_access found = option_map_or (λ a. is_float a.moved) found false

-- an operator takes or gives a float
abbrev pub is_float_operator : Option Operator → Bool
is_float_operator found = option_map_or (λ op. list_any is_float op.takes || is_float op.gives) found false

abbrev mutual
  -- an instruction, or one inside it, is one on floats or names a float type
  pub has_float : Tree → Bool
  has_float (Block result body) = is_float_result result || have_float body
  has_float (Loop result body) = is_float_result result || have_float body
  has_float (If result on_true on_false) = is_float_result result || (have_float on_true || have_float on_false)
  has_float (Load opcode align offset) = is_float_access (load_access opcode)
  has_float (Store opcode align offset) = is_float_access (store_access opcode)
  has_float (ConstF32 bits) = true
  has_float (ConstF64 bits) = true
  has_float (Op opcode) = is_float_operator (operator_of opcode)
  has_float _ = false

  -- one of these instructions is
  pub have_float : Trees → Bool
  have_float End = false
  have_float (Then first rest) = has_float first || have_float rest

abbrev pub has_float_type : FuncType → Bool
has_float_type t = list_any is_float t.params || list_any is_float t.results

-- a global of a float type is imported
abbrev pub is_float_import : ImportDesc → Bool
is_float_import (desc.Global value_type mutable) = is_float value_type
is_float_import _ = false

-- also where there are 0 locals of a float type
abbrev pub has_float_func : Func → Bool
has_float_func f = list_any (λ (run : ℕ × ValType). is_float run.1) f.locals || have_float f.body

abbrev pub has_float_global : GlobalDef → Bool
has_float_global g = is_float g.value_type || have_float g.init

-- a float value type or an instruction on floats stands anywhere in the module
abbrev pub is_with_floats : Module → Bool
is_with_floats m =
    list_any has_float_type m.types
    || (list_any (λ (i : Import). is_float_import i.desc) m.imports
    || (list_any has_float_func m.funcs
    || (list_any has_float_global m.globals
    || (list_any (λ (e : Elem). have_float e.offset) m.elems
    || list_any (λ (s : Segment). have_float s.offset) m.segments))))
