-- The opcode table as contracts see what the code has of it.
use Rattle.std.specs.Prelude.{[], ◌∷◌, if◌then◌else◌}
use Rattle.wasm_types.specs.Accesses.{Access}
use Rattle.wasm_types.specs.Numeric.{Operator}
use Rattle.wasm_types.specs.declared.accesses.Access.{Access as RustAccess}
use Rattle.wasm_types.specs.declared.operators.Operator.{Operator as RustOperator}

abbrev pub operator : RustOperator → Operator
operator op = record {
  takes = if op.is_binary then op.operand ∷ op.operand ∷ [] else op.operand ∷ [];
  gives = op.gives;
}

abbrev pub access_of : RustAccess → Access
access_of a = record { moved = a.moved; exponent = a.exponent }
