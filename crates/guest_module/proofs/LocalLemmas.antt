-- What is kept of a function for its calls: its locals without the runs of count 0, and what its type says.
use Rattle.std.proofs.Common.{◌≡◌, ℕ, Bool, true, false, List, [], ◌∷◌, ◌++◌, Option, Some, None, IsSomeAnd, option_and_then, option_map, if◌then◌else◌, length, nat_lt, nat_le, ◌&&◌, replicate, slice_get, refl, sym, ap, ◌∙◌, subst, arith, All}
use Rattle.std.proofs.lemmas.Option.{get_or_from_slice_get, slice_get_within}
use Rattle.std.specs.Option.{option_map_or}
use Rattle.std.proofs.lemmas.Bool.Decides.{nat_tests}
use Rattle.wasm_types.specs.declared.code.ValType.{ValType}
use Rattle.wasm_types.specs.declared.code.Value.{Value}
use Rattle.wasm_types.specs.Calls.{result_of}
use Rattle.wasm_types.specs.Context.{context_of, expand_locals, filled_runs}
use Rattle.wasm_types.specs.Modules.{Func, FuncType, Module}
use Rattle.wasm_types.specs.Rules.{IsTypedFunc}
use Rattle.wasm_types.specs.Typing.{IsWellTyped}
use Rattle.guest_module.specs.Calls.{HasCallType}
use Rattle.guest_module.specs.Valid.{IsValid}
use Rattle.guest_module.specs.declared.valid.CallRow.{CallRow}
use Rattle.guest_module.specs.inside.CallRows.{row_of}
use Rattle.wasm_types.specs.Locals.{zero_of, zeros}

-- a run that is left out adds no local
zeros-kept : (run : ℕ × ValType) (runs : List (ℕ × ValType)) (keeps : Bool) → nat_lt 0 run.0 ≡ keeps →
    zeros (if keeps then run ∷ runs else runs) ≡ replicate run.0 (zero_of run.1) ++ zeros runs
zeros-kept run runs true _ = refl
zeros-kept run runs false e = let none : run.0 ≡ 0 = grind (arith, nat_tests, e) in rw none refl

-- the empty runs add no local
pub zeros-filled : (runs : List (ℕ × ValType)) → zeros (filled_runs runs) ≡ zeros runs
zeros-filled [] = refl
zeros-filled (run ∷ runs) =
    zeros-kept run (filled_runs runs) (nat_lt 0 run.0) refl ∙ ap (λ (rest : List Value). replicate run.0 (zero_of run.1) ++ rest) (zeros-filled runs)

-- ---- the row of a function

at_all : {X : Type 0} (P : X → Type 0) (xs : List X) (k : ℕ) (x : X) → All P xs → slice_get xs k ≡ Some x → P x
at_all P xs k x h at = subst P (get_or_from_slice_get xs k x x at) (h k x (slice_get_within xs k x at))

module _ (m : Module) (o : Option Func) (f : Func) (row : CallRow) (at : o ≡ Some f) (kept : option_map (row_of m) o ≡ Some row) where
  same_row : row_of m f ≡ row
  same_row = some_same (sym (ap (option_map (row_of m)) at) ∙ kept)
    where
      some_same : {a b : CallRow} → Some a ≡ Some b → a ≡ b
      some_same e = cc

  -- what it keeps starts as the function's locals do
  pub row_zeros : zeros row.declared ≡ zeros f.locals
  row_zeros = ap (λ (row : CallRow). zeros row.declared) (sym same_row) ∙ zeros-filled f.locals

  -- it is few where the function takes and declares few
  pub row_few : row.few ≡ (nat_le row.takes 4 && nat_le (length (zeros f.locals)) 4)
  row_few =
      ap (λ (row : CallRow). row.few) (sym same_row)
      ∙ ap (λ (row : CallRow). nat_le row.takes 4 && nat_le (length (zeros row.declared)) 4) same_row
      ∙ ap (λ (values : List Value). nat_le row.takes 4 && nat_le (length values) 4) row_zeros

  -- of a valid module it has what the function's type says
  pub row_typed : (place : ℕ) → IsValid m → slice_get m.funcs place ≡ Some f → HasCallType m f row.takes row.gives
  row_typed place v own = by_type (slice_get m.types f.type_index) refl (at_all (IsTypedFunc m) m.funcs place f v.typed.funcs own)
    where
      by_type : (type : Option FuncType) → slice_get m.types f.type_index ≡ type → IsSomeAnd type (λ t. IsWellTyped (context_of m (t.params ++ expand_locals f.locals) (result_of t)) f.body)
          → HasCallType m f row.takes row.gives
      by_type None e h = absurd h
      by_type (Some type) e h = record {
        type = type;
        at = e;
        takes_is = ap (λ (row : CallRow). row.takes) (sym same_row) ∙ ap (λ o. option_map_or (λ (t : FuncType). length t.params) o 0) e;
        gives_is = ap (λ (row : CallRow). row.gives) (sym same_row) ∙ ap (option_and_then result_of) e;
      }
