-- Calls of the library by a thread within its limits.
use Rattle.std.proofs.Common.{◌≡◌, ℕ, ◌+◌, ◌-◌, ◌≤◌, Bool, true, false, Option, Some, None, length, take, refl, sym, ap, ◌∙◌, arith, rules, tests, length-drop}
use Rattle.std.specs.Prelude.{nat_lt, reverse, slice_get, if◌then◌else◌}
use Rattle.std.proofs.lemmas.Bool.{ltb-false}
use Rattle.std.proofs.lemmas.Option.{slice_get_within}
use Rattle.wasm_types.specs.declared.traps.Trap.TheVariants.{Exhausted}
use Rattle.wasm_types.specs.Functions.{imported_type}
use Rattle.wasm_types.specs.Modules.{FuncType, Import, Module}
use Rattle.wasm_stack.specs.After.{Calls, Stops, at_trap}
use Rattle.wasm_stack.specs.Answer.{calling_library}
use Rattle.wasm_stack.specs.Call.{site_of}
use Rattle.wasm_stack.specs.Limits.{ThreadWithin}
use Rattle.wasm_stack.specs.Thread.{Thread, arguments, has_room, size_of_thread, without_operands}
use Rattle.wasm_step.specs.Reduce.{at_call, call, call_library, call_own}

is_imported : (m : Module) (f : ℕ) (type : FuncType) (o : Option Import) → slice_get m.imports f ≡ o → imported_type m o ≡ Some type → nat_lt f (length m.imports) ≡ true
is_imported m f type None at is = cc
is_imported m f type (Some import) at is = let lt = slice_get_within m.imports f import at in search (rules, tests)

-- with no more results than arguments it keeps to the limits
module _ (m : Module) (f : ℕ) (type : FuncType) (t : Thread) (few : length type.results ≤ length type.params) (within : ThreadWithin t) where
  abbrev n : ℕ
  n = length type.params

  has_room_then : nat_lt (length t.stack) n ≡ false → has_room (length type.results) (without_operands n t) ≡ true
  has_room_then enough =
      let size : size_of_thread (without_operands n t) + length type.results ≤ 16384 = omega (arith, within.size, few, length-drop n t.stack, ltb-false (length t.stack) n enough) in
      let frames = within.frames in
      search (rules, tests)

  at_call_stops : (b : Bool) → nat_lt (length t.stack) n ≡ b → at_call (if b then None else Some (reverse (take n t.stack))) f type t ≡ Stops (calling_library (if b then None else Some (reverse (take n t.stack))) f n t)
  at_call_stops true q = refl
  at_call_stops false q = ap (λ b. if b then Stops (Calls (without_operands n t) (site_of f (reverse (take n t.stack)))) else at_trap t Exhausted) (has_room_then q)

  pub library_stops : (k : ℕ) → k ≡ n → imported_type m (slice_get m.imports f) ≡ Some type → call m f t ≡ Stops (calling_library (arguments k t) f k t)
  library_stops k e is =
      ap (λ b. if b then call_library f (imported_type m (slice_get m.imports f)) t else call_own m f (slice_get m.funcs (f - length m.imports)) t) (is_imported m f type (slice_get m.imports f) refl is)
      ∙ ap (λ o. call_library f o t) is
      ∙ at_call_stops (nat_lt (length t.stack) n) refl
      ∙ ap (λ k. Stops (calling_library (arguments k t) f k t)) (sym e)
