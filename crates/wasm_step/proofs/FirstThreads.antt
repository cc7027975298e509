-- The threads of a valid module fit when they begin.
use Rattle.std.proofs.Common.{◌≡◌, ℕ, ◌≤◌, List, [], ◌∷◌, Option, Some, None, length, refl, sym, ap, ◌∙◌, subst}
use Rattle.std.specs.Prelude.{slice_get, if◌then◌else◌}
use Rattle.std.proofs.lemmas.Bool.{le-ltb}
use Rattle.wasm_types.specs.declared.code.Value.{Value}
use Rattle.wasm_types.specs.declared.code.Value.TheVariants.{I32}
use Rattle.wasm_types.specs.declared.code.ValType.{ValType}
use Rattle.wasm_types.specs.declared.code.ValType.TheVariants as types
use Rattle.wasm_types.specs.Modules.{Module, Func}
use Rattle.guest_module.specs.Start.{IsOwnPlain, entry_from}
use Rattle.guest_module.specs.Valid.{IsValid}
use Rattle.wasm_values.specs.Values.{types_of_values}
use Rattle.wasm_step.specs.Fits.{FramesFit, ThreadFits}
use Rattle.wasm_types.specs.Functions.{imported_type, own_type, type_of, own_func}
use Rattle.wasm_step.specs.Strand.{IsHandler, new_thread, thread_in_handler, entry_thread, with_start, first_thread, started_above}
use Rattle.wasm_stack.specs.Thread.{Thread, Frame, waiting_frame}
use Rattle.wasm_step.proofs.CallsFit.{enter_fits}

module _ (m : Module) where
  own_typed : (f : ℕ) → length m.imports ≤ f → type_of m f ≡ own_type m (own_func m f)
  own_typed f le =
      ap (λ b. if b then imported_type m (slice_get m.imports f) else own_type m (own_func m f)) (le-ltb f (length m.imports) le)

  -- a function without a result begins with arguments of its types
  started_fits : (callers : List Frame) (f : ℕ) (args : List Value) (params : List ValType) (t : Thread) → IsValid m → length m.imports ≤ f → type_of m f ≡ Some (record { params = params; results = [] }) → types_of_values args ≡ params → FramesFit m None callers → started_above (own_func m f) callers f args ≡ Some t → ThreadFits m t
  started_fits callers f args params t v le is value_types frames e =
      by_func (own_func m f) refl (sym (own_typed f le) ∙ is) e
    where
      by_func : (o : Option Func) → own_func m f ≡ o → own_type m o ≡ Some (record { params = params; results = [] }) → started_above o callers f args ≡ Some t → ThreadFits m t
      by_func None q h b = cc
      by_func (Some func) q h b =
          let fits = enter_fits m callers f func (record { params = params; results = [] }) args v q h value_types frames in
          let same = some_is b in
          subst (λ (t : Thread). ThreadFits m t) same fits
        where
          some_is : {X : Type 0} {x y : X} → Some x ≡ Some y → x ≡ y
          some_is e' = cc

  pub new_fits : (f arg : ℕ) (t : Thread) → IsValid m → IsHandler m f → new_thread m f arg ≡ Some t → ThreadFits m t
  new_fits f arg t v h e = started_fits [] f (I32 arg ∷ []) (types.I32 ∷ []) t v h.own h.type refl tt e

  pub handler_fits : (t : Thread) (f signal : ℕ) (u : Thread) → IsValid m → IsHandler m f → ThreadFits m t → thread_in_handler m t f signal ≡ Some u → ThreadFits m u
  handler_fits t f signal u v h fits e =
      started_fits (waiting_frame t ∷ t.callers) f (I32 signal ∷ []) (types.I32 ∷ []) u v h.own h.type refl fits e

  pub first_fits : (t : Thread) → IsValid m → ((f : ℕ) → entry_from m m.exports ≡ Some f → IsOwnPlain m f) → ((f : ℕ) → m.start ≡ Some f → IsOwnPlain m f) → first_thread m ≡ Some t → ThreadFits m t
  first_fits t v entry start e = by_entry (entry_from m m.exports) refl e
    where
      by_start : (o : Option ℕ) (u : Thread) → m.start ≡ o → ThreadFits m u → with_start m o (Some u) ≡ Some t → ThreadFits m t
      by_start None u q h e' = let same : u ≡ t = cc in subst (λ (t : Thread). ThreadFits m t) same h
      by_start (Some s) u q h e' =
          let p = start s q in
          started_fits (waiting_frame u ∷ u.callers) s [] [] t v p.own p.type refl h e'

      by_thread : (o : Option Thread) → ((u : Thread) → o ≡ Some u → ThreadFits m u) → with_start m m.start o ≡ Some t → ThreadFits m t
      by_thread None h e' = cc
      by_thread (Some u) h e' = by_start m.start u refl (h u refl) e'

      by_entry : (o : Option ℕ) → entry_from m m.exports ≡ o → with_start m m.start (entry_thread m o) ≡ Some t → ThreadFits m t
      by_entry None q e' = cc
      by_entry (Some f) q e' =
          let p = entry f q in
          by_thread (started_above (own_func m f) [] f []) (λ u b. started_fits [] f [] [] u v p.own p.type refl tt b) e'
