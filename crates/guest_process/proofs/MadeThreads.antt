-- What is known of a thread that is made.
use Rattle.std.proofs.Common.{[], ◌∷◌, ◌≡◌, ℕ, ◌<◌, ◌-◌, Bool, true, false, cond, length, Option, Some, None, refl, ap, sym, subst, ◌∙◌, arith}
use Rattle.std.specs.Prelude.{nat_lt, slice_get}
use Rattle.std.proofs.lemmas.Bool.{ltb-true}
use Rattle.coop_threads.specs.Crew.{most_threads}
use Rattle.wasm_types.specs.Functions.{imported_type, own_func, own_type}
use Rattle.wasm_types.specs.Modules.{Func, FuncType, Module}
use Rattle.wasm_store.specs.Store.{handler_at}
use Rattle.wasm_step.specs.Strand.{IsHandler, Strand, new_thread, started_above}
use Rattle.wasm_stack.specs.Thread.{Thread}
use Rattle.wasm_types.specs.declared.code.ValType.TheVariants as types
use Rattle.wasm_types.specs.declared.code.Value.TheVariants.{I32}
use Rattle.lib_calls.specs.Effects.{minus_one}
use Rattle.guest_process.specs.declared.need.Need.TheVariants as plainly
use Rattle.guest_process.specs.Answers.{Fixed, after_need, spawnable, spawned, spawned_at_index, spawns_thread}
use Rattle.guest_process.specs.Meanings.{plain_need}
use Rattle.guest_process.specs.Start.{waits_at_begin}
use Rattle.guest_process.specs.State.{State, with_new_thread}
use Rattle.guest_process.proofs.HandlerCalls.{found_is}

-- ---- the function that was found

spawnable_parts : (S : State) (index f : ℕ) → spawnable S index ≡ Some f → (nat_lt (length S.crew.threads) most_threads ≡ true) × (handler_at S.store index ≡ Some f)
spawnable_parts S index f h = by_test (nat_lt (length S.crew.threads) most_threads) refl h
  where
    by_test : (b : Bool) → nat_lt (length S.crew.threads) most_threads ≡ b → cond b (handler_at S.store index) None ≡ Some f → (nat_lt (length S.crew.threads) most_threads ≡ true) × (handler_at S.store index ≡ Some f)
    by_test true e h = (e, h)
    by_test false e h = cc

pub has_room : (S : State) (index f : ℕ) → spawnable S index ≡ Some f → length S.crew.threads < most_threads
has_room S index f h = ltb-true (length S.crew.threads) most_threads (spawnable_parts S index f h).0

pub found_at : (S : State) (index f : ℕ) → spawnable S index ≡ Some f → handler_at S.store index ≡ Some f
found_at S index f h = (spawnable_parts S index f h).1

pub found_handler : (S : State) (index f : ℕ) → spawnable S index ≡ Some f → IsHandler S.store.«module» f
found_handler S index f h = found_is S.store index f (found_at S index f h)

pub found_own : (m : Module) (S : State) (index f : ℕ) → m ≡ S.store.«module» → spawnable S index ≡ Some f → IsHandler m f
found_own m S index f same h = subst (λ m. IsHandler m f) (sym same) (found_handler S index f h)

-- ---- a thread can begin with it

own_typed : (m : Module) (o : Option Func) (type : FuncType) → own_type m o ≡ Some type → (func : Func) × (o ≡ Some func)
own_typed m None type h = cc
own_typed m (Some func) type h = (func, refl)

own_is : (m : Module) (f : ℕ) → IsHandler m f → (func : Func) × (own_func m f ≡ Some func)
own_is m f is = by_test (nat_lt f (length m.imports)) refl is.type
  where
    by_test : (b : Bool) → nat_lt f (length m.imports) ≡ b → cond b (imported_type m (slice_get m.imports f)) (own_type m (slice_get m.funcs (f - length m.imports))) ≡ Some (record { params = types.I32 ∷ []; results = [] }) → (func : Func) × (own_func m f ≡ Some func)
    by_test true e h = absurd (omega (arith, ltb-true f (length m.imports) e, is.own))
    by_test false e h = own_typed m (slice_get m.funcs (f - length m.imports)) (record { params = types.I32 ∷ []; results = [] }) h

pub begins : (m : Module) (f arg : ℕ) → IsHandler m f → (thread : Thread) × (new_thread m f arg ≡ Some thread)
begins m f arg is = let own = own_is m f is in (_, ap (λ o. started_above o [] f (I32 arg ∷ [])) own.1)

-- ---- the reply

pub spawned_reply : (S : State) (index arg f : ℕ) → spawnable S index ≡ Some f → plainly.Fixed (length S.crew.threads) ≡ plain_need (spawned S index arg)
spawned_reply S index arg f h =
    let new = begins S.store.«module» f arg (found_handler S index f h) in
    ap (λ thread. plain_need (spawns_thread S thread)) (sym new.1) ∙ ap (λ o. plain_need (spawned_at_index S arg o)) (sym h)

pub not_spawned : (S : State) (index arg : ℕ) → spawnable S index ≡ None → spawned S index arg ≡ Fixed minus_one S
not_spawned S index arg h = ap (spawned_at_index S arg) h

-- ---- the state

pub spawned_so : (S : State) (index arg f : ℕ) → spawnable S index ≡ Some f → after_need (spawned_at_index S arg (Some f)) S ≡ after_need (spawned S index arg) S
spawned_so S index arg f h = ap (λ o. after_need (spawned_at_index S arg o) S) (sym h)

pub none_made : (S : State) (index arg : ℕ) → spawnable S index ≡ None → S ≡ after_need (spawned S index arg) S
none_made S index arg h = ap (λ o. after_need (spawned_at_index S arg o) S) (sym h)

-- a strand at the function's start is that of the new thread
pub begun : (S : State) (m : Module) (f arg : ℕ) (s : Strand) → m ≡ S.store.«module» → s.«module» ≡ m → s.call ≡ None → new_thread m f arg ≡ Some s.thread → with_new_thread S (waits_at_begin s) ≡ after_need (spawned_at_index S arg (Some f)) S
begun S m f arg s same same_module call thread =
    ap (λ s. with_new_thread S (waits_at_begin s)) (same_strand s (same_module ∙ same) call)
    ∙ ap (λ o. after_need (spawns_thread S o) S) (sym thread ∙ ap (λ m. new_thread m f arg) same)
  where
    same_strand : (s : Strand) → s.«module» ≡ S.store.«module» → s.call ≡ None → s ≡ record { «module» = S.store.«module»; thread = s.thread; call = None }
    same_strand s p c = ap {B = Strand} (λ m. record { «module» = m; thread = s.thread; call = s.call }) p ∙ ap {B = Strand} (λ o. record { «module» = S.store.«module»; thread = s.thread; call = o }) c
