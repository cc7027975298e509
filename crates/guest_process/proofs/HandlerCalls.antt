-- What calls do to the handlers of signals.
use Rattle.std.proofs.Common.{◌≡◌, ℕ, zero, suc, Bool, true, false, cond, List, [], ◌∷◌, length, Option, Some, None, refl, ap, sym, subst, ◌∙◌, arith, ◌⊎◌, inl, inr}
use Rattle.std.specs.Prelude.{◌==◌, nat_le, option_map, slice_get}
use Rattle.std.specs.Option.{option_map_or}
use Rattle.std.proofs.lemmas.Bool.{and_parts, leb-true}
use Rattle.std.proofs.lemmas.Option.{same_Some}
use Rattle.call_table.specs.declared.kind.Kind.{Kind}
use Rattle.call_table.specs.declared.kind.Kind.TheVariants.{OnSignal}
use Rattle.lib_calls.specs.Answer.{Answer}
use Rattle.lib_calls.specs.declared.entry.Call.{Call}
use Rattle.guest_signals.specs.Signals.{handler_of, is_signal, with_handler}
use Rattle.wasm_types.specs.declared.code.ValType.{ValType}
use Rattle.wasm_types.specs.declared.code.ValType.TheVariants as types
use Rattle.wasm_types.specs.Functions.{type_of}
use Rattle.wasm_types.specs.Modules.{FuncType, Module}
use Rattle.wasm_store.specs.Store.{Store, func_in_table, handler_at, handler_in, is_handler, is_number_param, takes_number}
use Rattle.wasm_step.specs.Strand.{IsHandler}
use Rattle.guest_process.specs.Answers.{after_need, effects_of_answer, handled, handler_given, handler_named, handles_signal, narrow, handler_removal}
use Rattle.guest_process.specs.GoesOn.{handler}
use Rattle.guest_process.specs.State.{State, with_handlers}
use Rattle.guest_process.proofs.CallEffects.{effects_has}

-- ---- what a call does to the handlers

-- the answer is determined, and so is the state after it
handles_once : (S S' : State) (signal : ℕ) (o : Option (Option ℕ)) → after_need (handles_signal S signal o) S' ≡ after_need (handles_signal S signal o) S
handles_once S S' signal None = refl
handles_once S S' signal (Some h) = refl

pub handled_once : (S S' : State) (signal number : ℕ) → after_need (handled S signal number) S' ≡ after_need (handled S signal number) S
handled_once S S' signal number = handles_once S S' signal (handler_given S signal number)

handles_handlers : (S : State) (signal : ℕ) (o : Option (Option ℕ)) → with_handlers S (after_need (handles_signal S signal o) S).handlers ≡ after_need (handles_signal S signal o) S
handles_handlers S signal None = refl
handles_handlers S signal (Some h) = refl

-- nothing but the handlers changes
pub set_handlers : (S : State) (signal number : ℕ) → with_handlers S (after_need (handled S signal number) S).handlers ≡ after_need (handled S signal number) S
set_handlers S signal number = handles_handlers S signal (handler_given S signal number)

-- no answer to another call changes a handler
pub same_handlers : (k : Kind) (S : State) (t : ℕ) (c : Call) (a : Answer) → (k ≡ OnSignal → ⊥) → (effects_of_answer k S t c a).handlers ≡ S.handlers
same_handlers k S t c a other =
    effects_has (λ S'. S'.handlers ≡ S.handlers) k S t c a
    (record { locks = λ e free. refl; unlocks = λ e held. refl; handles = λ e h given. absurd (other e); spawns = λ e f found thread starts. refl })
    refl refl (λ e. refl)

pub given_handlers : (S : State) (t : ℕ) (c : Call) (a : Answer) → (after_need (handled S (narrow c.a0) (narrow c.a1)) S).handlers ≡ (effects_of_answer OnSignal S t c a).handlers
given_handlers S t c a = ap (λ S'. S'.handlers) (sym (handled_once S _ (narrow c.a0) (narrow c.a1)))

-- ---- each handler is a function that the module itself defines, with one parameter and no result

one_number : (params : List ValType) → is_number_param params ≡ true → params ≡ types.I32 ∷ []
one_number (types.I32 ∷ []) h = refl
one_number [] h = cc
one_number (types.I32 ∷ _ ∷ _) h = cc
one_number (_ ∷ _) h = cc

none_there : (results : List ValType) → nat_le (length results) 0 ≡ true → results ≡ []
none_there [] h = refl
none_there (type ∷ more) h = absurd (omega (arith, leb-true _ 0 h))

number_type : (type : FuncType) → takes_number type ≡ true → type ≡ record { params = types.I32 ∷ []; results = [] }
number_type type h =
    let parts = and_parts (is_number_param type.params) (nat_le (length type.results) 0) h in
    ap {B = FuncType} (λ params. record { params = params; results = type.results }) (one_number type.params parts.0)
    ∙ ap {B = FuncType} (λ results. record { params = types.I32 ∷ []; results = results }) (none_there type.results parts.1)

typed_so : (o : Option FuncType) → option_map_or takes_number o false ≡ true → o ≡ Some (record { params = types.I32 ∷ []; results = [] })
typed_so None h = cc
typed_so (Some type) h = ap Some (number_type type h)

pub handler_is : (m : Module) (f : ℕ) → is_handler m f ≡ true → IsHandler m f
handler_is m f h =
    let parts = and_parts (nat_le (length m.imports) f) _ h in
    record { own = leb-true (length m.imports) f parts.0; type = typed_so (type_of m f) parts.1 }

in_table : (m : Module) (o : Option ℕ) (f : ℕ) → handler_in m o ≡ Some f → IsHandler m f
in_table m None f h = cc
in_table m (Some g) f h = by_test (is_handler m g) refl h
  where
    by_test : (b : Bool) → is_handler m g ≡ b → cond b (Some g) None ≡ Some f → IsHandler m f
    by_test true is h = subst (IsHandler m) (same_Some g f h) (handler_is m g is)
    by_test false is h = cc

-- what is found in the table is such
pub found_is : (store : Store) (index f : ℕ) → handler_at store index ≡ Some f → IsHandler store.«module» f
found_is store index f h = in_table store.«module» (func_in_table (slice_get store.table index)) f h

abbrev pub AreHandlers : Module → List (Option ℕ) → Type 0
AreHandlers m handlers = (signal func : ℕ) → handler handlers signal ≡ Some func → IsHandler m func

named_is : (store : Store) (number f : ℕ) → handler_named store number ≡ Some (Some f) → IsHandler store.«module» f
named_is store number f h = by_test (number == handler_removal) h
  where
    by_found : (o : Option ℕ) → handler_at store number ≡ o → option_map (λ func. Some func) o ≡ Some (Some f) → IsHandler store.«module» f
    by_found None e h = cc
    by_found (Some func) e h = found_is store number f (e ∙ same_Some _ _ h)

    by_test : (b : Bool) → cond b (Some None) (option_map (λ func. Some func) (handler_at store number)) ≡ Some (Some f) → IsHandler store.«module» f
    by_test true h = cc
    by_test false h = by_found (handler_at store number) refl h

pub given_is : (S : State) (signal number f : ℕ) → handler_given S signal number ≡ Some (Some f) → IsHandler S.store.«module» f
given_is S signal number f h = by_test (is_signal signal) h
  where
    by_test : (b : Bool) → cond b (handler_named S.store number) None ≡ Some (Some f) → IsHandler S.store.«module» f
    by_test true h = named_is S.store number f h
    by_test false h = cc

-- what a signal has for its handler after one was set: the one that was set, or the one that it had
set_or_had : (handlers : List (Option ℕ)) (signal : ℕ) (h : Option ℕ) (s f : ℕ) → handler_of (with_handler handlers signal h) s ≡ Some f → (h ≡ Some f) ⊎ (handler_of handlers s ≡ Some f)
set_or_had [] signal h s f is = inr is
set_or_had (first ∷ rest) zero h zero f is = inl is
set_or_had (first ∷ rest) zero h (suc s) f is = inr is
set_or_had (first ∷ rest) (suc signal) h zero f is = inr is
set_or_had (first ∷ rest) (suc signal) h (suc s) f is = set_or_had rest signal h s f is

pub set_sound : (m : Module) (handlers : List (Option ℕ)) (signal : ℕ) (h : Option ℕ) → ((f : ℕ) → h ≡ Some f → IsHandler m f) → AreHandlers m handlers → AreHandlers m (with_handler handlers signal h)
set_sound m handlers signal h is sound s f found = by_test (s == 0) (λ had. sound s f had) found
  where
    by_test : (b : Bool) → (cond b None (handler_of handlers s) ≡ Some f → IsHandler m f) → cond b None (handler_of (with_handler handlers signal h) s) ≡ Some f → IsHandler m f
    by_test true had found = cc
    by_test false had found = elim (set_or_had handlers signal h s f found) [ inl set ↦ is f set | inr old ↦ had old ]
