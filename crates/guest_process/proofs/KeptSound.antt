-- A legal event keeps what the strands and handlers of a process owe its module.
use Rattle.std.proofs.Common.{◌≡◌, ℕ, zero, suc, Bool, true, false, cond, List, [], ◌∷◌, Option, Some, None, length, arith, ◌<◌, refl, ap, ◌∙◌, sym, subst}
use Rattle.std.specs.Prelude.{All, get_or, option_and_then, slice_get, ◌==◌, ◌%◌, ◌^◌}
use Rattle.std.proofs.lemmas.Option.{same_Some}
use Rattle.call_table.specs.Table.{kind_named, row}
use Rattle.call_table.specs.declared.kind.Kind.{Kind}
use Rattle.call_table.specs.declared.kind.Kind.TheVariants.{Begin}
use Rattle.lib_calls.specs.Answer.{Answer, answer_of}
use Rattle.lib_calls.specs.declared.entry.Call.{Call}
use Rattle.lib_calls.specs.declared.entry.Entry.{Entry}
use Rattle.wasm_types.specs.declared.modules.ImportDesc.{ImportDesc}
use Rattle.wasm_types.specs.declared.modules.ImportDesc.TheVariants as desc
use Rattle.wasm_types.specs.declared.code.ValType.TheVariants.{I32, I64}
use Rattle.wasm_types.specs.declared.code.Value.TheVariants as values
use Rattle.guest_module.specs.Library.{IsOfLibrary, importable, imported_type_index, kind_at, signature_type, unless_begin}
use Rattle.wasm_types.specs.Modules.{Module, Import, FuncType}
use Rattle.wasm_types.specs.Functions.{described_type, imported_type}
use Rattle.wasm_step.specs.Laws.{KeepsModule}
use Rattle.wasm_step.specs.Strand.{IsHandler, IsResult, first_result, library_result}
use Rattle.wasm_stack.specs.Thread.{Thread}
use Rattle.wasm_stack.specs.declared.call.CallSite.{CallSite}
use Rattle.guest_process.specs.declared.waiting.Waiting.{Waiting}
use Rattle.guest_process.specs.Answers.{effects_of_answer, narrow}
use Rattle.guest_process.specs.Fits.{Each}
use Rattle.guest_process.specs.GoesOn.{handler, stands}
use Rattle.guest_process.specs.Kinds.{reply_value}
use Rattle.guest_process.specs.Legal.{reason_at}
use Rattle.guest_process.specs.Next.{next, next_at_thread}
use Rattle.guest_process.specs.OneEvent.{IsKeptSound}
use Rattle.guest_process.specs.Sound.{IsSoundProcess, IsStandingAtCall, StandsAtKind}
use Rattle.guest_process.specs.Start.{waiting_at}
use Rattle.guest_process.specs.State.{State, is_running, thread_at}
use Rattle.guest_process.proofs.KeptByEvents.{Stand, affected, event_affects, went_on}
use Rattle.guest_process.proofs.CallEffects.{effects_has}
use Rattle.guest_process.proofs.HandlerCalls.{AreHandlers, given_is, set_sound}
use Rattle.guest_process.proofs.FirstFailure.{unless_none}

-- a reply is a value of the width of the result
width_fits : (none narrow : Bool) (reply : ℕ) → IsResult (slice_get (cond none [] (cond narrow (I32 ∷ []) (I64 ∷ []))) 0) (cond none None (cond narrow (Some (values.I32 (reply % 2 ^ 32))) (Some (values.I64 reply))))
width_fits true narrow reply = tt
width_fits false true reply = tt
width_fits false false reply = tt

value_fits : (kind : Kind) (reply : ℕ) → IsResult (slice_get (signature_type (row kind).signature).results 0) (reply_value kind reply)
value_fits kind reply = let width = (row kind).signature.result in width_fits (width == 0) (width == 32) reply

-- `begin` is not imported
not_begin : (name : List ℕ) → importable name ≡ Some Begin → ⊥
unfolding importable
not_begin name h = by_kind (kind_named name) h
  where
    by_kind : (o : Option Kind) → option_and_then unless_begin o ≡ Some Begin → ⊥
    by_kind None h = cc
    by_kind (Some Begin) h = cc
    by_kind (Some _) h = cc

-- each import of the library is of its kind's type
got : (imports : List Import) (f : ℕ) (import : Import) → slice_get imports f ≡ Some import → (f < length imports) × (get_or imports f import ≡ import)
got [] f import h = cc
got (first ∷ rest) zero import h = (omega arith, same_Some _ _ h)
got (first ∷ rest) (suc f) import h = let later = got rest f import h in (omega (arith, later.0), later.1)

imported : (types : List FuncType) (imports : List Import) (f : ℕ) → All (IsOfLibrary types) imports → (import : Import) → slice_get imports f ≡ Some import → IsOfLibrary types import
imported types imports f all import h = let at = got imports f import h in subst (IsOfLibrary types) at.1 (all f import at.0)

described_as : (m : Module) (desc : ImportDesc) (index : ℕ) (type : FuncType) → imported_type_index desc ≡ Some index → slice_get m.types index ≡ Some type → described_type m desc ≡ Some type
described_as m (desc.Func t) index type e h = ap (slice_get m.types) (same_Some t index e) ∙ h
described_as m (desc.Table limits) index type e h = cc
described_as m (desc.Memory limits) index type e h = cc
described_as m (desc.Global kind mutable) index type e h = cc

stand_by : (m : Module) (w : Waiting) (func : ℕ) (kind : Kind) → (kind ≡ Begin → ⊥) → w.strand.call ≡ Some func → ((reply : ℕ) → IsResult (library_result m func) (reply_value kind reply)) → StandsAtKind m w kind
stand_by m w func Begin not_begin at gives = absurd (not_begin refl)
stand_by m w func _ not_begin at gives = (func, at, gives)

stand_at : (m : Module) (w : Waiting) (func : ℕ) (kind : Kind) → All (IsOfLibrary m.types) m.imports → w.strand.call ≡ Some func → (o : Option Import) → slice_get m.imports func ≡ o → option_and_then (λ (i : Import). importable i.name) o ≡ Some kind → StandsAtKind m w kind
stand_at m w func kind all c None at h = cc
stand_at m w func kind all c (Some import) at h =
    let is = imported m.types m.imports func all import at in
    let same : is.kind ≡ kind = same_Some _ _ (sym is.named ∙ h) in
    let result : library_result m func ≡ slice_get (signature_type (row is.kind).signature).results 0 =
    ap (λ o. first_result (imported_type m o)) at ∙ ap first_result (described_as m import.desc is.type_index (signature_type (row is.kind).signature) is.is_func is.typed) in
    let results = result ∙ ap (λ (kind : Kind). slice_get (signature_type (row kind).signature).results 0) same in
    stand_by m w func kind (λ begin. not_begin import.name (h ∙ ap Some begin)) c (λ reply. rw results (value_fits kind reply))

stand_sound : (m : Module) → All (IsOfLibrary m.types) m.imports → (S : State) (thread : Thread) (site : CallSite) (kind : Kind) → S.store.«module» ≡ m → kind_at m site.func ≡ Some kind → IsStandingAtCall m (stands S thread site kind)
stand_sound m all S thread site kind e h = record {
  same_module = e;
  stands = stand_at m (stands S thread site kind) site.func kind all refl (slice_get m.imports site.func) refl h;
}

begin_stands : (m : Module) (thread : Thread) → IsStandingAtCall m (waiting_at m thread)
begin_stands m thread = record { same_module = refl; stands = refl }

pub handlers_sound : (k : Kind) (S : State) (t : ℕ) (c : Call) (a : Answer) → AreHandlers S.store.«module» S.handlers → AreHandlers S.store.«module» (effects_of_answer k S t c a).handlers
handlers_sound k S t c a sound =
    effects_has (λ S'. AreHandlers S.store.«module» S'.handlers) k S t c a
    (record {
      locks = λ e free. sound;
      unlocks = λ e held. sound;
      handles = λ e h given. set_sound S.store.«module» S.handlers (narrow c.a0) h (λ f is. given_is S (narrow c.a0) (narrow c.a1) f (given ∙ ap Some is)) sound;
      spawns = λ e f found thread starts. sound;
    })
    sound sound (λ e. sound)

-- what an answer leaves of the handlers is of the module, and so they stay as the thread goes on
sound_at : KeepsModule → (S : State) (e : Entry) → IsSoundProcess S → (o : Option Waiting) → reason_at S e o ≡ None → IsSoundProcess (next_at_thread S e o)
sound_at keeps S e s None h = cc
sound_at keeps S e s (Some w) h =
    let k = w.call.kind in
    let m = S.store.«module» in
    let a = answer_of e in
    let S' = effects_of_answer k S e.thread w.call a in
    let n = affected (IsStandingAtCall m) k S e.thread w.call a s.threads (begin_stands m) in
    let stand = stand_sound m s.imports in
    let kept = went_on (IsStandingAtCall m) keeps k S' e.thread w e.reply e.signal e.clock n.threads (subst (Stand (IsStandingAtCall m)) (sym n.«module») stand) in
    let same = kept.«module» ∙ n.«module» in
    let S'' = next_at_thread S e (Some w) in
    record {
      imports = subst (λ m. All (IsOfLibrary m.types) m.imports) (sym same) s.imports;
      threads = subst (λ m. Each (IsStandingAtCall m) S''.crew.threads) (sym same) kept.threads;
      handlers = λ signal func h.
          subst (λ m. IsHandler m func) (sym same) (handlers_sound k S e.thread w.call a s.handlers signal func (ap (λ hs. handler hs signal) (sym kept.handlers) ∙ h));
    }

pub sound_kept : KeepsModule → IsKeptSound
sound_kept keeps S e s h = sound_at keeps S e s (thread_at S e.thread) (unless_none (is_running S) _ _ h).1

module_at : KeepsModule → (S : State) (e : Entry) → IsSoundProcess S → (o : Option Waiting) → (next_at_thread S e o).store.«module» ≡ S.store.«module»
module_at keeps S e s None = refl
module_at keeps S e s (Some w) =
    (event_affects (IsStandingAtCall S.store.«module») keeps w.call.kind S e.thread w.call (answer_of e) w e.signal e.clock s.threads (begin_stands S.store.«module») (stand_sound S.store.«module» s.imports)).«module»

-- an event leaves the module as it is
pub next_module : KeepsModule → (S : State) (e : Entry) → IsSoundProcess S → (next S e).store.«module» ≡ S.store.«module»
next_module keeps S e s = module_at keeps S e s (thread_at S e.thread)
