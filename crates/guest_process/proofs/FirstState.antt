-- The process before its first event is one of its module.
use Rattle.std.proofs.Common.{◌≡◌, ℕ, zero, suc, true, false, cond, ◌<◌, ◌≤◌, Bool, ◌&&◌, Option, Some, None, refl, ap, sym, subst, ◌∙◌, arith}
use Rattle.std.specs.Prelude.{All, ◌==◌, length, replicate}
use Rattle.std.specs.List.{list_all, slice_index_or}
use Rattle.std.proofs.lemmas.Option.{same_Some}
use Rattle.guest_memory.specs.Laws.{FreshIsUnstamped, NoLaterWhenWritten}
use Rattle.wasm_types.specs.Modules.{Module, module_of}
use Rattle.guest_module.specs.Library.{IsOfLibrary}
use Rattle.guest_module.specs.Valid.{IsValid}
use Rattle.wasm_store.specs.Start.{first_store, memory_before_segments, empty_table, initial_globals, is_elem_inside, is_segment_inside}
use Rattle.wasm_store.specs.Store.{Store}
use Rattle.wasm_step.specs.Strand.{first_thread}
use Rattle.wasm_store.specs.Suits.{SuitsModule}
use Rattle.wasm_stack.specs.Thread.{Thread}
use Rattle.guest_signals.specs.Signals.{handler_of, no_handlers}
use Rattle.guest_process.specs.GoesOn.{handler}
use Rattle.guest_process.specs.Fits.{StateFits}
use Rattle.guest_process.specs.inside.Meanings.{BodyInvariant, state_of}
use Rattle.guest_process.specs.Sound.{IsSoundProcess, IsStandingAtCall}
use Rattle.guest_process.specs.Start.{waiting_at, begun_process, begun_with}
use Rattle.guest_process.specs.declared.body.Body.{Body}
use Rattle.guest_process.specs.OneEvent.{IsStarted}
use Rattle.guest_process.proofs.FirstFailure.{kept}
use Rattle.guest_process.proofs.KeptFits.{begin_fits}
use Rattle.guest_process.proofs.EventMarks.{first_marks, numbered_suits}

store_module : (m : Module) (g : Store) → first_store m ≡ Some g → g.«module» ≡ m
store_module m g h =
    let globals = initial_globals m in
    let table = empty_table m in
    let memory = memory_before_segments m in
    let inside = list_all (is_elem_inside globals (length table)) m.elems && list_all (is_segment_inside globals memory) m.segments in
    ap (λ g. g.«module») (sym (same_Some _ _ (kept inside _ g h).1))

abbrev nothing : Option ℕ
nothing = None

none_in : (n signal : ℕ) → slice_index_or (replicate n nothing) signal nothing ≡ nothing
none_in zero signal = refl
none_in (suc n) zero = refl
none_in (suc n) (suc signal) = none_in n signal

no_handler : (signal func : ℕ) → handler no_handlers signal ≡ Some func → ⊥
no_handler signal func h = by_test (signal == 0) h
  where
    by_test : (b : Bool) → cond b None (handler_of no_handlers signal) ≡ Some func → ⊥
    by_test true h = cc
    by_test false h = let none = none_in 32 signal in cc

begun_holds : NoLaterWhenWritten → FreshIsUnstamped → (m : Module) (who count : ℕ) (g : Store) (thread : Thread) → who < count → count ≤ 16 → first_store m ≡ Some g → IsValid m → StateFits (begun_process m who count g thread) × IsSoundProcess (begun_process m who count g thread)
begun_holds writes unstamped m who count g thread low few store valid =
    let same : g.«module» ≡ m = store_module m g store in
    let marks = first_marks writes unstamped m g store in
    let begin_stands : IsStandingAtCall g.«module» (waiting_at m thread) = record { same_module = sym same; stands = refl } in (
      record { clock = omega arith; room = omega arith; count = few; who = low; threads = (begin_fits m thread, tt); number = refl; stamps = marks.stamps; global_stamps = marks.global_stamps; size_stamp = marks.size_stamp; even = marks.even },
      record {
        imports = subst (λ m. All (IsOfLibrary m.types) m.imports) (sym same) valid.imports;
        threads = (begin_stands, tt);
        handlers = λ signal func h. absurd (no_handler signal func h);
      },
    )

-- how a process of a valid module begins is such a state
pub started : NoLaterWhenWritten → FreshIsUnstamped → IsStarted
started writes unstamped m who count S valid low few h = by_store (first_store m) refl (first_thread m) h
  where
    by_store : (o : Option Store) → first_store m ≡ o → (thread : Option Thread) → begun_with m who count o thread ≡ Some S → StateFits S × IsSoundProcess S
    by_store None e thread h = cc
    by_store (Some g) e None h = cc
    by_store (Some g) e (Some thread) h =
        subst (λ S. StateFits S × IsSoundProcess S) (same_Some _ _ h) (begun_holds writes unstamped m who count g thread low few e valid)

-- the body with which the code begins, over the store g, is that of a process
pub is_process : NoLaterWhenWritten → FreshIsUnstamped → (p : Body) (g : Store) (thread : Thread) → p.who < p.count → p.count ≤ 16 → first_store (module_of p.«module».now) ≡ Some g → IsValid (module_of p.«module».now) → SuitsModule g
    → state_of p ≡ begun_process (module_of p.«module».now) p.who p.count g thread → BodyInvariant p
is_process writes unstamped p g thread low few store valid suits state =
    let m = module_of p.«module».now in
    let holds = begun_holds writes unstamped m p.who p.count g thread low few store valid in
    let same : p.store ≡ record g { memory = record g.memory { number = 1 } } = ap (λ S. S.store) state in
    record {
      same_module = sym (ap (λ g. g.«module») same ∙ store_module m g store);
      suits = subst SuitsModule (sym same) (numbered_suits g 1 suits);
      fits = subst StateFits (sym state) holds.0;
      sound = subst IsSoundProcess (sym state) holds.1;
    }
