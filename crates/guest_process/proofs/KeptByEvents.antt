-- What a legal event keeps of a state.
use Rattle.std.proofs.Common.{◌≡◌, ◌≢◌, ℕ, zero, suc, ◌+◌, ◌≤◌, Bool, true, false, cond, List, [], ◌∷◌, ◌++◌, ◌<◌, length, Option, Some, None, refl, ap, ◌∙◌, sym, subst, arith}
use Rattle.std.specs.Prelude.{slice_get, slice_set}
use Rattle.std.proofs.lemmas.List.{length-set}
use Rattle.coop_threads.specs.Crew.{most_threads}
use Rattle.coop_threads.specs.declared.slot.Slot.{Slot}
use Rattle.coop_threads.specs.declared.slot.Slot.TheVariants.{Kept, Over}
use Rattle.lib_calls.specs.declared.entry.Call.{Call}
use Rattle.guest_module.specs.Library.{kind_at}
use Rattle.wasm_types.specs.Modules.{Module}
use Rattle.wasm_step.specs.Burst.{BurstResult, burst}
use Rattle.wasm_step.specs.Laws.{KeepsModule}
use Rattle.wasm_stack.specs.After.{Halt, Calls, Ends, Traps, Sticks}
use Rattle.wasm_step.specs.Strand.{answered_strand}
use Rattle.wasm_stack.specs.Thread.{Thread}
use Rattle.wasm_stack.specs.declared.call.CallSite.{CallSite}
use Rattle.guest_process.specs.declared.end.End.{End}
use Rattle.guest_process.specs.declared.end.End.TheVariants.{Finished}
use Rattle.call_table.specs.declared.kind.Kind.{Kind}
use Rattle.guest_process.specs.declared.waiting.Waiting.{Waiting}
use Rattle.lib_calls.specs.Answer.{Answer}
use Rattle.guest_process.specs.Answers.{effects_of_answer, narrow}
use Rattle.guest_process.specs.Fits.{Each, HoldsOfSlot}
use Rattle.guest_process.specs.GoesOn.{process_after_burst, after_running, all_over, instruction_budget, with_event_counted, thread_goes_on, handler, thread_runs_on, stands, stopped_thread, stopped_at_call, with_handler_frame}
use Rattle.guest_process.specs.Kinds.{ends_process, reply_value}
use Rattle.guest_process.specs.Start.{waiting_at}
use Rattle.guest_process.specs.State.{State, awaits_event, with_new_thread, with_thread}
use Rattle.guest_process.proofs.CallEffects.{effects_has}
use Rattle.guest_process.proofs.MadeThreads.{has_room}

-- what an answer changes of a state where P is to hold of each live thread: its module, its number and its
-- group stay, and it makes no more threads than there is room for
pub record Affects (P : Waiting → Type 0) (S S' : State) : Type 0 where
  pub who : S'.who ≡ S.who
  pub count : S'.count ≡ S.count
  pub «module» : S'.store.«module» ≡ S.store.«module»
  pub room : length S.crew.threads ≤ most_threads → length S'.crew.threads ≤ most_threads
  pub threads : Each P S'.crew.threads
  pub clock : S'.clock ≡ S.clock
  pub events : S'.events ≡ S.events

-- what thread t changes as it goes on: apart from that, the locks and the handlers stay, and so does each other
-- thread
pub record Keeps (P : Waiting → Type 0) (t : ℕ) (S S' : State) : Type 0 where
  pub who : S'.who ≡ S.who
  pub count : S'.count ≡ S.count
  pub «module» : S'.store.«module» ≡ S.store.«module»
  pub room : length S'.crew.threads ≡ length S.crew.threads
  pub threads : Each P S'.crew.threads
  pub others : (u : ℕ) → u ≢ t → slice_get S'.crew.threads u ≡ slice_get S.crew.threads u
  pub holders : S'.crew.holders ≡ S.crew.holders
  pub handlers : S'.handlers ≡ S.handlers
  pub clock : S'.clock ≡ S.clock
  pub events : S'.events ≡ S.events

pub set_other : (slots : List (Slot Waiting)) (t u : ℕ) (slot : Slot Waiting) → u ≢ t → slice_get (slice_set slots t slot) u ≡ slice_get slots u
set_other [] t u slot h = refl
set_other (first ∷ rest) zero zero slot h = absurd (h refl)
set_other (first ∷ rest) zero (suc u) slot h = refl
set_other (first ∷ rest) (suc t) zero slot h = refl
set_other (first ∷ rest) (suc t) (suc u) slot h = set_other rest t u slot (λ e. h (ap suc e))

pub one_more : (slots : List (Slot Waiting)) (w : Waiting) → length (slots ++ Kept w ∷ []) ≡ length slots + 1
one_more [] w = refl
one_more (slot ∷ slots) w = omega (arith, one_more slots w)

module _ (P : Waiting → Type 0) where
  kept_same : (t : ℕ) (S : State) → Each P S.crew.threads → Keeps P t S S
  kept_same t S f = record { who = refl; count = refl; «module» = refl; room = refl; threads = f; others = λ u h. refl; holders = refl; handlers = refl; clock = refl; events = refl }

  then_kept : (t : ℕ) (S S' S'' : State) → Keeps P t S S' → Keeps P t S' S'' → Keeps P t S S''
  then_kept t S S' S'' k l = record {
    who = l.who ∙ k.who;
    count = l.count ∙ k.count;
    «module» = l.«module» ∙ k.«module»;
    room = l.room ∙ k.room;
    threads = l.threads;
    others = λ u h. l.others u h ∙ k.others u h;
    holders = l.holders ∙ k.holders;
    handlers = l.handlers ∙ k.handlers;
    clock = l.clock ∙ k.clock;
    events = l.events ∙ k.events;
  }

  set_each : (slots : List (Slot Waiting)) (t : ℕ) (slot : Slot Waiting) → Each P slots → HoldsOfSlot P slot → Each P (slice_set slots t slot)
  set_each [] t slot f g = f
  set_each (first ∷ rest) zero slot f g = (g, f.1)
  set_each (first ∷ rest) (suc t) slot f g = (f.0, set_each rest t slot f.1 g)

  set_kept : (S : State) (t : ℕ) (slot : Slot Waiting) (end : End) (frames : List ℕ) → Each P S.crew.threads → HoldsOfSlot P slot → Keeps P t S (record (with_thread S t slot) { end = end; trap_frames = frames })
  set_kept S t slot end frames f g = record {
    who = refl;
    count = refl;
    «module» = refl;
    room = length-set S.crew.threads t slot;
    threads = set_each S.crew.threads t slot f g;
    others = λ u h. set_other S.crew.threads t u slot h;
    holders = refl;
    handlers = refl;
    clock = refl;
    events = refl;
  }

  settled_kept : (t : ℕ) (S S' : State) (b : Bool) → Keeps P t S S' → Keeps P t S (cond b (record S' { end = Finished }) S')
  settled_kept t S S' true k = record { who = k.who; count = k.count; «module» = k.«module»; room = k.room; threads = k.threads; others = k.others; holders = k.holders; handlers = k.handlers; clock = k.clock; events = k.events }
  settled_kept t S S' false k = k

  -- the thread that is at a call of the library is such
  abbrev pub Stand : Module → Type 0
  Stand m = (S : State) (thread : Thread) (site : CallSite) (kind : Kind) → S.store.«module» ≡ m → kind_at m site.func ≡ Some kind → P (stands S thread site kind)

  called_kept : (S : State) (t : ℕ) (thread : Thread) (site : CallSite) → Each P S.crew.threads → Stand S.store.«module» → (o : Option Kind) → kind_at S.store.«module» site.func ≡ o → Keeps P t S (stopped_at_call S t thread site o)
  called_kept S t thread site f g (Some kind) e = set_kept S t (Kept (stands S thread site kind)) S.end S.trap_frames f (g S thread site kind refl e)
  called_kept S t thread site f g None e = set_kept S t Over _ _ f tt

  stopped_kept : (S : State) (t : ℕ) (stop : Halt) → Each P S.crew.threads → Stand S.store.«module» → Keeps P t S (stopped_thread S t stop)
  stopped_kept S t (Calls thread site) f g = called_kept S t thread site f g (kind_at S.store.«module» site.func) refl
  stopped_kept S t Ends f g = settled_kept t S (with_thread S t Over) (all_over (with_thread S t Over).crew.threads) (set_kept S t Over S.end S.trap_frames f tt)
  stopped_kept S t (Traps trap functions) f g = set_kept S t Over _ _ f tt
  stopped_kept S t Sticks f g = set_kept S t Over _ _ f tt

  burst_kept : (S : State) (t : ℕ) (run : BurstResult) → run.store.«module» ≡ S.store.«module» → Each P S.crew.threads → Stand S.store.«module» → Keeps P t S (process_after_burst S t run)
  burst_kept S t run e f g =
      then_kept t S (record S { store = run.store }) (process_after_burst S t run)
      (record { who = refl; count = refl; «module» = e; room = refl; threads = f; others = λ u h. refl; holders = refl; handlers = refl; clock = refl; events = refl })
      (stopped_kept (record S { store = run.store }) t run.stop f (subst Stand (sym e) g))

  runs_kept : KeepsModule → (S : State) (t : ℕ) (thread : Thread) (o : Option Thread) → Each P S.crew.threads → Stand S.store.«module» → Keeps P t S (after_running S t thread o)
  runs_kept keeps S t thread None f g = set_kept S t Over _ _ f tt
  runs_kept keeps S t thread (Some above) f g = burst_kept S t (burst instruction_budget above S.store) (keeps instruction_budget above S.store) f g

  event_kept : KeepsModule → (b : Bool) (S : State) (t : ℕ) (thread : Thread) (o : Option Thread) → Each P S.crew.threads → Stand S.store.«module» → Keeps P t S (cond b S (after_running S t thread o))
  event_kept keeps true S t thread o f g = kept_same t S f
  event_kept keeps false S t thread o f g = runs_kept keeps S t thread o f g

  awaits_kept : (t : ℕ) (S S' : State) → Keeps P t S S' → Keeps P t S (awaits_event S')
  awaits_kept t S S' k = record { who = k.who; count = k.count; «module» = k.«module»; room = k.room; threads = k.threads; others = k.others; holders = k.holders; handlers = k.handlers; clock = k.clock; events = k.events }

  -- as it goes on after the answer
  pub went_on : KeepsModule → (k : Kind) (S : State) (t : ℕ) (w : Waiting) (reply signal clock : ℕ) → Each P S.crew.threads → Stand S.store.«module» → Keeps P t (with_event_counted S t clock) (thread_goes_on k S t w.strand reply signal clock)
  went_on keeps k S t w reply signal clock f g =
      let strand = answered_strand w.strand (reply_value k reply) in
      awaits_kept t (with_event_counted S t clock) (thread_runs_on k S t w.strand reply signal clock)
      (event_kept keeps (ends_process k) (with_event_counted S t clock) t strand.thread (with_handler_frame S.store.«module» strand signal (handler S.handlers signal)) f g)

  -- ---- the answer

  affects_none : (S : State) → Each P S.crew.threads → Affects P S S
  affects_none S f = record { who = refl; count = refl; «module» = refl; room = λ few. few; threads = f; clock = refl; events = refl }

  -- a thread that begins is such
  abbrev pub Begins : Module → Type 0
  Begins m = (thread : Thread) → P (waiting_at m thread)

  each_more : (slots : List (Slot Waiting)) (w : Waiting) → Each P slots → P w → Each P (slots ++ Kept w ∷ [])
  each_more [] w f p = (p, tt)
  each_more (slot ∷ slots) w f p = (f.0, each_more slots w f.1 p)

  made_affects : (S : State) (w : Waiting) → length S.crew.threads < most_threads → Each P S.crew.threads → P w → Affects P S (with_new_thread S w)
  made_affects S w room f p = record {
    who = refl;
    count = refl;
    «module» = refl;
    room = λ few. omega (arith, room, one_more S.crew.threads w);
    threads = each_more S.crew.threads w f p;
    clock = refl;
    events = refl;
  }

  pub affected : (k : Kind) (S : State) (t : ℕ) (c : Call) (a : Answer) → Each P S.crew.threads → Begins S.store.«module» → Affects P S (effects_of_answer k S t c a)
  affected k S t c a f b =
      effects_has (Affects P S) k S t c a
      (record {
        locks = λ e free. record { who = refl; count = refl; «module» = refl; room = λ few. few; threads = f; clock = refl; events = refl };
        unlocks = λ e held. record { who = refl; count = refl; «module» = refl; room = λ few. few; threads = f; clock = refl; events = refl };
        handles = λ e h given. record { who = refl; count = refl; «module» = refl; room = λ few. few; threads = f; clock = refl; events = refl };
        spawns = λ e func found thread starts. made_affects S (waiting_at S.store.«module» thread) (has_room S (narrow c.a0) func found) f (b thread);
      })
      (affects_none S f)
      (record { who = refl; count = refl; «module» = refl; room = λ few. few; threads = f; clock = refl; events = refl })
      (λ e. let over = set_kept S t Over S.end S.trap_frames f tt in record { who = refl; count = refl; «module» = refl; room = λ few. omega (arith, over.room, few); threads = over.threads; clock = refl; events = refl })

  -- all of an event, from its clock on
  pub event_affects : KeepsModule → (k : Kind) (S : State) (t : ℕ) (c : Call) (a : Answer) (w : Waiting) (signal clock : ℕ) → Each P S.crew.threads → Begins S.store.«module» → Stand S.store.«module» → Affects P (with_event_counted S t clock) (thread_goes_on k (effects_of_answer k S t c a) t w.strand a.reply signal clock)
  event_affects keeps k S t c a w signal clock f b g =
      let n = affected k S t c a f b in
      let l = went_on keeps k (effects_of_answer k S t c a) t w a.reply signal clock n.threads (subst Stand (sym n.«module») g) in
      record {
        who = l.who ∙ n.who;
        count = l.count ∙ n.count;
        «module» = l.«module» ∙ n.«module»;
        room = λ few. omega (arith, l.room, n.room few);
        threads = l.threads;
        clock = l.clock;
        events = l.events ∙ ap (λ n. n + 1) n.events;
      }
