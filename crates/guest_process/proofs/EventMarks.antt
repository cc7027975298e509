-- What an event leaves of the marks of a process.
use Rattle.std.proofs.Common.{◌≡◌, ◌≤◌, ℕ, ◌+◌, Bool, true, false, cond, List, [], ◌∷◌, length, Option, Some, None, refl, sym, subst, ◌∙◌, arith}
use Rattle.std.specs.Prelude.{◌==◌, map}
use Rattle.std.specs.Int.{w32, to_le_bytes}
use Rattle.std.proofs.lemmas.List.{length-map}
use Rattle.std.proofs.lemmas.Option.{same_Some}
use Rattle.call_table.specs.declared.kind.Kind.{Kind}
use Rattle.call_table.specs.declared.kind.Kind.TheVariants.{Random, Recv, TryRecv}
use Rattle.guest_memory.specs.Laws.{FreshIsUnstamped, NoLaterWhenWritten, StampsNoLater}
use Rattle.guest_memory.specs.Memory.{Memory, is_inside, with_bytes}
use Rattle.guest_memory.specs.Stamps.{AreWithin}
use Rattle.lib_calls.specs.Answer.{Answer, answer_of}
use Rattle.lib_calls.specs.Effects.{is_good, minus_two, put_in_memory, with_received, taken, memory_after_answer as memory_with, sender_of}
use Rattle.lib_calls.specs.declared.entry.Call.{Call}
use Rattle.lib_calls.specs.declared.entry.Entry.{Entry}
use Rattle.guest_module.specs.Library.{kind_at}
use Rattle.wasm_types.specs.Modules.{GlobalDef, Module, Segment}
use Rattle.wasm_types.specs.declared.code.Value.{Value}
use Rattle.wasm_step.specs.Burst.{burst}
use Rattle.wasm_step.specs.Laws.{KeepsStamps, TellsMarks}
use Rattle.wasm_store.specs.Marks.{MarkedStore, MarkedTransitive, StoreMarksTell, MarksWithin, MarkedReflexive, WritesMark}
use Rattle.wasm_stack.specs.After.{Halt, Calls, Ends, Traps, Sticks}
use Rattle.wasm_store.specs.Start.{memory_before_segments, first_min, first_most, first_store, initial_value, initial_globals, offset_in, put_segments, segments_fit, unset_globals}
use Rattle.wasm_store.specs.Store.{Store}
use Rattle.wasm_step.specs.Strand.{answered_strand}
use Rattle.wasm_store.specs.Suits.{SuitsModule}
use Rattle.wasm_stack.specs.Thread.{Thread}
use Rattle.wasm_stack.specs.declared.call.CallSite.{CallSite}
use Rattle.guest_process.specs.declared.end.End.TheVariants.{Finished}
use Rattle.guest_process.specs.declared.waiting.Waiting.{Waiting}
use Rattle.guest_process.specs.Answers.{effects_of_answer}
use Rattle.guest_process.specs.Fits.{StateFits}
use Rattle.guest_process.specs.GoesOn.{after_running, instruction_budget, with_event_counted, handler, thread_runs_on, stopped_thread, stopped_at_call, with_handler_frame}
use Rattle.guest_process.specs.Kinds.{ends_process, reply_value}
use Rattle.guest_process.specs.Marks.{UnmarkedStays}
use Rattle.guest_process.specs.Next.{next_at_thread}
use Rattle.guest_process.specs.State.{State, thread_at}
use Rattle.guest_process.proofs.CallEffects.{effects_has}
use Rattle.guest_process.proofs.FirstFailure.{kept}

-- ---- how a process begins

same_no_later : (memory : Memory) → StampsNoLater memory memory
same_no_later memory = record { number = refl; within = λ w. w }

then_no_later : (a b c : Memory) → StampsNoLater a b → StampsNoLater b c → StampsNoLater a c
then_no_later a b c first later = record {
  number = later.number ∙ first.number;
  within = λ w.
      let before = subst (λ n. AreWithin n b.stamps) (sym first.number) (first.within w) in
      subst (λ n. AreWithin n c.stamps) first.number (later.within before);
}

module _ (writes : NoLaterWhenWritten) where
  segment_stamps : (b : Bool) (memory : Memory) (addr : ℕ) (piece : List ℕ) → StampsNoLater memory (cond b (with_bytes memory addr piece) memory)
  segment_stamps true memory addr piece = writes memory addr piece
  segment_stamps false memory addr piece = same_no_later memory

  segments_stamps : (globals : List Value) (ss : List Segment) (memory : Memory) → StampsNoLater memory (put_segments globals ss memory)
  segments_stamps globals [] memory = same_no_later memory
  segments_stamps globals (s ∷ ss) memory =
      let first = cond (is_inside memory (offset_in globals s.offset) (length s.bytes)) (with_bytes memory (offset_in globals s.offset) s.bytes) memory in
      then_no_later memory first (put_segments globals ss first) (segment_stamps (is_inside memory (offset_in globals s.offset) (length s.bytes)) memory (offset_in globals s.offset) s.bytes)
      (segments_stamps globals ss first)

  unset_within : (globals : List GlobalDef) → AreWithin 0 (unset_globals globals)
  unset_within [] = tt
  unset_within (d ∷ ds) = (omega arith, unset_within ds)

  unset_even : (globals : List GlobalDef) → length (unset_globals globals) ≡ length (map initial_value globals)
  unset_even globals =
      let nothing : GlobalDef → ℕ = λ d. 0 in
      length-map globals nothing ∙ sym (length-map globals initial_value)

  pub first_marks : FreshIsUnstamped → (m : Module) (g : Store) → first_store m ≡ Some g → MarksWithin 0 g
  first_marks unstamped m g h =
      let is = same_Some _ _ (kept (segments_fit m) _ g h).1 in
      subst (λ (g : Store). MarksWithin 0 g) is (record {
        stamps = (segments_stamps (initial_globals m) m.segments (memory_before_segments m)).within (unstamped (first_min m.mems) (first_most m.mems));
        global_stamps = unset_within m.globals;
        size_stamp = omega arith;
        even = unset_even m.globals;
      })

-- ---- an event

-- what its marks rest on
pub record MarkLaws : Type 0 where
  pub keeps : KeepsStamps
  pub tells : TellsMarks
  pub written : WritesMark
  pub nothing : MarkedReflexive
  pub follow : MarkedTransitive

module _ (laws : MarkLaws) where
  taken_marks : (c : Call) (payload sender : List ℕ) (g : Store) → MarkedStore g (record g { memory = taken c payload sender g.memory })
  taken_marks c payload sender g =
      let middle : Store = record g { memory = with_bytes g.memory c.a0 payload } in
      laws.follow g middle (record g { memory = taken c payload sender g.memory }) (laws.written g c.a0 payload) (laws.written middle c.a2 sender)

  either_marks : (b : Bool) (g : Store) (memory : Memory) → MarkedStore g (record g { memory = memory }) → MarkedStore g (record g { memory = cond b g.memory memory })
  either_marks true g memory h = laws.nothing g
  either_marks false g memory h = h

  put_marks : (k : Kind) (c : Call) (a : Answer) (g : Store) → MarkedStore g (record g { memory = put_in_memory k c a g.memory })
  put_marks Random c a g = laws.written g c.a0 a.incoming
  put_marks Recv c a g = taken_marks c a.incoming (to_le_bytes w32 (sender_of a.tag)) g
  put_marks TryRecv c a g = either_marks (a.reply == minus_two) g (with_received c a g.memory) (taken_marks c a.incoming (to_le_bytes w32 (sender_of a.tag)) g)
  put_marks _ c a g = laws.nothing g

  written_marks : (c : Call) (a : Answer) (g : Store) → MarkedStore g (record g { memory = memory_with c a g.memory })
  unfolding memory_with
  written_marks c a g = by_test (is_good c g.memory)
    where
      by_test : (b : Bool) → MarkedStore g (record g { memory = cond b (put_in_memory c.kind c a g.memory) g.memory })
      by_test true = put_marks c.kind c a g
      by_test false = laws.nothing g

  effects_marks : (k : Kind) (S : State) (t : ℕ) (c : Call) (a : Answer) → MarkedStore S.store (effects_of_answer k S t c a).store
  effects_marks k S t c a =
      let same = laws.nothing S.store in
      effects_has (λ S'. MarkedStore S.store S'.store) k S t c a (record { locks = λ e free. same; unlocks = λ e held. same; handles = λ e h given. same; spawns = λ e f found thread starts. same })
      same (written_marks c a S.store) (λ e. same)

  settled_store : (S : State) (b : Bool) → (cond b (record S { end = Finished }) S).store ≡ S.store
  settled_store S true = refl
  settled_store S false = refl

  called_store : (S : State) (t : ℕ) (thread : Thread) (site : CallSite) (o : Option Kind) → (stopped_at_call S t thread site o).store ≡ S.store
  called_store S t thread site (Some kind) = refl
  called_store S t thread site None = refl

  stopped_store : (S : State) (t : ℕ) (stop : Halt) → (stopped_thread S t stop).store ≡ S.store
  stopped_store S t (Calls thread site) = called_store S t thread site (kind_at S.store.«module» site.func)
  stopped_store S t Ends = settled_store _ _
  stopped_store S t (Traps trap functions) = refl
  stopped_store S t Sticks = refl

  runs_marks : (S : State) (t : ℕ) (thread : Thread) (o : Option Thread) → MarkedStore S.store (after_running S t thread o).store
  runs_marks S t thread None = laws.nothing S.store
  runs_marks S t thread (Some above) =
      let run = burst instruction_budget above S.store in
      subst (λ g. MarkedStore S.store g) (sym (stopped_store (record S { store = run.store }) t run.stop)) (record { later = laws.keeps instruction_budget above S.store; told = laws.tells instruction_budget above S.store })

  event_marks : (b : Bool) (S : State) (t : ℕ) (thread : Thread) (o : Option Thread) → MarkedStore S.store (cond b S (after_running S t thread o)).store
  event_marks true S t thread o = laws.nothing S.store
  event_marks false S t thread o = runs_marks S t thread o

  -- an event of a thread that stands so, as far as the number of the next
  ran_marks : (S : State) (e : Entry) (w : Waiting) → MarkedStore S.store (thread_runs_on w.call.kind (effects_of_answer w.call.kind S e.thread w.call (answer_of e)) e.thread w.strand e.reply e.signal e.clock).store
  ran_marks S e w =
      let after = effects_of_answer w.call.kind S e.thread w.call (answer_of e) in
      let ran = thread_runs_on w.call.kind after e.thread w.strand e.reply e.signal e.clock in
      let strand = answered_strand w.strand (reply_value w.call.kind e.reply) in
      let above = with_handler_frame after.store.«module» strand e.signal (handler after.handlers e.signal) in
      laws.follow S.store after.store ran.store (effects_marks w.call.kind S e.thread w.call (answer_of e)) (event_marks (ends_process w.call.kind) (with_event_counted after e.thread e.clock) e.thread strand.thread above)

  more_within : (ss : List ℕ) (n m : ℕ) → n ≤ m → AreWithin n ss → AreWithin m ss
  more_within [] n m le w = tt
  more_within (s ∷ ss) n m le w = (omega (arith, le, w.0), more_within ss n m le w.1)

  more : (g : Store) (n m : ℕ) → n ≤ m → MarksWithin n g → MarksWithin m g
  more g n m le w = record {
    stamps = more_within g.memory.stamps n m le w.stamps;
    global_stamps = more_within g.global_stamps n m le w.global_stamps;
    size_stamp = omega (arith, le, w.size_stamp);
    even = w.even;
  }

  -- the marks after it
  pub next_within : (S : State) (e : Entry) (w : Waiting) → StateFits S → (next_at_thread S e (Some w)).events ≡ S.events + 1
      → MarksWithin (next_at_thread S e (Some w)).events (next_at_thread S e (Some w)).store
  next_within S e w s events =
      let ran = thread_runs_on w.call.kind (effects_of_answer w.call.kind S e.thread w.call (answer_of e)) e.thread w.strand e.reply e.signal e.clock in
      let here : MarksWithin S.events S.store = record { stamps = s.stamps; global_stamps = s.global_stamps; size_stamp = s.size_stamp; even = s.even } in
      let before = subst (λ n. MarksWithin n S.store) (sym s.number) (more S.store S.events (S.events + 1) (omega arith) here) in
      let after = subst (λ n. MarksWithin n ran.store) (s.number ∙ sym events) ((ran_marks S e w).later.within before) in
      record { stamps = after.stamps; global_stamps = after.global_stamps; size_stamp = after.size_stamp; even = after.even }

  -- the number of the event that writes next is none of what the marks tell
  renumbered : (number later : ℕ) (old new : Store) → StoreMarksTell number old new → StoreMarksTell number old (record new { memory = record new.memory { number = later } })
  renumbered number later old new t = record {
    memory = record {
      grows = t.memory.grows;
      longer = t.memory.longer;
      pages = λ page h. let p = t.memory.pages page h in record { stamp = p.stamp; bytes = p.bytes };
    };
    places = t.places;
    globals = λ n h. let p = t.globals n h in record { stamp = p.stamp; value = p.value };
    size = t.size;
  }

  told_at : (S : State) (e : Entry) (o : Option Waiting) → StoreMarksTell S.store.memory.number S.store (next_at_thread S e o).store
  told_at S e None = (laws.nothing S.store).told
  told_at S e (Some w) =
      let ran = thread_runs_on w.call.kind (effects_of_answer w.call.kind S e.thread w.call (answer_of e)) e.thread w.strand e.reply e.signal e.clock in
      renumbered S.store.memory.number (ran.events + 1) S.store ran.store (ran_marks S e w).told

  pub unmarked : UnmarkedStays
  unmarked S e s h = subst (λ n. StoreMarksTell n S.store (next_at_thread S e (thread_at S e.thread)).store) s.number (told_at S e (thread_at S e.thread))

-- the number of the event that writes is none of what suits a module
pub numbered_suits : (g : Store) (number : ℕ) → SuitsModule g → SuitsModule (record g { memory = record g.memory { number = number } })
numbered_suits g number s = record { most = s.most; places = s.places; globals = s.globals; elements = s.elements }
