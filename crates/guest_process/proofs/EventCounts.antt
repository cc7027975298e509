-- A process begins with no event, and each legal entry is one event more.
use Rattle.std.proofs.Common.{◌≡◌, ℕ, ◌+◌, true, false, cond, Bool, Option, Some, None, refl, ap, ◌∙◌, subst}
use Rattle.std.proofs.lemmas.Option.{same_Some}
use Rattle.call_table.specs.declared.kind.Kind.{Kind}
use Rattle.lib_calls.specs.Answer.{Answer, answer_of}
use Rattle.lib_calls.specs.declared.entry.Call.{Call}
use Rattle.lib_calls.specs.declared.entry.Entry.{Entry}
use Rattle.guest_module.specs.Library.{kind_at}
use Rattle.wasm_stack.specs.After.{Halt, Calls, Ends, Traps, Sticks}
use Rattle.wasm_step.specs.Burst.{burst}
use Rattle.wasm_store.specs.Start.{first_store}
use Rattle.wasm_store.specs.Store.{Store}
use Rattle.wasm_step.specs.Strand.{answered_strand, first_thread}
use Rattle.wasm_stack.specs.Thread.{Thread}
use Rattle.wasm_stack.specs.declared.call.CallSite.{CallSite}
use Rattle.guest_process.specs.declared.end.End.TheVariants.{Finished}
use Rattle.guest_process.specs.declared.waiting.Waiting.{Waiting}
use Rattle.guest_process.specs.Answers.{effects_of_answer}
use Rattle.guest_process.specs.EventCount.{BeginsFresh, CountsEvents, IsFresh}
use Rattle.guest_process.specs.GoesOn.{after_running, instruction_budget, with_event_counted, handler, stopped_thread, stopped_at_call, with_handler_frame}
use Rattle.guest_process.specs.Kinds.{ends_process, reply_value}
use Rattle.guest_process.specs.Legal.{reason_at}
use Rattle.guest_process.specs.Next.{next_at_thread}
use Rattle.guest_process.specs.Start.{begun_with}
use Rattle.guest_process.specs.State.{State, is_running, thread_at}
use Rattle.guest_process.proofs.FirstFailure.{unless_none}
use Rattle.guest_process.proofs.CallEffects.{effects_has}

-- ---- a process begins with no event

pub begins : BeginsFresh
begins m who count S h = by_store (first_store m) (first_thread m) h
  where
    by_store : (o : Option Store) (thread : Option Thread) → begun_with m who count o thread ≡ Some S → IsFresh who count S
    by_store None thread h = cc
    by_store (Some g) None h = cc
    by_store (Some g) (Some thread) h = subst (IsFresh who count) (same_Some _ _ h) (record { who = refl; count = refl; events = refl; clock = refl })

-- ---- neither an answer nor a burst counts

answer_events : (k : Kind) (S : State) (t : ℕ) (c : Call) (a : Answer) → (effects_of_answer k S t c a).events ≡ S.events
answer_events k S t c a =
    effects_has (λ S'. S'.events ≡ S.events) k S t c a (record { locks = λ e free. refl; unlocks = λ e held. refl; handles = λ e h given. refl; spawns = λ e f found thread starts. refl }) refl refl (λ e. refl)

settled_events : (S : State) (b : Bool) → (cond b (record S { end = Finished }) S).events ≡ S.events
settled_events S true = refl
settled_events S false = refl

called_events : (S : State) (t : ℕ) (thread : Thread) (site : CallSite) (o : Option Kind) → (stopped_at_call S t thread site o).events ≡ S.events
called_events S t thread site (Some kind) = refl
called_events S t thread site None = refl

stopped_events : (S : State) (t : ℕ) (stop : Halt) → (stopped_thread S t stop).events ≡ S.events
stopped_events S t (Calls thread site) = called_events S t thread site (kind_at S.store.«module» site.func)
stopped_events S t Ends = settled_events _ _
stopped_events S t (Traps trap functions) = refl
stopped_events S t Sticks = refl

runs_events : (S : State) (t : ℕ) (thread : Thread) (o : Option Thread) → (after_running S t thread o).events ≡ S.events
runs_events S t thread None = refl
runs_events S t thread (Some above) =
    let run = burst instruction_budget above S.store in
    stopped_events (record S { store = run.store }) t run.stop

event_events : (b : Bool) (S : State) (t : ℕ) (thread : Thread) (o : Option Thread) → (cond b S (after_running S t thread o)).events ≡ S.events
event_events true S t thread o = refl
event_events false S t thread o = runs_events S t thread o

-- ---- a legal entry counts once

counts_at : (S : State) (e : Entry) (o : Option Waiting) → reason_at S e o ≡ None → (next_at_thread S e o).events ≡ S.events + 1
counts_at S e None h = cc
counts_at S e (Some w) h =
    let k = w.call.kind in
    let S' = effects_of_answer k S e.thread w.call (answer_of e) in
    let strand = answered_strand w.strand (reply_value k e.reply) in
    event_events (ends_process k) (with_event_counted S' e.thread e.clock) e.thread strand.thread (with_handler_frame S'.store.«module» strand e.signal (handler S'.handlers e.signal))
    ∙ ap (λ n. n + 1) (answer_events k S e.thread w.call (answer_of e))

pub counts : CountsEvents
counts S e h = counts_at S e (thread_at S e.thread) (unless_none (is_running S) _ _ h).1
