-- A legal event keeps the ranges of a state.
use Rattle.std.proofs.Common.{◌≡◌, ℕ, ◌≤◌, ◌^◌, ◌%◌, Bool, true, false, cond, Option, Some, None, refl, arith}
use Rattle.std.specs.Prelude.{nat_lt}
use Rattle.std.proofs.lemmas.Bool.{eqb-true}
use Rattle.call_table.specs.Table.{row}
use Rattle.call_table.specs.declared.kind.Kind.{Kind}
use Rattle.lamport_tag.specs.Tag.{clock_of, next_clock_of}
use Rattle.lib_calls.specs.Answer.{answer_of}
use Rattle.lib_calls.specs.Entry.{IsNumberIf}
use Rattle.lib_calls.specs.declared.entry.Entry.{Entry}
use Rattle.guest_module.specs.Library.{kind_at}
use Rattle.wasm_types.specs.Modules.{Module}
use Rattle.wasm_step.specs.Laws.{KeepsModule}
use Rattle.wasm_stack.specs.Thread.{Thread}
use Rattle.wasm_stack.specs.declared.call.CallSite.{CallSite}
use Rattle.guest_process.specs.declared.waiting.Waiting.{Waiting}
use Rattle.guest_process.specs.Answers.{need}
use Rattle.guest_process.specs.Fits.{StateFits, WaitingFits}
use Rattle.guest_process.specs.GoesOn.{argument, with_event_counted as counted_at, stands}
use Rattle.guest_process.specs.Legal.{entry_checks, reason_at}
use Rattle.guest_process.specs.Next.{next_at_thread}
use Rattle.guest_process.specs.OneEvent.{IsKeptByEvents, Rises, RisesTo}
use Rattle.guest_process.specs.Start.{waiting_at}
use Rattle.guest_process.specs.State.{State, is_running, thread_at}
use Rattle.guest_process.proofs.EachKind.{answer_clock}
use Rattle.guest_process.proofs.KeptByEvents.{Affects, event_affects}
use Rattle.guest_process.proofs.FirstFailure.{all_hold, unless_none}
use Rattle.guest_process.proofs.EventMarks.{MarkLaws, next_within}

argument_fits : (b : Bool) (bits : ℕ) → IsNumberIf b (cond b (bits % 2 ^ 64) 0)
argument_fits true bits = omega arith
argument_fits false bits = refl

pub stand_fits : (m : Module) (S : State) (thread : Thread) (site : CallSite) (kind : Kind) → S.store.«module» ≡ m → kind_at m site.func ≡ Some kind → WaitingFits (stands S thread site kind)
stand_fits m S thread site kind e h = record {
  arguments = record {
    first = fits 0 site.a0;
    second = fits 1 site.a1;
    third = fits 2 site.a2;
  };
}
  where
    fits : (n bits : ℕ) → IsNumberIf (nat_lt n (row kind).signature.params) (argument kind n bits)
    fits n bits = argument_fits (nat_lt n (row kind).signature.params) bits

pub begin_fits : (m : Module) (thread : Thread) → WaitingFits (waiting_at m thread)
begin_fits m thread = record { arguments = record { first = refl; second = refl; third = refl } }

-- what an event of a thread that stands so changes
event_keeps : KeepsModule → (S : State) (e : Entry) → StateFits S → (w : Waiting) → Affects WaitingFits (counted_at S e.thread e.clock) (next_at_thread S e (Some w))
event_keeps keeps S e s w = event_affects WaitingFits keeps w.call.kind S e.thread w.call (answer_of e) w e.signal e.clock s.threads (begin_fits S.store.«module») (stand_fits S.store.«module»)

-- its clock is the next one, and no tag bears one past 2 ^ 62
record NextClock (S : State) (e : Entry) : Type 0 where
  tag : clock_of e.tag ≤ 2 ^ 62
  clock : e.clock ≡ next_clock_of S.clock e.tag

next_clock : (S : State) (e : Entry) (w : Waiting) → reason_at S e (Some w) ≡ None → NextClock S e
next_clock S e w h =
    let holds = all_hold (entry_checks S e w) h in
    record {
      tag = answer_clock w.call.kind S w.call (need w.call.kind S e.thread w.call) (answer_of e) holds.reply;
      clock = eqb-true e.clock (next_clock_of S.clock e.tag) holds.clock;
    }

fits_at : KeepsModule → MarkLaws → (S : State) (e : Entry) → StateFits S → (o : Option Waiting) → reason_at S e o ≡ None → StateFits (next_at_thread S e o)
fits_at keeps marks S e s None h = cc
fits_at keeps marks S e s (Some w) h =
    let told = next_clock S e w h in
    let kept = event_keeps keeps S e s w in
    let within = next_within marks S e w s kept.events in
    record {
      clock = omega (arith, kept.clock, kept.events, told.clock, told.tag, s.clock);
      room = kept.room s.room;
      count = omega (arith, kept.count, s.count);
      who = omega (arith, kept.who, kept.count, s.who);
      threads = kept.threads;
      number = refl;
      stamps = within.stamps;
      global_stamps = within.global_stamps;
      size_stamp = within.size_stamp;
      even = within.even;
    }

pub state_kept : KeepsModule → MarkLaws → IsKeptByEvents
state_kept keeps marks S e s h = fits_at keeps marks S e s (thread_at S e.thread) (unless_none (is_running S) _ _ h).1

rises_at : KeepsModule → (S : State) (e : Entry) → StateFits S → (o : Option Waiting) → reason_at S e o ≡ None → RisesTo S e (next_at_thread S e o)
rises_at keeps S e s None h = cc
rises_at keeps S e s (Some w) h =
    let told = next_clock S e w h in
    let kept = event_keeps keeps S e s w in
    record {
      told = kept.clock;
      last = omega (arith, kept.clock, told.clock);
      tag = omega (arith, kept.clock, told.clock);
      events = kept.events;
      who = kept.who;
      count = kept.count;
      same_module = kept.«module»;
    }

-- the clock rises, and the process stays the same
pub clock_rises : KeepsModule → Rises
clock_rises keeps S e s h = rises_at keeps S e s (thread_at S e.thread) (unless_none (is_running S) _ _ h).1
