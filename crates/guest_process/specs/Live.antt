-- The live meaning of one try to run a thread: the event that the world around the process lets it have.
use Rattle.std.specs.Prelude.{ℕ, zero, suc, ◌+◌, ◌==◌, ◌&&◌, not, nat_le, is_some, List, length, take, slice_get, Bool, Option, Some, None, if◌then◌else◌, option_map, unwrap_or}
use Rattle.call_table.specs.declared.kind.Kind.{Kind}
use Rattle.call_table.specs.declared.kind.Kind.TheVariants.{Now, SleepUntil, Random, Recv, TryRecv}
use Rattle.lamport_tag.specs.declared.Tag.{Tag}
use Rattle.lamport_tag.specs.Tag.{next_clock_of, read_datagram}
use Rattle.lib_calls.specs.declared.entry.Call.{Call}
use Rattle.lib_calls.specs.declared.entry.Entry.{Entry}
use Rattle.lib_calls.specs.Answer.{Answer}
use Rattle.lib_calls.specs.Effects.{with_incoming, minus_two, outgoing_of, with_received}
use Rattle.guest_signals.specs.Signals.{most_signal}
use Rattle.guest_process.specs.declared.waiting.Waiting.{Waiting}
use Rattle.guest_process.specs.Answers.{Need, Fixed, Blocked, World, need, replies_with, is_due}
use Rattle.guest_process.specs.GoesOn.{thread_goes_on, handler}
use Rattle.guest_process.specs.Kinds.{ends_process}
use Rattle.guest_process.specs.State.{State, is_running, thread_at, with_memory}

-- the world around a process: the datagrams that wait for it and the random bytes that are left, the
-- wall time as the bits of a signed number of 64 bits, whether a signal is pending, and whether the
-- process was killed
pub record Env : Type 0 where
  pub mailbox : List (List ℕ)
  pub pool : List ℕ
  pub time : ℕ
  pub pending : ℕ → Bool
  pub killed : Bool

-- ---- what the world answers

-- a thread that sleeps until then gets the wall time, where it is due
abbrev pub wall_time_at_waking : ℕ → ℕ → Option Answer
wall_time_at_waking until time = if is_due until time then Some (replies_with time) else None

-- the answer that takes these random bytes, as many as the call asks for
abbrev pub random_answer : ℕ → List ℕ → Answer
random_answer count bytes = record { reply = count; incoming = bytes; tag = None }

-- the first of the random bytes that are left, where there are so many
abbrev pub drawn_of : ℕ → List ℕ → Option Answer
drawn_of count pool = if nat_le count (length pool) then Some (random_answer count (take count pool)) else None

-- the answer that takes a datagram with this tag, or none, and this payload, of which at most so many
-- bytes come in
abbrev pub cut_datagram : ℕ → Option Tag × List ℕ → Answer
cut_datagram cap datagram = record { reply = length (take cap datagram.1); incoming = take cap datagram.1; tag = datagram.0 }

-- the first datagram that waits, where there is one, in a group of `count`
abbrev pub taken_of : ℕ → ℕ → List (List ℕ) → Option Answer
taken_of count cap mailbox = option_map (cut_datagram cap) (option_map (read_datagram count) (slice_get mailbox 0))

-- the answer of the world to a call of this kind in a group of `count`, where it is given now; to `try_recv` it
-- tells also that no datagram is there
abbrev pub world_answer : Kind → Call → ℕ → Env → Option Answer
world_answer Now c count env = Some (replies_with env.time)
world_answer SleepUntil c count env = wall_time_at_waking c.a0 env.time
world_answer Random c count env = drawn_of c.a1 env.pool
world_answer Recv c count env = taken_of count c.a1 env.mailbox
world_answer TryRecv c count env = Some (unwrap_or (taken_of count c.a1 env.mailbox) (replies_with minus_two))
world_answer _ c count env = None

-- ---- the effects of an answer

-- after the world's answer to a call of this kind what came in, and the sender of a datagram, stand where the call
-- named them; -2 tells that there was no datagram
abbrev pub with_given : Kind → State → Call → Answer → State
with_given Random S c a = with_memory S (with_incoming c a S.store.memory)
with_given Recv S c a = with_memory S (with_received c a S.store.memory)
with_given TryRecv S c a = if a.reply == minus_two then S else with_memory S (with_received c a S.store.memory)
with_given _ S c a = S

-- an answer, and the state with its effects
pub record AnsweredCall : Type 0 where
  pub answer : Answer
  pub after : State

abbrev pub as_given : Kind → State → Call → Answer → AnsweredCall
as_given kind S c a = record { answer = a; after = with_given kind S c a }

-- what the world gives, where it gives it now
abbrev pub from_world : Kind → State → Call → Env → Option AnsweredCall
from_world kind S c env = option_map (as_given kind S c) (world_answer kind c S.count env)

abbrev pub answered_now : Need → Option AnsweredCall → Option AnsweredCall
answered_now (Fixed reply S) world = Some (record { answer = replies_with reply; after = S })
answered_now Blocked world = None
answered_now World world = world

-- the least of n numbers from s on at which p holds, or 0
unfoldable pub lowest_signal : (ℕ → Bool) → ℕ → ℕ → ℕ
lowest_signal p zero s = 0
lowest_signal p (suc n) s = if p s then s else lowest_signal p n (s + 1)

-- a signal is pending and has one of these handlers
abbrev pub is_ready_signal : List (Option ℕ) → (ℕ → Bool) → ℕ → Bool
is_ready_signal handlers pending s = pending s && is_some (handler handlers s)

-- the lowest signal that is ready, or 0; none is delivered where the process ends
abbrev pub chosen_signal : Kind → List (Option ℕ) → (ℕ → Bool) → ℕ
chosen_signal kind handlers pending = if ends_process kind then 0 else lowest_signal (is_ready_signal handlers pending) most_signal 1

-- an event: the state after it, and its entry
pub record Event : Type 0 where
  pub state : State
  pub entry : Entry

abbrev pub event_by : State → ℕ → Waiting → AnsweredCall → ℕ → ℕ → Event
event_by S t w a signal clock = record {
  state = thread_goes_on w.call.kind a.after t w.strand a.answer.reply signal clock;
  entry = record {
    clock = clock;
    thread = t;
    signal = signal;
    call = w.call;
    reply = a.answer.reply;
    outgoing = outgoing_of w.call S.store.memory;
    incoming = a.answer.incoming;
    tag = a.answer.tag;
  };
}

abbrev pub event : State → ℕ → Env → Waiting → AnsweredCall → Event
event S t env w a = event_by S t w a (chosen_signal w.call.kind a.after.handlers env.pending) (next_clock_of S.clock a.answer.tag)

abbrev pub event_of_waiting : State → ℕ → Env → Option Waiting → Option Event
event_of_waiting S t env None = None
event_of_waiting S t env (Some w) = option_map (event S t env w) (answered_now (need w.call.kind S t w.call) (from_world w.call.kind S w.call env))

-- the event of a try of this thread, or nothing where the try is idle
abbrev pub live : State → ℕ → Env → Option Event
live S t env = if not env.killed && is_running S then event_of_waiting S t env (thread_at S t) else None
