-- How a call is answered: what process and call determine, and what the world gives.
use Rattle.std.specs.Prelude.{ℕ, int_le, nat_lt, ◌==◌, ◌&&◌, ◌||◌, ◌-◌, ◌%◌, ◌^◌, not, is_some, option_map, if◌then◌else◌, List, [], ◌∷◌, length, slice_get, Option, Some, None, Bool, true, false}
use Rattle.std.specs.Int.{w32, w64, cast_signed}
use Rattle.call_table.specs.declared.kind.Kind.{Kind}
use Rattle.call_table.specs.declared.kind.Kind.TheVariants.{Begin, Exit, Note, Print, Now, SleepUntil, Random, Me, Send, Recv, TryRecv, Spawn, Yield, Join, Lock, Unlock, OnSignal, Thread}
use Rattle.coop_threads.specs.Crew.{holder_of, most_threads, status_of}
use Rattle.coop_threads.specs.Locks.{grip_of}
use Rattle.coop_threads.specs.declared.grip.Grip.{Grip}
use Rattle.coop_threads.specs.declared.grip.Grip.TheVariants.{Got, Already, Held}
use Rattle.coop_threads.specs.declared.slot.Slot.TheVariants.{Over}
use Rattle.coop_threads.specs.declared.status.Status.{Status}
use Rattle.coop_threads.specs.declared.status.Status.TheVariants.{Unknown, Live, Taken, Ended}
use Rattle.lamport_tag.specs.declared.Tag.{Tag}
use Rattle.lamport_tag.specs.Tag.{is_sendable, tag_at}
use Rattle.lib_calls.specs.declared.entry.Call.{Call}
use Rattle.lib_calls.specs.Answer.{Answer}
use Rattle.lib_calls.specs.Effects.{is_good, minus_one, minus_two, takes_counted, memory_after_answer as memory_with}
use Rattle.guest_signals.specs.Signals.{is_signal, with_handler}
use Rattle.wasm_store.specs.Store.{Store, handler_at}
use Rattle.wasm_step.specs.Strand.{new_thread}
use Rattle.wasm_stack.specs.Thread as stack
use Rattle.guest_process.specs.declared.end.End.TheVariants.{Exited}
use Rattle.guest_process.specs.Start.{waiting_at}
use Rattle.guest_process.specs.State.{State, with_handlers, with_lock, with_memory, with_new_thread, with_thread, without_lock}

-- a reply alone
abbrev pub replies_with : ℕ → Answer
replies_with n = record { reply = n; incoming = []; tag = None }

-- process and call determine the reply and the state with the call's effects; or no answer is given now;
-- or the world answers
pub data Need : Type 0 where
  Fixed : (reply : ℕ) → (after : State) → Need
  Blocked : Need
  World : Need

-- thread t called `exit` with this code
abbrev pub exited_process : State → ℕ → ℕ → State
exited_process S t code = record (with_thread S t Over) { end = Exited (cast_signed w32 (code % 2 ^ 32)) }

-- the process answers with this reply where the call's arguments are good, and else with -1
abbrev pub replied : State → Call → ℕ → Need
replied S c reply = Fixed (if is_good c S.store.memory then reply else minus_one) S

-- the world answers where the call's arguments are good, and else the process does, with -1
abbrev pub need_of_world : State → Call → Need
need_of_world S c = if is_good c S.store.memory then World else Fixed minus_one S

-- ---- threads and locks

-- an argument of 32 bits
abbrev pub narrow : ℕ → ℕ
narrow bits = bits % 2 ^ 32

-- a thread that joins one which stands so
abbrev pub joins_standing : State → Status → Need
joins_standing S Unknown = Fixed minus_one S
joins_standing S Live = Blocked
joins_standing S Taken = Blocked
joins_standing S Ended = Fixed 0 S

-- thread t joins thread u
abbrev pub joined : State → ℕ → ℕ → Need
joined S t u = if u == t then Fixed minus_one S else joins_standing S (status_of (slice_get S.crew.threads u))

-- thread t asks for the lock m, and this is what it finds
abbrev pub asks_for_lock : State → ℕ → ℕ → Grip → Need
asks_for_lock S m t Got = Fixed 0 (with_lock S m t)
asks_for_lock S m t Already = Fixed minus_one S
asks_for_lock S m t (Held holder) = Blocked

abbrev pub locked : State → ℕ → ℕ → Need
locked S m t = asks_for_lock S m t (grip_of (holder_of S.crew m) t)

-- thread t is this holder of a lock
abbrev pub is_lock_holder : Option ℕ → ℕ → Bool
is_lock_holder None t = false
is_lock_holder (Some holder) t = holder == t

-- thread t gives the lock m back
abbrev pub unlocked : State → ℕ → ℕ → Need
unlocked S m t = if is_lock_holder (holder_of S.crew m) t then Fixed 0 (without_lock S m) else Fixed minus_one S

-- ---- handlers

-- the number at which no function handles a signal
abbrev pub handler_removal : ℕ
handler_removal = 2 ^ 32 - 1

-- what this number names: no handler, or the function at that place of the table, where it is one
abbrev pub handler_named : Store → ℕ → Option (Option ℕ)
handler_named store number = if number == handler_removal then Some None else option_map (λ func. Some func) (handler_at store number)

-- the handler, or none, that a call gives a signal with this number, where there is that signal
abbrev pub handler_given : State → ℕ → ℕ → Option (Option ℕ)
handler_given S signal number = if is_signal signal then handler_named S.store number else None

abbrev pub handles_signal : State → ℕ → Option (Option ℕ) → Need
handles_signal S signal None = Fixed minus_one S
handles_signal S signal (Some handler) = Fixed 0 (with_handlers S (with_handler S.handlers signal handler))

-- the function that this number names is to handle the signal
abbrev pub handled : State → ℕ → ℕ → Need
handled S signal number = handles_signal S signal (handler_given S signal number)

-- ---- new threads

-- the function of this table index, where one more thread may be made and begin with it
abbrev pub spawnable : State → ℕ → Option ℕ
spawnable S index = if nat_lt (length S.crew.threads) most_threads then handler_at S.store index else None

-- the thread is made, which is the next in number; a function that was found has its code, so that there is one
abbrev pub spawns_thread : State → Option stack.Thread → Need
spawns_thread S None = Fixed minus_one S
spawns_thread S (Some thread) = Fixed (length S.crew.threads) (with_new_thread S (waiting_at S.store.«module» thread))

abbrev pub spawned_at_index : State → ℕ → Option ℕ → Need
spawned_at_index S arg None = Fixed minus_one S
spawned_at_index S arg (Some func) = spawns_thread S (new_thread S.store.«module» func arg)

-- a thread is to begin with the function of this table index, and be given this argument
abbrev pub spawned : State → ℕ → ℕ → Need
spawned S index arg = spawned_at_index S arg (spawnable S index)

-- what process and call determine
abbrev pub need : Kind → State → ℕ → Call → Need
need Begin S t c = Fixed 0 S
need Exit S t c = Fixed 0 (exited_process S t c.a0)
need Note S t c = Fixed 0 S
need Print S t c = replied S c c.a1
need Now S t c = World
need SleepUntil S t c = World
need Random S t c = need_of_world S c
need Me S t c = Fixed S.who S
need Send S t c = replied S c c.a2
need Recv S t c = need_of_world S c
need TryRecv S t c = need_of_world S c
need Spawn S t c = spawned S (narrow c.a0) (narrow c.a1)
need Yield S t c = Fixed 0 S
need Join S t c = joined S t (narrow c.a0)
need Lock S t c = locked S (narrow c.a0) t
need Unlock S t c = unlocked S (narrow c.a0) t
need OnSignal S t c = handled S (narrow c.a0) (narrow c.a1)
need Thread S t c = Fixed t S

-- no bytes came in, and no tag
abbrev pub brings_nothing : Option Tag → List ℕ → Bool
brings_nothing None [] = true
brings_nothing None (_ ∷ _) = false
brings_nothing (Some _) incoming = false

-- a time at which a thread wakes that sleeps until this one, as signed numbers
abbrev pub is_due : ℕ → ℕ → Bool
is_due until time = int_le (cast_signed w64 until) (cast_signed w64 time)

-- so many bytes came in as the call asks for, and no tag
abbrev pub is_drawn : Call → Answer → Bool
is_drawn c a = a.reply == c.a1 && (length a.incoming == c.a1 && not (is_some a.tag))

-- in a group of so many processes some datagram has this tag, or none, and this payload
abbrev pub is_payload : ℕ → Option Tag → List ℕ → Bool
is_payload count None payload = not (is_some (tag_at count payload))
is_payload count (Some tag) payload = is_sendable count tag

-- what came in is the payload of some datagram, cut to the bytes that the call has room for, and its tag
abbrev pub takes_datagram : ℕ → Call → Answer → Bool
takes_datagram count c a = takes_counted c a && is_payload count a.tag a.incoming

-- no datagram was there
abbrev pub is_empty : Answer → Bool
is_empty a = a.reply == minus_two && brings_nothing a.tag a.incoming

-- whether some world gives this answer
abbrev pub is_possible : Kind → State → Call → Answer → Bool
is_possible Now S c a = brings_nothing a.tag a.incoming
is_possible SleepUntil S c a = is_due c.a0 a.reply && brings_nothing a.tag a.incoming
is_possible Random S c a = is_drawn c a
is_possible Recv S c a = takes_datagram S.count c a
is_possible TryRecv S c a = takes_datagram S.count c a || is_empty a
is_possible _ S c a = false

-- the effects of an answer that the world gave, from the answer alone
abbrev pub with_answer : State → Call → Answer → State
with_answer S c a = with_memory S (memory_with c a S.store.memory)

abbrev pub after_need : Need → State → State
after_need (Fixed reply S) S' = S
after_need Blocked S' = S'
after_need World S' = S'

-- the state with the effects of an answer
abbrev pub effects_of_answer : Kind → State → ℕ → Call → Answer → State
effects_of_answer kind S t c a = after_need (need kind S t c) (with_answer S c a)
