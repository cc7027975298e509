-- What follows the answer to a call: the reply's value, the handler of a signal, and the burst.
use Rattle.std.specs.Prelude.{ℕ, ◌+◌, ◌==◌, ◌%◌, ◌^◌, List, [], ◌∷◌, Bool, true, false, Option, Some, None, if◌then◌else◌, nat_lt}
use Rattle.call_table.specs.Table.{row}
use Rattle.call_table.specs.declared.kind.Kind.{Kind}
use Rattle.coop_threads.specs.declared.slot.Slot.{Slot}
use Rattle.coop_threads.specs.declared.slot.Slot.TheVariants.{Kept, Lent, Over}
use Rattle.lib_calls.specs.declared.entry.Call.{Call}
use Rattle.guest_signals.specs.Signals.{handler_of}
use Rattle.wasm_types.specs.declared.traps.Trap.{Trap}
use Rattle.wasm_types.specs.declared.traps.Trap.TheVariants.{Exhausted, Unreachable}
use Rattle.guest_module.specs.Library.{kind_at}
use Rattle.wasm_types.specs.Modules.{Module}
use Rattle.wasm_step.specs.Burst.{BurstResult, burst, most_instructions}
use Rattle.wasm_stack.specs.After.{Halt, Calls, Ends, Traps, Sticks}
use Rattle.wasm_step.specs.Strand.{Strand, answered_strand, thread_in_handler, is_in}
use Rattle.wasm_stack.specs.Thread.{Thread, functions_of}
use Rattle.wasm_stack.specs.declared.call.CallSite.{CallSite}
use Rattle.guest_process.specs.declared.end.End.TheVariants.{Finished, Trapped}
use Rattle.guest_process.specs.declared.waiting.Waiting.{Waiting}
use Rattle.guest_process.specs.Kinds.{ends_process, reply_value}
use Rattle.guest_process.specs.State.{State, awaits_event, with_thread}

-- a burst has at most so many instructions
unfoldable pub instruction_budget : ℕ
instruction_budget = most_instructions

-- ---- where a burst stops

-- an argument as 64 bits, and 0 where the kind lacks it
abbrev pub argument : Kind → ℕ → ℕ → ℕ
argument kind n bits = if nat_lt n (row kind).signature.params then bits % 2 ^ 64 else 0

-- the call of this kind with these arguments
abbrev pub call_of_site : Kind → CallSite → Call
call_of_site kind site =
    record { kind = kind; a0 = argument kind 0 site.a0; a1 = argument kind 1 site.a1; a2 = argument kind 2 site.a2 }

-- a thread that is at a call of the library
abbrev pub stands : State → Thread → CallSite → Kind → Waiting
stands S thread site kind =
    record { call = call_of_site kind site; strand = record { «module» = S.store.«module»; thread = thread; call = Some site.func } }

-- thread t has trapped, with these functions of its frames
abbrev pub trapped_thread : State → ℕ → Trap → List ℕ → State
trapped_thread S t trap functions = record (with_thread S t Over) { end = Trapped trap; trap_frames = functions }

abbrev pub is_over_thread : Slot Waiting → Bool
is_over_thread (Kept w) = false
is_over_thread Lent = false
is_over_thread Over = true

abbrev pub all_over : List (Slot Waiting) → Bool
all_over [] = true
all_over (slot ∷ slots) = if is_over_thread slot then all_over slots else false

-- a process ends with its last thread
abbrev pub finished_if_all_over : State → State
finished_if_all_over S = if all_over S.crew.threads then record S { end = Finished } else S

-- a valid module imports functions of the library alone and never sticks, so that these two cases don't come up
abbrev pub stopped_at_call : State → ℕ → Thread → CallSite → Option Kind → State
stopped_at_call S t thread site (Some kind) = with_thread S t (Kept (stands S thread site kind))
stopped_at_call S t thread site None = trapped_thread S t Unreachable []

abbrev pub stopped_thread : State → ℕ → Halt → State
stopped_thread S t (Calls thread site) = stopped_at_call S t thread site (kind_at S.store.«module» site.func)
stopped_thread S t Ends = finished_if_all_over (with_thread S t Over)
stopped_thread S t (Traps trap functions) = trapped_thread S t trap functions
stopped_thread S t Sticks = trapped_thread S t Unreachable []

abbrev pub process_after_burst : State → ℕ → BurstResult → State
process_after_burst S t run = stopped_thread (record S { store = run.store }) t run.stop

-- ---- the whole

-- the handler of a signal; 0 is none
abbrev pub handler : List (Option ℕ) → ℕ → Option ℕ
handler handlers signal = if signal == 0 then None else handler_of handlers signal

-- where the thread's limits allow it
abbrev pub if_within_limits : Option Thread → Option Thread
if_within_limits None = None
if_within_limits (Some thread) = if is_in (Some thread) then Some thread else None

-- the thread, with the frame of a handler on top where there is one
abbrev pub with_handler_frame : Module → Strand → ℕ → Option ℕ → Option Thread
with_handler_frame m strand signal None = Some strand.thread
with_handler_frame m strand signal (Some func) = if_within_limits (thread_in_handler m strand.thread func signal)

-- a thread runs with a handler above it, for which there may be no room
abbrev pub after_running : State → ℕ → Thread → Option Thread → State
after_running S t thread None = trapped_thread S t Exhausted (functions_of thread)
after_running S t thread (Some above) = process_after_burst S t (burst instruction_budget above S.store)

-- the thread runs, with the frame of a handler on top where there is one
abbrev pub runs_handled : State → ℕ → Strand → ℕ → State
runs_handled S t strand signal = after_running S t strand.thread (with_handler_frame S.store.«module» strand signal (handler S.handlers signal))

-- one event more, of thread t
abbrev pub with_event_counted : State → ℕ → ℕ → State
with_event_counted S t clock = record S { clock = clock; events = S.events + 1; last_thread = Some t }

-- the reply's value goes on the operand stack, then a signal's handler is entered, then the thread runs
abbrev pub thread_runs_on : Kind → State → ℕ → Strand → ℕ → ℕ → ℕ → State
thread_runs_on kind S t strand reply signal clock =
    if ends_process kind
    then with_event_counted S t clock
    else runs_handled (with_event_counted S t clock) t (answered_strand strand (reply_value kind reply)) signal

-- and the event is over
abbrev pub thread_goes_on : Kind → State → ℕ → Strand → ℕ → ℕ → ℕ → State
thread_goes_on kind S t strand reply signal clock = awaits_event (thread_runs_on kind S t strand reply signal clock)
