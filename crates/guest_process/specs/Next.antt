-- The state after an event, from its entry alone.
use Rattle.std.specs.Prelude.{Option, Some, None}
use Rattle.lib_calls.specs.declared.entry.Entry.{Entry}
use Rattle.lib_calls.specs.Answer.{answer_of}
use Rattle.guest_process.specs.declared.waiting.Waiting.{Waiting}
use Rattle.guest_process.specs.Answers.{effects_of_answer}
use Rattle.guest_process.specs.GoesOn.{thread_goes_on}
use Rattle.guest_process.specs.State.{State, thread_at}

abbrev pub next_at_thread : State → Entry → Option Waiting → State
next_at_thread S e None = S
next_at_thread S e (Some w) = thread_goes_on w.call.kind (effects_of_answer w.call.kind S e.thread w.call (answer_of e)) e.thread w.strand e.reply e.signal e.clock

abbrev pub next : State → Entry → State
next S e = next_at_thread S e (thread_at S e.thread)
