-- Inside: the parts of an event in the order in which the code makes them, which no law and no public call speaks of.
use Rattle.std.specs.Prelude.{ℕ}
use Rattle.call_table.specs.declared.kind.Kind.{Kind}
use Rattle.call_table.specs.declared.kind.Kind.TheVariants.{Spawn, Lock, Unlock, OnSignal}
use Rattle.lib_calls.specs.declared.entry.Call.{Call}
use Rattle.lib_calls.specs.declared.entry.Entry.{Entry}
use Rattle.lib_calls.specs.Answer.{Answer, answer_of}
use Rattle.wasm_step.specs.Strand.{answered_strand}
use Rattle.guest_process.specs.declared.waiting.Waiting.{Waiting}
use Rattle.guest_process.specs.Answers.{after_need, handled, locked, narrow, spawned, unlocked, with_answer}
use Rattle.guest_process.specs.GoesOn.{runs_handled}
use Rattle.guest_process.specs.Kinds.{reply_value}
use Rattle.guest_process.specs.State.{State}

-- the state after an answer, but for the end of a thread that calls `exit`
abbrev pub acted_on_answer : Kind → State → ℕ → Call → Answer → State
acted_on_answer Spawn S t c a = after_need (spawned S (narrow c.a0) (narrow c.a1)) S
acted_on_answer Lock S t c a = after_need (locked S (narrow c.a0) t) S
acted_on_answer Unlock S t c a = after_need (unlocked S (narrow c.a0) t) S
acted_on_answer OnSignal S t c a = after_need (handled S (narrow c.a0) (narrow c.a1)) S
acted_on_answer _ S t c a = with_answer S c a

-- the state once the thread of an entry went on, from one in which it was taken out and its answer has had its effects
abbrev pub thread_gone_on : State → Waiting → Entry → State
thread_gone_on S w e = runs_handled S e.thread (answered_strand w.strand (reply_value w.call.kind e.reply)) e.signal

-- the state after what the answer does, but for the end of a thread that calls `exit`
abbrev pub acted_by_entry : State → Entry → State
acted_by_entry S e = acted_on_answer e.call.kind S e.thread e.call (answer_of e)
