-- When an entry can be the next event, and why not.
use Rattle.std.specs.Prelude.{ℕ, ◌==◌, ◌&&◌, ◌||◌, not, nat_le, is_some, bytes_eq, List, Bool, true, false, Option, Some, None}
use Rattle.call_table.specs.Table.{row}
use Rattle.call_table.specs.declared.kind.Kind.{Kind}
use Rattle.lamport_tag.specs.Tag.{next_clock_of}
use Rattle.lib_calls.specs.declared.entry.Call.{Call}
use Rattle.lib_calls.specs.declared.entry.Entry.{Entry}
use Rattle.lib_calls.specs.Answer.{Answer, answer_of}
use Rattle.lib_calls.specs.Effects.{outgoing_of}
use Rattle.guest_signals.specs.Signals.{most_signal}
use Rattle.guest_process.specs.declared.divergence.Divergence.{Divergence}
use Rattle.guest_process.specs.declared.divergence.Divergence.TheVariants.{AfterEnd, NoThread, OtherCall, OtherArguments, OtherBytes, OtherReply, NoHandler, OtherClock}
use Rattle.guest_process.specs.declared.waiting.Waiting.{Waiting}
use Rattle.guest_process.specs.Answers.{Need, Fixed, Blocked, World, need, effects_of_answer, brings_nothing, is_possible}
use Rattle.guest_process.specs.GoesOn.{handler}
use Rattle.guest_process.specs.Kinds.{ends_process}
use Rattle.guest_process.specs.State.{State, is_running, thread_at}

abbrev pub same_arguments : Call → Call → Bool
same_arguments c pending = (c.a0 == pending.a0) && ((c.a1 == pending.a1) && (c.a2 == pending.a2))

-- whether some environment gives the answer
abbrev pub need_gives_answer : Need → Answer → Bool → Bool
need_gives_answer (Fixed reply S) a from_world = (a.reply == reply) && brings_nothing a.tag a.incoming
need_gives_answer Blocked a from_world = false
need_gives_answer World a from_world = from_world

-- no signal, or one that is handled in the state after the answer
abbrev pub is_handled : Kind → List (Option ℕ) → ℕ → Bool
is_handled kind handlers signal =
    (signal == 0) || (not (ends_process kind) && (nat_le signal most_signal && is_some (handler handlers signal)))

-- what is judged of an entry at the pending call, in the order of the reasons
pub record EntryChecks : Type 0 where
  pub call : Bool
  pub arguments : Bool
  pub bytes : Bool
  pub reply : Bool
  pub handler : Bool
  pub clock : Bool

abbrev pub checks_by : Kind → State → Entry → Call → Answer → EntryChecks
checks_by kind S e c a = record {
  call = (row e.call.kind).number == (row c.kind).number;
  arguments = same_arguments e.call c;
  bytes = bytes_eq e.outgoing (outgoing_of c S.store.memory);
  reply = need_gives_answer (need kind S e.thread c) a (is_possible kind S c a);
  handler = is_handled kind (effects_of_answer kind S e.thread c a).handlers e.signal;
  clock = e.clock == next_clock_of S.clock e.tag;
}

abbrev pub entry_checks : State → Entry → Waiting → EntryChecks
entry_checks S e w = checks_by w.call.kind S e w.call (answer_of e)

abbrev pub unless_checked : Bool → Divergence → Option Divergence → Option Divergence
unless_checked true why rest = rest
unless_checked false why rest = Some why

abbrev pub first_failing : EntryChecks → Option Divergence
first_failing c =
    unless_checked c.call OtherCall (unless_checked c.arguments OtherArguments (unless_checked c.bytes OtherBytes
    (unless_checked c.reply OtherReply (unless_checked c.handler NoHandler (unless_checked c.clock OtherClock None)))))

abbrev pub reason_at : State → Entry → Option Waiting → Option Divergence
reason_at S e None = Some NoThread
reason_at S e (Some w) = first_failing (entry_checks S e w)

-- why an entry can't be the next event, or nothing where it can
abbrev pub reason : State → Entry → Option Divergence
reason S e = unless_checked (is_running S) AfterEnd (reason_at S e (thread_at S e.thread))
