-- What a legal entry says in numbers, of datagrams and of random bytes.
use Rattle.std.specs.Prelude.{◌≡◌, ◌≢◌, ◌↔◌, ◌⊎◌, ℕ, ◌<◌, ◌≤◌, length, IsTrue, Some, None}
use Rattle.call_table.specs.declared.kind.Kind.{Kind}
use Rattle.call_table.specs.declared.kind.Kind.TheVariants.{Random, Send, Recv, TryRecv}
use Rattle.coop_threads.specs.Crew.{most_threads}
use Rattle.lamport_tag.specs.declared.Tag.{Tag}
use Rattle.lamport_tag.specs.Tag.{is_sendable, next_clock_of}
use Rattle.lib_calls.specs.declared.entry.Entry.{Entry}
use Rattle.lib_calls.specs.Effects.{is_good, minus_two}
use Rattle.lib_calls.specs.Limits.{most_call_bytes}
use Rattle.lib_calls.specs.Traffic.{drawn, is_sent, is_taken}
use Rattle.guest_signals.specs.Signals.{most_signal}
use Rattle.guest_process.specs.Fits.{StateFits}
use Rattle.guest_process.specs.Legal.{reason}
use Rattle.guest_process.specs.State.{State}

-- Its thread, its signal and its bytes are within the limits of the process, its clock follows that of the process. A tag
-- is one that a process of the group can have sent, and stands with a datagram that was taken, whose bytes the reply
-- counts.
pub record HasLegalNumbers (S : State) (e : Entry) : Type 0 where
  pub thread : e.thread < most_threads
  pub signal : e.signal ≤ most_signal
  pub outgoing : length e.outgoing ≤ most_call_bytes
  pub incoming : length e.incoming ≤ most_call_bytes
  pub clock : e.clock ≡ next_clock_of S.clock e.tag
  pub sent : (tag : Tag) → e.tag ≡ Some tag → IsTrue (is_sendable S.count tag)
  pub tagged : (tag : Tag) → e.tag ≡ Some tag → IsTrue (is_taken e)
  pub counted : IsTrue (is_taken e) → e.reply ≡ length e.incoming

abbrev pub LegalNumbers : Type 0
LegalNumbers = (S : State) (e : Entry) → StateFits S → reason S e ≡ None → HasLegalNumbers S e

-- the entry's call is of this kind, and its arguments are good in the memory of the process
abbrev pub CallsWell : Kind → State → Entry → Type 0
CallsWell kind S e = (e.call.kind ≡ kind) × IsTrue (is_good e.call S.store.memory)

-- What goes into the group is what `send` with good arguments sends to one of its processes. A datagram is taken by `recv`
-- with good arguments, and by `try_recv` with good arguments unless it says that none is there. Random bytes are drawn by
-- `random` with good arguments alone, as many as it asks for.
pub record HasTraffic (S : State) (e : Entry) : Type 0 where
  pub sent : (count : ℕ) → IsTrue (is_sent count e) ↔ (CallsWell Send S e × (e.call.a0 < count))
  pub taken : IsTrue (is_taken e) ↔ (CallsWell Recv S e ⊎ (CallsWell TryRecv S e × (e.reply ≢ minus_two)))
  pub draws : CallsWell Random S e → drawn e ≡ e.call.a1
  pub draws_none : ¬ CallsWell Random S e → drawn e ≡ 0

abbrev pub LegalTraffic : Type 0
LegalTraffic = (S : State) (e : Entry) → StateFits S → reason S e ≡ None → HasTraffic S e
