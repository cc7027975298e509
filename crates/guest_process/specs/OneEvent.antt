-- The laws over one event: those that the world can let a process have are those that are legal, and what
-- each of them keeps.
use Rattle.std.specs.Prelude.{◌≡◌, ℕ, ◌+◌, ◌^◌, ◌<◌, ◌≤◌, ◌==◌, Bool, true, false, if◌then◌else◌, List, [], ◌∷◌, ◌++◌, length, take, Option, Some, None}
use Rattle.call_table.specs.declared.kind.Kind.{Kind}
use Rattle.call_table.specs.declared.kind.Kind.TheVariants.{Now, SleepUntil, Random, Recv, TryRecv}
use Rattle.lamport_tag.specs.declared.Tag.{Tag}
use Rattle.lib_calls.specs.Answer.{Answer, answer_of}
use Rattle.lib_calls.specs.Effects.{minus_one, minus_two}
use Rattle.lamport_tag.specs.Tag.{clock_of, tag_bytes}
use Rattle.lib_calls.specs.Entry.{IsShaped}
use Rattle.lib_calls.specs.declared.entry.Entry.{Entry}
use Rattle.guest_signals.specs.Signals.{most_signal}
use Rattle.wasm_types.specs.Modules.{Module}
use Rattle.guest_module.specs.Valid.{IsValid}
use Rattle.guest_process.specs.Fits.{StateFits, EnvFits}
use Rattle.guest_process.specs.Legal.{reason}
use Rattle.guest_process.specs.Live.{Env, Event, live}
use Rattle.guest_process.specs.Next.{next}
use Rattle.guest_process.specs.Sound.{IsSoundProcess}
use Rattle.guest_process.specs.Start.{start}
use Rattle.guest_process.specs.State.{State}
use Rattle.lamport_tag.specs.Limits.{most_processes}

-- the entry has the shape of its kind and is legal, and the state after it is the event's
pub record AgreesWithEvent (S : State) (e : Event) : Type 0 where
  pub shape : IsShaped e.entry
  pub legal : reason S e.entry ≡ None
  pub same : next S e.entry ≡ e.state

abbrev pub OneEvent : Type 0
OneEvent = (S : State) (t : ℕ) (env : Env) → StateFits S → S.events < 2 ^ 61 → EnvFits env → (e : Event) → live S t env ≡ Some e → AgreesWithEvent S e

abbrev pub with_signal : Entry → ℕ → Entry
with_signal e signal = record e { signal = signal }

-- its signal is pending, and the lowest of those that are pending and may be delivered there; it has none only where none may
pub record BearsLowest (S : State) (env : Env) (e : Entry) : Type 0 where
  pub pending : 1 ≤ e.signal → env.pending e.signal ≡ true
  pub first : (signal : ℕ) → 1 ≤ signal → env.pending signal ≡ true → reason S (with_signal e signal) ≡ None → (1 ≤ e.signal) × (e.signal ≤ signal)

abbrev pub LowestFirst : Type 0
LowestFirst = (S : State) (t : ℕ) (env : Env) → StateFits S → S.events < 2 ^ 61 → EnvFits env → (e : Event) → live S t env ≡ Some e → BearsLowest S env e.entry

-- a datagram with this tag, or without one, and this payload
abbrev pub datagram_as : Option Tag → List ℕ → List ℕ
datagram_as None payload = payload
datagram_as (Some tag) payload = tag_bytes tag ++ payload

-- it holds, but where this does
abbrev pub Unless : Bool → Type 0 → Type 0
Unless true P = Unit {0}
Unless false P = P

-- the datagram of the answer comes first in the mailbox
abbrev pub IsHeadOfMailbox : Answer → List (List ℕ) → Type 0
IsHeadOfMailbox a mailbox = (later : List (List ℕ)) × (mailbox ≡ datagram_as a.tag a.incoming ∷ later)

-- the datagram of the answer is there, or where the answer says so there is none
abbrev pub MailboxMatchesAnswer : Bool → Answer → List (List ℕ) → Type 0
MailboxMatchesAnswer true a mailbox = mailbox ≡ []
MailboxMatchesAnswer false a mailbox = IsHeadOfMailbox a mailbox

-- the world has what the answer to a call of this kind brings
abbrev pub WorldBrings : Kind → Answer → Env → Type 0
WorldBrings Now a env = env.time ≡ a.reply
WorldBrings SleepUntil a env = env.time ≡ a.reply
WorldBrings Random a env = Unless (a.reply == minus_one) (take (length a.incoming) env.pool ≡ a.incoming)
WorldBrings Recv a env = Unless (a.reply == minus_one) (IsHeadOfMailbox a env.mailbox)
WorldBrings TryRecv a env = Unless (a.reply == minus_one) (MailboxMatchesAnswer (a.reply == minus_two) a env.mailbox)
WorldBrings _ a env = Unit {0}

-- and of the signals only the one that is delivered is pending
pub record WorldSupplies (e : Entry) (env : Env) : Type 0 where
  pub alive : env.killed ≡ false
  pub brings : WorldBrings e.call.kind (answer_of e) env
  pub signals : (s : ℕ) → 1 ≤ s → s < 1 + most_signal → env.pending s ≡ (s == e.signal)

-- the mailbox out of which an answer to a call of this kind takes what it tells
abbrev pub mailbox_for : Kind → Answer → List (List ℕ)
mailbox_for TryRecv a = if a.reply == minus_two then [] else datagram_as a.tag a.incoming ∷ []
mailbox_for _ a = datagram_as a.tag a.incoming ∷ []

-- the world in which an entry comes about: what its call takes is there, and nothing after it
abbrev pub world_for : Entry → Env
world_for e = record {
  mailbox = mailbox_for e.call.kind (answer_of e);
  pool = e.incoming;
  time = e.reply;
  pending = λ s. s == e.signal;
  killed = false;
}

-- it has what the entry brings, and is one that can be
abbrev pub SomeWorldAllows : Type 0
SomeWorldAllows = (e : Entry) → IsShaped e → EnvFits (world_for e) × WorldSupplies e (world_for e)

-- a legal entry is the event of a try of its thread in each world that has what it brings
abbrev pub Possible : Type 0
Possible = (S : State) (e : Entry) → StateFits S → reason S e ≡ None
    → (env : Env) → WorldSupplies e env → live S e.thread env ≡ Some (record { state = next S e; entry = e })

-- the clock rises to the entry's, also above that of the datagram that was taken; the event is counted;
-- and the process keeps its number, its group and its module
pub record RisesTo (S : State) (e : Entry) (S' : State) : Type 0 where
  pub told : S'.clock ≡ e.clock
  pub last : S.clock < S'.clock
  pub tag : clock_of e.tag < S'.clock
  pub events : S'.events ≡ S.events + 1
  pub who : S'.who ≡ S.who
  pub count : S'.count ≡ S.count
  pub same_module : S'.store.«module» ≡ S.store.«module»

abbrev pub Rises : Type 0
Rises = (S : State) (e : Entry) → StateFits S → reason S e ≡ None → RisesTo S e (next S e)

-- how a process of a valid module begins has what holds of each state
abbrev pub IsStarted : Type 0
IsStarted = (m : Module) (who count : ℕ) (S : State) → IsValid m → who < count → count ≤ most_processes → start m who count ≡ Some S → StateFits S × IsSoundProcess S

-- a legal event keeps what holds of each state
abbrev pub IsKeptByEvents : Type 0
IsKeptByEvents = (S : State) (e : Entry) → StateFits S → reason S e ≡ None → StateFits (next S e)

-- and what its threads and handlers owe its module
abbrev pub IsKeptSound : Type 0
IsKeptSound = (S : State) (e : Entry) → IsSoundProcess S → reason S e ≡ None → IsSoundProcess (next S e)
