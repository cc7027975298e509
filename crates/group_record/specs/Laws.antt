-- What holds of each recording: at each moment its logs tell its events, and each datagram that was taken
-- came from outside or is one that was sent.
use Rattle.std.specs.Prelude.{◌≡◌, ℕ, Bool, true, false, Option, ◌<◌, ◌≤◌, IsTrue, List, ◌∷◌, ◌++◌, length, take, All, slice_get, Contains, Some, Ok}
use Rattle.lamport_tag.specs.Tag.{read_datagram}
use Rattle.call_table.specs.declared.kind.Kind.{Kind}
use Rattle.call_table.specs.declared.kind.Kind.TheVariants.{Random, Recv, TryRecv}
use Rattle.lib_calls.specs.Effects.{is_good}
use Rattle.lib_calls.specs.Traffic.{drawn, is_taken}
use Rattle.lib_calls.specs.declared.entry.Entry.{Entry}
use Rattle.fri_text.specs.Name.{is_name}
use Rattle.schedule_text.specs.declared.item.Item.{Item}
use Rattle.schedule_text.specs.Schedule.{IsInRange, IsWellFormed, Schedule}
use Rattle.wasm_types.specs.Modules.{Module}
use Rattle.guest_module.specs.Valid.{IsValid}
use Rattle.guest_process.specs.Live.{Event}
use Rattle.guest_process.specs.Start.{start}
use Rattle.guest_process.specs.State.{State}
use Rattle.lossy_net.specs.Network.{nth_of}
use Rattle.group_world.specs.History.{Deliver, mailbox, pool, sends, taken_count}
use Rattle.group_world.specs.Laws.{GiverOfDatagram, OriginOfDatagram}
use Rattle.group_record.specs.Run.{GroupStart, Had, IsMoment, RunStep, entries_of_steps, entry_bytes, history_of_steps, process_after, run, processes_in_group}
use Rattle.group_record.specs.Logs.{TellsEvents, IsLogWithTail}
use Rattle.group_record.specs.Answer.{first_states, group_of}
use Rattle.lamport_tag.specs.Limits.{most_clock, most_processes}

-- a group of 1 to 16 named processes of valid modules, before its first event
pub record IsBegun (group : GroupStart) : Type 0 where
  pub some : 1 ≤ processes_in_group group
  pub few : processes_in_group group ≤ most_processes
  pub first : length group.first ≡ processes_in_group group
  pub names : All (λ name. IsTrue (is_name name)) group.names
  pub starts : (p : ℕ) (S : State) → slice_get group.first p ≡ Some S → (m : Module) × IsValid m × (start m p (processes_in_group group) ≡ Some S)

-- the group of a schedule has begun so where each process's first state is that of its module; and the
-- schedule's items are in range for it
abbrev pub Beginning : Type 0
Beginning = (schedule : Schedule) (modules : List Module) (first : List State) → IsWellFormed schedule
    → length modules ≡ length schedule.processes → All IsValid modules → first_states schedule modules ≡ Ok first
    → IsBegun (group_of schedule first) × All (IsInRange (processes_in_group (group_of schedule first))) schedule.items

-- at each moment of a run each log tells the events of its process
abbrev pub Agreement : Type 0
Agreement = (group : GroupStart) (items : List Item) → IsBegun group → All (IsInRange (processes_in_group group)) items
    → (steps : List RunStep) → IsMoment steps (run group items).steps → (p : ℕ) → p < processes_in_group group → TellsEvents group steps p

-- before each event of these steps, a log after which the event's entry was written in part tells the events before
-- it, and that part is left over
abbrev pub TellsCutLogs : GroupStart → List RunStep → Type 0
TellsCutLogs group steps = (later early : List RunStep) (p : ℕ) (e : Event) → steps ≡ later ++ (Had p e ∷ early)
    → (n : ℕ) → n < length (entry_bytes group early p e) → IsLogWithTail group early p (take n (entry_bytes group early p e))

abbrev pub CutAgreement : Type 0
CutAgreement = (group : GroupStart) (items : List Item) → IsBegun group → All (IsInRange (processes_in_group group)) items → TellsCutLogs group (run group items).steps

-- the entry names this send of process q, and a first part of what the send sent out came in
pub record TellsSend (e : Entry) (q : ℕ) (sent : Entry) : Type 0 where
  pub tag : e.tag ≡ Some (record { sender = q; clock = sent.clock })
  pub payload : e.incoming ≡ take e.call.a1 sent.outgoing

-- there is such a send of process q, it was for process p, and the entry names it, unless its clock is past those that a
-- tag can bear
pub record IsSendInHistory (found : Option Entry) (q p : ℕ) (e : Entry) : Type 0 where
  pub sent : Entry
  pub is : found ≡ Some sent
  pub to : sent.call.a0 ≡ p
  pub named : sent.clock ≤ most_clock → TellsSend e q sent

-- the datagram that an event took: it came first in the mailbox, and the event tells its tag and a first
-- part of its payload; it came from outside or was sent; an act gave it in its turn; and where that act
-- delivers it, it had been sent before, and the sender's log told it by then
pub record TakesDatagram (count : ℕ) (early : List RunStep) (p : ℕ) (e : Event) : Type 0 where
  pub bytes : List ℕ
  pub later : List (List ℕ)
  pub first : mailbox count (history_of_steps early) p ≡ bytes ∷ later
  pub tag : e.entry.tag ≡ (read_datagram count bytes).0
  pub payload : e.entry.incoming ≡ take e.entry.call.a1 (read_datagram count bytes).1
  pub origin : OriginOfDatagram count (history_of_steps early) p bytes
  pub giver : GiverOfDatagram count (history_of_steps early) p (taken_count (history_of_steps early) p) bytes
  pub sent : (q n : ℕ) → giver.act ≡ Deliver q n → IsSendInHistory (nth_of (sends count giver.earlier q) n) q p e.entry
  pub told : (q n : ℕ) (is : giver.act ≡ Deliver q n) → Contains (entries_of_steps early q) (sent q n is).sent

-- this holds of each event that took one
abbrev pub Delivery : Type 0
Delivery = (group : GroupStart) (items : List Item) → IsBegun group → All (IsInRange (processes_in_group group)) items
    → (later early : List RunStep) (p : ℕ) (e : Event) → (run group items).steps ≡ later ++ (Had p e ∷ early) → IsTrue (is_taken e.entry)
    → TakesDatagram (processes_in_group group) early p e

-- ---- what is there is taken

abbrev pub takes_datagrams : Kind → Bool
takes_datagrams Recv = true
takes_datagrams TryRecv = true
takes_datagrams _ = false

-- each event of recv or try_recv takes a datagram where one waits, unless its arguments were bad in the state
-- in which it came
abbrev pub WaitingIsTaken : GroupStart → List RunStep → Type 0
WaitingIsTaken group steps = (later early : List RunStep) (p : ℕ) (e : Event) → steps ≡ later ++ (Had p e ∷ early)
    → (S : State) → process_after group early p ≡ Some S
    → IsTrue (takes_datagrams e.entry.call.kind) → IsTrue (is_good e.entry.call S.store.memory)
    → (bytes : List ℕ) (others : List (List ℕ)) → mailbox (processes_in_group group) (history_of_steps early) p ≡ bytes ∷ others → IsTrue (is_taken e.entry)

abbrev pub TakesWaiting : Type 0
TakesWaiting = (group : GroupStart) (items : List Item) → IsBegun group → All (IsInRange (processes_in_group group)) items → WaitingIsTaken group (run group items).steps

-- an event of random takes as many of the first bytes of the pool as it asks for
pub record DrawsFromPool (early : List RunStep) (p : ℕ) (e : Event) : Type 0 where
  pub enough : e.entry.call.a1 ≤ length (pool (history_of_steps early) p)
  pub incoming : e.entry.incoming ≡ take e.entry.call.a1 (pool (history_of_steps early) p)
  pub count : drawn e.entry ≡ e.entry.call.a1

-- or none, where its arguments were bad
abbrev pub DrawsFromPoolIf : Bool → List RunStep → ℕ → Event → Type 0
DrawsFromPoolIf true early p e = DrawsFromPool early p e
DrawsFromPoolIf false early p e = drawn e.entry ≡ 0

-- this holds of each event of random
abbrev pub RandomIsDrawn : GroupStart → List RunStep → Type 0
RandomIsDrawn group steps = (later early : List RunStep) (p : ℕ) (e : Event) → steps ≡ later ++ (Had p e ∷ early)
    → (S : State) → process_after group early p ≡ Some S → e.entry.call.kind ≡ Random
    → DrawsFromPoolIf (is_good e.entry.call S.store.memory) early p e

abbrev pub TakesDrawn : Type 0
TakesDrawn = (group : GroupStart) (items : List Item) → IsBegun group → All (IsInRange (processes_in_group group)) items → RandomIsDrawn group (run group items).steps
