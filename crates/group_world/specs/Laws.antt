-- What holds of the world around a group: it is that which is counted out of the acts, each datagram in it
-- came from outside or is one that was sent, and each has an act that gave it.
use Rattle.std.specs.Prelude.{◌≡◌, ℕ, ◌<◌, ◌≤◌, ◌^◌, ◌==◌, IsTrue, List, [], ◌∷◌, ◌++◌, length, map, slice_get, Contains, Some, if◌then◌else◌}
use Rattle.lamport_tag.specs.Tag.{read_datagram}
use Rattle.lib_calls.specs.declared.entry.Entry.{Entry}
use Rattle.lib_calls.specs.Traffic.{drawn, is_taken}
use Rattle.lossy_net.specs.Network.{Sent, mailbox_of, nth_of, sent_by}
use Rattle.guest_signals.specs.Signals.{most_signal}
use Rattle.group_world.specs.History.{Act, Event, Deliver, Inject, Clock, Random, Signal, Kill, History, addressed_datagram, datagram, given, is_killed, is_pending, mailbox, pool, sends, taken_count, time}
use Rattle.group_world.specs.World.{World, has_pending, surroundings_of, world_after}
use Rattle.lamport_tag.specs.Limits.{most_clock}

-- ---- which acts can come

-- an event takes a datagram and random bytes only where there are such
pub record CanTake (count : ℕ) (h : History) (p : ℕ) (e : Entry) : Type 0 where
  pub datagrams : IsTrue (is_taken e) → 1 ≤ length (mailbox count h p)
  pub bytes : drawn e ≤ length (pool h p)

abbrev pub IsPossibleNext : ℕ → History → Act → Type 0
IsPossibleNext count h (Event p e) = (p < count) × CanTake count h p e
IsPossibleNext count h (Deliver p n) = p < count
IsPossibleNext count h (Inject p bytes) = p < count
IsPossibleNext count h (Clock p value) = p < count
IsPossibleNext count h (Random p bytes) = p < count
IsPossibleNext count h (Signal p signal) = (p < count) × (1 ≤ signal) × (signal ≤ most_signal)
IsPossibleNext count h (Kill p) = p < count

-- each act is one that can follow those before it
abbrev pub IsPossibleHistory : ℕ → History → Type 0
IsPossibleHistory count [] = Unit {0}
IsPossibleHistory count (a ∷ h) = IsPossibleNext count h a × IsPossibleHistory count h

-- ---- the world is what is counted

-- a send as the network keeps it
abbrev pub sent_as : ℕ → Entry → Sent
sent_as p e = record { to = e.call.a0; bytes = datagram p e }

-- what is kept around process p is what is counted
pub record IsCounted (count : ℕ) (h : History) (w : World) (p : ℕ) : Type 0 where
  pub sent : sent_by w.net p ≡ map (sent_as p) (sends count h p)
  pub mailbox : mailbox_of w.net p ≡ mailbox count h p
  pub pool : (surroundings_of w p).pool ≡ pool h p
  pub time : (surroundings_of w p).time ≡ time h p
  pub pending : (signal : ℕ) → 1 ≤ signal → signal ≤ most_signal → has_pending w p signal ≡ is_pending h p signal
  pub killed : (surroundings_of w p).killed ≡ is_killed h p

-- the size of the world stays, and what is kept around each process is what is counted
pub record Counting : Type 0 where
  pub net : (count : ℕ) (h : History) → length (world_after count h).net ≡ count
  pub surroundings : (count : ℕ) (h : History) → length (world_after count h).surroundings ≡ count
  pub counted : (count : ℕ) (h : History) → IsPossibleHistory count h → (p : ℕ) → p < count → IsCounted count h (world_after count h) p

-- ---- where datagrams come from

-- the bytes came from outside for process p, or they are the datagram of the nth send of process q, which
-- was for p, and which an item delivers
pub data OriginOfDatagram (count : ℕ) (h : History) (p : ℕ) (bytes : List ℕ) : Type 0 where
  FromOutside : Contains h (Inject p bytes) → OriginOfDatagram count h p bytes
  FromSend : (q n : ℕ) → (e : Entry) → Contains h (Deliver q n) → nth_of (sends count h q) n ≡ Some e
      → e.call.a0 ≡ p → bytes ≡ datagram q e → OriginOfDatagram count h p bytes

-- each datagram of a mailbox has such an origin
abbrev pub HasOrigin : Type 0
HasOrigin = (count : ℕ) (h : History) (p : ℕ) (bytes : List ℕ) → Contains (mailbox count h p) bytes → OriginOfDatagram count h p bytes

-- ---- which act gave a datagram

-- the datagram, if it is one, that an act which follows these gives to process p
abbrev pub gives : ℕ → History → Act → ℕ → List (List ℕ)
gives count h (Deliver q n) p = addressed_datagram q p (nth_of (sends count h q) n)
gives count h (Inject q bytes) p = if q == p then bytes ∷ [] else []
gives count h _ p = []

-- the act that gave process p this datagram, which has this number, from 0: before it those of the lesser
-- numbers had been given, and no others
pub record GiverOfDatagram (count : ℕ) (h : History) (p number : ℕ) (bytes : List ℕ) : Type 0 where
  pub later : History
  pub act : Act
  pub earlier : History
  pub split : h ≡ later ++ act ∷ earlier
  pub number_is : number ≡ length (given count earlier p)
  pub gives_it : gives count earlier act p ≡ bytes ∷ []

-- the front of a mailbox is the datagram that was given next after those that were taken; and each datagram
-- was given by an act
pub record MailboxIsFifo : Type 0 where
  pub front : (count : ℕ) (h : History) (p : ℕ) → slice_get (mailbox count h p) 0 ≡ slice_get (given count h p) (taken_count h p)
  pub giver : (count : ℕ) (h : History) (p number : ℕ) (bytes : List ℕ) → slice_get (given count h p) number ≡ Some bytes
      → GiverOfDatagram count h p number bytes

-- ---- what a datagram says

-- the datagram of a send whose clock a tag can bear names the send, and its payload is what went out
abbrev pub NamesSend : Type 0
NamesSend = (count q : ℕ) (e : Entry) → q < count → count ≤ 2 ^ 32 → 1 ≤ e.clock → e.clock ≤ most_clock
    → read_datagram count (datagram q e) ≡ (Some (record { sender = q; clock = e.clock }), e.outgoing)
