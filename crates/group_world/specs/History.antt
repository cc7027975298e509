-- The acted steps of a recording, and the world around each process after them, by counting.
use Rattle.std.specs.Prelude.{ℕ, ◌+◌, Bool, true, false, ◌||◌, ◌&&◌, ◌==◌, List, [], ◌∷◌, ◌++◌, drop, Option, Some, None, if◌then◌else◌}
use Rattle.lamport_tag.specs.Tag.{tag_bytes}
use Rattle.lib_calls.specs.declared.entry.Entry.{Entry}
use Rattle.lib_calls.specs.Traffic.{drawn, is_sent, is_taken}
use Rattle.lossy_net.specs.Network.{nth_of}

-- an event of a process, by its entry; the delivery of a datagram of the process by its number, from 1; a
-- datagram from outside for the process; its wall time, as the bits of a signed number of 64 bits; random
-- bytes for it; a signal that is now pending at it; or its end by `kill`
pub data Act : Type 0 where
  Event : (process : ℕ) → (entry : Entry) → Act
  Deliver : (process : ℕ) → (number : ℕ) → Act
  Inject : (process : ℕ) → (bytes : List ℕ) → Act
  Clock : (process : ℕ) → (time : ℕ) → Act
  Random : (process : ℕ) → (bytes : List ℕ) → Act
  Signal : (process : ℕ) → (signal : ℕ) → Act
  Kill : (process : ℕ) → Act

-- the acted steps, the newest first
abbrev pub History : Type 0
History = List Act

abbrev pub put_last_if : {A : Type 0} → Bool → List A → A → List A
put_last_if true xs x = xs ++ x ∷ []
put_last_if false xs x = xs

-- the entries of a process's events, in their order
abbrev pub process_entries : History → ℕ → List Entry
process_entries [] p = []
process_entries (Event q e ∷ h) p = put_last_if (q == p) (process_entries h p) e
process_entries (_ ∷ h) p = process_entries h p

-- ---- datagrams

-- the sends of a process into its group of `count`, in their order
abbrev pub sends : ℕ → History → ℕ → List Entry
sends count [] p = []
sends count (Event q e ∷ h) p = put_last_if ((q == p) && is_sent count e) (sends count h p) e
sends count (_ ∷ h) p = sends count h p

-- the datagram of a send of a process: the tag with the process and the send's clock, and the bytes that went out
abbrev pub datagram : ℕ → Entry → List ℕ
datagram p e = tag_bytes (record { sender = p; clock = e.clock }) ++ e.outgoing

-- the datagram of a send of process q, where it is for process p
abbrev pub addressed_datagram : ℕ → ℕ → Option Entry → List (List ℕ)
addressed_datagram q p None = []
addressed_datagram q p (Some e) = if e.call.a0 == p then datagram q e ∷ [] else []

-- the datagrams that were given to a process: those from outside, and those that were delivered, each as
-- its sender had sent it by then
abbrev pub given : ℕ → History → ℕ → List (List ℕ)
given count [] p = []
given count (Deliver q n ∷ h) p = given count h p ++ addressed_datagram q p (nth_of (sends count h q) n)
given count (Inject q bytes ∷ h) p = put_last_if (q == p) (given count h p) bytes
given count (_ ∷ h) p = given count h p

abbrev pub one_if : Bool → ℕ
one_if true = 1
one_if false = 0

-- how many datagrams a process took
abbrev pub taken_count : History → ℕ → ℕ
taken_count [] p = 0
taken_count (Event q e ∷ h) p = taken_count h p + one_if ((q == p) && is_taken e)
taken_count (_ ∷ h) p = taken_count h p

-- the mailbox of a process
abbrev pub mailbox : ℕ → History → ℕ → List (List ℕ)
mailbox count h p = drop (taken_count h p) (given count h p)

-- ---- random bytes

-- the random bytes that came for a process
abbrev pub supplied_bytes : History → ℕ → List ℕ
supplied_bytes [] p = []
supplied_bytes (Random q bytes ∷ h) p = if q == p then supplied_bytes h p ++ bytes else supplied_bytes h p
supplied_bytes (_ ∷ h) p = supplied_bytes h p

-- how many of them it took
abbrev pub used_count : History → ℕ → ℕ
used_count [] p = 0
used_count (Event q e ∷ h) p = if q == p then used_count h p + drawn e else used_count h p
used_count (_ ∷ h) p = used_count h p

-- the pool of a process
abbrev pub pool : History → ℕ → List ℕ
pool h p = drop (used_count h p) (supplied_bytes h p)

-- ---- the rest

-- the wall time of a process: that of the last `clock` item, or 0
abbrev pub time : History → ℕ → ℕ
time [] p = 0
time (Clock q value ∷ h) p = if q == p then value else time h p
time (_ ∷ h) p = time h p

-- whether a signal is pending at a process: it came after the last event of the process that delivered it, or
-- came at all where there is no such event
abbrev pub is_pending : History → ℕ → ℕ → Bool
is_pending [] p signal = false
is_pending (Signal q n ∷ h) p signal = if (q == p) && (n == signal) then true else is_pending h p signal
is_pending (Event q e ∷ h) p signal = if (q == p) && (e.signal == signal) then false else is_pending h p signal
is_pending (_ ∷ h) p signal = is_pending h p signal

-- whether a process was killed
abbrev pub is_killed : History → ℕ → Bool
is_killed [] p = false
is_killed (Kill q ∷ h) p = (q == p) || is_killed h p
is_killed (_ ∷ h) p = is_killed h p
