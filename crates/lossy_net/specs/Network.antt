-- What a network holds, as a list with the traffic of each process at the process's number, and what
-- each call makes of it.
use Rattle.std.specs.Prelude.{ℕ, suc, zero, List, [], ◌∷◌, ◌++◌, length, drop, slice_set, Option, Some, None, option_map}
use Rattle.std.specs.List.{slice_index_or, slice_get}
use Rattle.lamport_tag.specs.declared.Tag.{Tag}
use Rattle.lamport_tag.specs.Tag.{IsReadAs, read_datagram}
use Rattle.lossy_net.specs.declared.net.SentBytes.{SentBytes}

-- a datagram that a process sent into the group: the process that it is for, and all its bytes
pub record Sent : Type 0 where
  pub to : ℕ
  pub bytes : List ℕ

-- a datagram that was sent, as it is shown, is this one
abbrev pub kept_sent : SentBytes → Sent
kept_sent sent = record { to = sent.to; bytes = sent.bytes.now }

-- what a process sent into the group, the first one first, and the datagrams that wait for it, the
-- next one to be taken first
pub record Traffic : Type 0 where
  pub sent : List Sent
  pub waiting : List (List ℕ)

-- nothing was sent, and nothing waits
abbrev pub no_traffic : Traffic
no_traffic = record { sent = []; waiting = [] }

-- the traffic of a process
abbrev pub traffic_of : List Traffic → ℕ → Traffic
traffic_of net process = slice_index_or net process no_traffic

-- what a process sent into the group, the first one first
abbrev pub sent_by : List Traffic → ℕ → List Sent
sent_by net process = (traffic_of net process).sent

-- the mailbox of a process: the datagrams that wait for it, the next one to be taken first
abbrev pub mailbox_of : List Traffic → ℕ → List (List ℕ)
mailbox_of net process = (traffic_of net process).waiting

-- a process's traffic after it sent this datagram too
abbrev pub after_sending : Traffic → Sent → Traffic
after_sending traffic datagram = record { sent = traffic.sent ++ datagram ∷ []; waiting = traffic.waiting }

-- the network after the process sent this datagram too
abbrev pub with_sent : List Traffic → ℕ → Sent → List Traffic
with_sent net process datagram = slice_set net process (after_sending (traffic_of net process) datagram)

-- the network with this mailbox of the process
abbrev pub with_mailbox : List Traffic → ℕ → List (List ℕ) → List Traffic
with_mailbox net process waiting = slice_set net process (record { sent = sent_by net process; waiting = waiting })

-- the network after these bytes were put at the end of the process's mailbox
abbrev pub with_waiting : List Traffic → ℕ → List ℕ → List Traffic
with_waiting net process bytes = with_mailbox net process (mailbox_of net process ++ bytes ∷ [])

-- the network after the first datagram of the process's mailbox was taken
abbrev pub without_front : List Traffic → ℕ → List Traffic
without_front net process = with_mailbox net process (drop 1 (mailbox_of net process))

-- the nth of these, from 1
abbrev pub nth_of : {A : Type 0} → List A → ℕ → Option A
nth_of xs zero = None
nth_of xs (suc before) = slice_get xs before

-- the network after this datagram, if there is one, was put at the end of its receiver's mailbox
abbrev pub with_delivered : List Traffic → Option Sent → List Traffic
with_delivered net None = net
with_delivered net (Some datagram) = with_waiting net datagram.to datagram.bytes

-- In a group of `count` processes the first datagram of a mailbox has this tag, or none, and this
-- payload.
abbrev pub IsReadFirst : ℕ → List (List ℕ) → Option Tag → List ℕ → Type 0
IsReadFirst count [] tag payload = ⊥
IsReadFirst count (datagram ∷ waiting) tag payload = IsReadAs count datagram tag payload

-- the first datagram of the process's mailbox has this tag, or none, and this payload
abbrev pub IsFirstWaiting : List Traffic → ℕ → Option Tag → List ℕ → Type 0
IsFirstWaiting net process = IsReadFirst (length net) (mailbox_of net process)

-- the tag and the payload of the first datagram of the process's mailbox, if there is one
abbrev pub first_waiting : List Traffic → ℕ → Option (Option Tag × List ℕ)
first_waiting net process = option_map (read_datagram (length net)) (slice_get (mailbox_of net process) 0)
