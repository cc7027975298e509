-- For whom the datagrams are that are kept.
use Rattle.std.specs.Prelude.{◌≡◌, ℕ, ◌<◌, List, Some, length}
use Rattle.lossy_net.specs.Network.{Sent, nth_of, Traffic, sent_by}

-- each of these datagrams is for a process of a group of `count`
abbrev pub AreForGroup : ℕ → List Sent → Type 0
AreForGroup count sent = (n : ℕ) (datagram : Sent) → nth_of sent n ≡ Some datagram → datagram.to < count

-- each datagram was sent to a process of the group
abbrev pub IsSentIntoGroup : List Traffic → Type 0
IsSentIntoGroup net = (process : ℕ) → AreForGroup (length net) (sent_by net process)
