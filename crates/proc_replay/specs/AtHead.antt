-- A replay before its first event.
use Rattle.std.specs.Prelude.{◌≡◌, ◌+◌, ◌≤◌, length}
use Rattle.call_log.specs.Head.{IsHead, head_bytes}
use Rattle.call_log.specs.Limits.{most_log}
use Rattle.call_log.specs.Log.{unread_after_head}
use Rattle.proc_replay.specs.Replaying.{Replaying}

-- nothing of a log was read but its head, and its process has had no event. With its head it is within the limit
pub record IsAtHead (r : Replaying) : Type 0 where
  pub head : IsHead r.head
  pub left : r.left ≡ unread_after_head r.head r.left.bytes
  pub clock : r.state.clock ≡ 0
  pub within : length (head_bytes r.head) + length r.left.bytes ≤ most_log
