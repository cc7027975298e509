-- What holds of the least causal past, and of the logs that are cut to it.
use Rattle.std.specs.Prelude.{◌≡◌, ◌+◌, ◌≤◌, ℕ, List, length, take, IsTrue, slice_get, Some}
use Rattle.call_log.specs.Head.{head_bytes}
use Rattle.call_log.specs.Laws.{IsNewerLog}
use Rattle.call_log.specs.Log.{entries_of, rest_of_log, rewritten_log}
use Rattle.guest_process.specs.Fits.{StateFits}
use Rattle.guest_process.specs.declared.verdict.Verdict.TheVariants.{Whole}
use Rattle.guest_process.specs.Replay.{accepted, state_after, verdict}
use Rattle.proc_replay.specs.AtHead.{IsAtHead}
use Rattle.proc_replay.specs.Course.{entries_ahead}
use Rattle.proc_replay.specs.Replaying.{Replaying}
use Rattle.causal_cut.specs.Past.{accepted_counts, holds_event, is_closed_family, is_within_lengths}

-- The family is closed and holds the event, of whose node it has no event more; and at each node it has at most as many
-- events as any closed family that holds the event.
pub record IsLeastPast (start : List Replaying) (node event : ℕ) (lengths : List ℕ) : Type 0 where
  pub within : IsTrue (is_within_lengths lengths (accepted_counts start))
  pub closed : IsTrue (is_closed_family start lengths)
  pub exact : slice_get lengths node ≡ Some event
  pub least : (family : List ℕ) → IsTrue (is_within_lengths family (accepted_counts start)) → IsTrue (is_closed_family start family) → IsTrue (holds_event node event family)
      → IsTrue (is_within_lengths lengths family)

-- These bytes are a log of version 2 with the head and the first n entries of a log, and nothing after them. Its replay
-- accepts these entries and is whole, and after each number of them the state is that of the log's replay.
pub record IsFront (r : Replaying) (n : ℕ) (bytes : List ℕ) : Type 0 where
  pub newer : IsNewerLog r.head (take n (entries_of r.left)) bytes
  pub whole : verdict r.state (entries_of newer.left) (rest_of_log newer.left) ≡ Whole
  pub accepts : accepted r.state (entries_of newer.left) ≡ n
  pub states : (m : ℕ) → m ≤ n → state_after r.state (entries_of newer.left) m ≡ state_after r.state (entries_of r.left) m
  pub no_longer : length bytes ≤ length (head_bytes r.head) + length r.left.bytes

-- this holds of what a log is rewritten to that is cut after some of its accepted events
abbrev pub FrontsReplay : Type 0
FrontsReplay = (r : Replaying) (n : ℕ) → IsAtHead r → StateFits r.state → n ≤ length (entries_ahead r) → IsFront r n (rewritten_log r.head (take n (entries_of r.left)))
