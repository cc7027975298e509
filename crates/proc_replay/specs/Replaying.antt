-- A replay that is under way, and its next turn.
use Rattle.std.specs.Prelude.{ℕ, ◌+◌, Option, Some, None}
use Rattle.lib_calls.specs.declared.entry.Entry.{Entry}
use Rattle.call_log.specs.Head.{Head}
use Rattle.call_log.specs.Log.{Unread, entry_at}
use Rattle.guest_process.specs.declared.divergence.Divergence.{Divergence}
use Rattle.guest_process.specs.Legal.{reason}
use Rattle.guest_process.specs.Next.{next}
use Rattle.guest_process.specs.State.{State}

-- the head of the log, the process after the events so far, and what is left of the log after their entries
pub record Replaying : Type 0 where
  pub head : Head
  pub state : State
  pub left : Unread

-- what the next turn is: the event of an entry is made, or no entry comes next, or the entry with this
-- number, from 1 on, is not legal
pub data ReplayMove : Type 0 where
  Makes : (entry : Entry) → ReplayMove
  Ends : ReplayMove
  Diverges : (at : ℕ) → (why : Divergence) → ReplayMove

abbrev pub move_by : State → Entry → Option Divergence → ReplayMove
move_by S e None = Makes e
move_by S e (Some why) = Diverges (S.events + 1) why

abbrev pub turn_at : State → Option (Entry × Unread) → ReplayMove
turn_at S None = Ends
turn_at S (Some x) = move_by S x.0 (reason S x.0)

abbrev pub turn : Replaying → ReplayMove
turn r = turn_at r.state (entry_at r.left)

-- where the entry is legal its event is made, and else nothing changes
abbrev pub moved : Replaying → Entry → Unread → Option Divergence → Replaying
moved r e behind None = record { head = r.head; state = next r.state e; left = behind }
moved r e behind (Some why) = r

abbrev pub after_at : Replaying → Option (Entry × Unread) → Replaying
after_at r None = r
after_at r (Some x) = moved r x.0 x.1 (reason r.state x.0)

-- what is there after the turn
abbrev pub after_replay_turn : Replaying → Replaying
after_replay_turn r = after_at r (entry_at r.left)
