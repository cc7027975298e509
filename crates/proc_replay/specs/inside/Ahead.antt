-- What holds within a replay.
use Rattle.std.specs.Prelude.{◌≡◌, ◌+◌, ◌*◌, ◌^◌, ◌<◌, length}
use Rattle.lib_calls.specs.declared.entry.Entry.{Entry}
use Rattle.call_log.specs.Log.{Log}
use Rattle.proc_replay.specs.declared.replayer.Replayer.TheInside.{Inside}
use Rattle.proc_replay.specs.declared.turn.Turn.{Turn}
use Rattle.guest_process.specs.State.{State}
use Rattle.call_log.specs.Limits.{least_entry}
use Rattle.proc_replay.specs.Replaying.{Makes, Replaying, after_replay_turn, turn}
use Rattle.proc_replay.specs.Meanings.{move_of}

-- this is what the next turn gives, and the log is what is left where it makes an event
pub record IsLookahead (r : Replaying) (next : Turn) (following : Log) : Type 0 where
  pub tells : move_of next ≡ turn r
  pub leaves : (e : Entry) → turn r ≡ Makes e → following ≡ record { head = r.head; left = (after_replay_turn r).left }

-- a process with the log that is left
abbrev pub replaying : State → Log → Replaying
replaying S log = record { head = log.head; state = S; left = log.left }

-- a log has fewer than 2 ^ 63 bytes, and each event took some of them
pub record FitsEventCount (S : State) (log : Log) : Type 0 where
  pub room : S.events * least_entry + length log.left.bytes < 2 ^ 63

pub record IsReplayer (r : Inside) : Type 0 where
  pub room : FitsEventCount r.process r.ahead.value.log
  pub ahead : IsLookahead (replaying r.process r.ahead.value.log) r.ahead.value.turn r.ahead.value.following
