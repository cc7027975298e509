-- The converse of a recording: the schedule that is made of the logs of a group records to these logs.
use Rattle.std.specs.Prelude.{◌≡◌, ◌≢◌, ◌≤◌, ℕ, false, List, [], length, map, take, All, AllPairs, slice_get, Some, None, Ok}
use Rattle.call_log.specs.declared.version.Version.TheVariants.{Two}
use Rattle.call_log.specs.Log.{entries_of, rest_of_log, rewritten_log}
use Rattle.group_record.specs.Answer.{group_of}
use Rattle.group_record.specs.Run.{GroupStart, RunProgress, entries_of_steps, head_of_log, log_of, run, processes_in_group, world_around}
use Rattle.guest_process.specs.Live.{Env}
use Rattle.proc_replay.specs.AtHead.{IsAtHead}
use Rattle.proc_replay.specs.Replaying.{Replaying}
use Rattle.schedule_text.specs.Limits.{most_schedule}
use Rattle.schedule_text.specs.Schedule.{IsSchedule}
use Rattle.schedule_text.specs.Text.{text_of}
use Rattle.schedule_text.specs.declared.process.ProcessLine.{ProcessLine}
use Rattle.group_state.specs.Place.{AreGroupReplays, ReplaysFit, events_of_replays, group_count, node_names}
use Rattle.schedule_back.specs.Back.{back, schedule_of_events}
use Rattle.schedule_back.specs.Outcome.{text_or_refusal}
use Rattle.schedule_back.specs.Meanings.{IncomingAreBytes}

-- the logs of all processes of a group, in order of their numbers; and of each process a line of a schedule, with the name
-- that its log says, which no other has
pub record IsWholeGroup (lines : List ProcessLine) (start : List Replaying) : Type 0 where
  pub some : 1 ≤ length start
  pub replayers : AreGroupReplays start
  pub fits : ReplaysFit start
  pub at_heads : All IsAtHead start
  pub whole : length start ≡ group_count start
  pub names : map (λ line. line.name) lines ≡ node_names start
  pub apart : AllPairs (λ a b. a.name ≢ b.name) lines

-- the group of the schedule, with these first states, and the run of its items
abbrev pub back_group : List ProcessLine → List Replaying → GroupStart
back_group lines start = group_of (back lines start) (map (λ r. r.state) start)

abbrev pub back_run : List ProcessLine → List Replaying → RunProgress
back_run lines start = run (back_group lines start) (back lines start).items

-- the run of the items of the first k events
abbrev pub front_run : List ProcessLine → List Replaying → ℕ → RunProgress
front_run lines start k = run (back_group lines start) (schedule_of_events lines (take k (events_of_replays start))).items

-- nothing waits around a process, no datagram, no random bytes and no signal, and it was not killed
pub record NothingWaits (env : Env) : Type 0 where
  pub datagrams : env.mailbox ≡ []
  pub bytes : env.pool ≡ []
  pub signals : (s : ℕ) → 1 ≤ s → env.pending s ≡ false
  pub alive : env.killed ≡ false

-- The text is that of the schedule, within the limits. In the run of the schedule no item is idle, no log is full, between
-- the events nothing waits around a process, and each process has exactly the entries of its log, after which nothing is
-- left. So its log is that log written again in the version of recordings.
pub record RecordsBack (lines : List ProcessLine) (start : List Replaying) (text : List ℕ) : Type 0 where
  pub spelled : text ≡ text_of (back lines start)
  pub short : length text ≤ most_schedule
  pub formed : IsSchedule (back lines start)
  pub idle : (back_run lines start).idle ≡ 0
  pub room : (back_run lines start).full ≡ None
  pub between : (k p : ℕ) → NothingWaits (world_around (processes_in_group (back_group lines start)) (front_run lines start k).steps p)
  pub same : (p : ℕ) (r : Replaying) → slice_get start p ≡ Some r → entries_of_steps (back_run lines start).steps p ≡ entries_of r.left
  pub heads : (p : ℕ) (r : Replaying) → slice_get start p ≡ Some r → head_of_log (back_group lines start) p ≡ record r.head { version = Two }
  pub rest : (p : ℕ) (r : Replaying) → slice_get start p ≡ Some r → rest_of_log r.left ≡ []
  pub logs : (p : ℕ) (r : Replaying) → slice_get start p ≡ Some r
      → log_of (back_group lines start) (back_run lines start).steps p ≡ rewritten_log r.head (entries_of r.left)

-- this holds wherever such a schedule has a text
abbrev pub Converse : Type 0
Converse = (lines : List ProcessLine) (start : List Replaying) (text : List ℕ) → IsWholeGroup lines start → IncomingAreBytes (events_of_replays start)
    → text_or_refusal lines start ≡ Ok text → RecordsBack lines start text
