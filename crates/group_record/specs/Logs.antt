-- The logs of a recording, and what their replay makes of them.
use Rattle.std.specs.Prelude.{◌≡◌, ◌≤◌, ℕ, suc, List, [], ◌∷◌, ◌++◌, length, take, codes, slice_get, Some}
use Rattle.call_log.specs.Limits.{most_log}
use Rattle.call_log.specs.Log.{Unread, entries_of, head_at, rest_of_log}
use Rattle.guest_process.specs.Replay.{accepted, replayed}
use Rattle.guest_process.specs.State.{State}
use Rattle.group_record.specs.Run.{GroupStart, RunStep, entries_of_steps, head_of_log, log_of, recorded_states}

-- the file of a process's log
abbrev pub log_name : List ℕ → List ℕ
log_name name = name ++ codes ".log"

-- files of these names, each with the bytes at its place
abbrev pub files_from : ℕ → List (List ℕ) → (ℕ → List ℕ) → List (List ℕ × List ℕ)
files_from p [] bytes = []
files_from p (name ∷ names) bytes = (log_name name, bytes p) ∷ files_from (suc p) names bytes

-- a file for each process of the group
abbrev pub files_of : GroupStart → (ℕ → List ℕ) → List (List ℕ × List ℕ)
files_of group bytes = files_from 0 group.names bytes

-- the logs of all processes
abbrev pub logs_of_steps : GroupStart → List RunStep → List (List ℕ × List ℕ)
logs_of_steps group steps = files_of group (log_of group steps)

-- the bytes are a log of process p whose entries are those of its events in these steps, each is accepted where it comes,
-- and after each n of them the replay is in the recorded state. After the entries comes this much of one more
pub record IsLogOfRun (group : GroupStart) (steps : List RunStep) (p : ℕ) (bytes cut : List ℕ) : Type 0 where
  pub first : State
  pub begun : slice_get group.first p ≡ Some first
  pub left : Unread
  pub within : length bytes ≤ most_log
  pub head : head_at bytes ≡ Some (head_of_log group p, left)
  pub accepted : accepted first (entries_of_steps steps p) ≡ length (entries_of_steps steps p)
  pub states : (n : ℕ) (S : State) → slice_get (recorded_states group steps p) n ≡ Some S → replayed first (take n (entries_of_steps steps p)) ≡ S
  pub entries : entries_of left ≡ entries_of_steps steps p
  pub rest : rest_of_log left ≡ cut

-- the log of process p after some steps tells its events
abbrev pub TellsEvents : GroupStart → List RunStep → ℕ → Type 0
TellsEvents group steps p = IsLogOfRun group steps p (log_of group steps p) []

-- and so does the log with these bytes after it, which are left over
abbrev pub IsLogWithTail : GroupStart → List RunStep → ℕ → List ℕ → Type 0
IsLogWithTail group steps p cut = IsLogOfRun group steps p (log_of group steps p ++ cut) cut
