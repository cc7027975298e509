-- How the recording of a group begins.
use Rattle.std.specs.Prelude.{◌≡◌, ◌≢◌, ℕ, Bool, replicate, List, [], length, AllPairs, Option, Some, Result, Ok, Err, slice_get, string_bytes, ⊤}
use Rattle.std.specs.List.{slice_index_or}
use Rattle.fri_outside.specs.Outside.{Folder}
use Rattle.fri_outside.specs.Several.{with_files}
use Rattle.call_log.specs.Head.{head_bytes}
use Rattle.schedule_text.specs.Schedule.{Schedule}
use Rattle.guest_process.specs.State.{State}
use Rattle.group_world.specs.World.{new_world}
use Rattle.group_record.specs.declared.error.RecordError.{RecordError}
use Rattle.group_record.specs.declared.error.RecordError.TheVariants as errors
use Rattle.group_record.specs.declared.member.Member.{Member}
use Rattle.group_record.specs.declared.recorder.Recorder.{Recorder}
use Rattle.group_record.specs.Run.{GroupStart, head_of_log, name_of_process, no_progress_yet, processes_in_group}
use Rattle.group_record.specs.Logs.{files_of, log_name}
use Rattle.group_record.specs.Files.{IsStoppedRecording}
use Rattle.group_record.specs.inside.Members.{IsFreshMember}
use Rattle.group_record.specs.inside.Recorded.{FilesOf, KeepsUpWithRun, prints_kept_for}
use Rattle.group_record.specs.Answer.{group_of}

-- ---- the processes

-- each of the members has begun in the state at its place
pub record AreStarted (names : List (List ℕ)) (first : List State) (members : List Member) : Type 0 where
  pub count : length members ≡ length names
  pub states : length first ≡ length names
  pub each : (p : ℕ) (m : Member) → slice_get members p ≡ Some m
      → (state : State) × (slice_get first p ≡ Some state) × IsFreshMember state (slice_index_or names p []) p (length names) m

-- all processes began, or why not
abbrev pub BeginsAll : {T : Type 0} → (T → List Member) → List (List ℕ) → Result (List State) ℕ → Result T RecordError → Type 0
BeginsAll items names begun (Ok members) = (first : List State) × (begun ≡ Ok first) × AreStarted names first (items members)
BeginsAll items names begun (Err (errors.BadSegment p)) = begun ≡ Err p
BeginsAll items names begun (Err (errors.LogFull item)) = ⊥
BeginsAll items names begun (Err errors.WriteFault) = ⊥
BeginsAll items names begun (Err errors.NoMemory) = Unit {0}

-- nothing has happened around the members, and nothing is printed, which is kept where images are asked for
pub record IsNewRecorder (asked : Bool) (own : List Member) (recorder : Recorder) : Type 0 where
  pub members : recorder.members.items ≡ own
  pub world : recorder.world ≡ new_world (length own)
  pub prints : recorder.prints ≡ replicate (prints_kept_for asked (length own)) []
  pub acted : recorder.acted ≡ 0
  pub idle : recorder.idle ≡ 0

-- ---- the logs

-- the members have the names and the heads of the group's logs
pub record HaveHeads (group : GroupStart) (members : List Member) : Type 0 where
  pub count : length members ≡ processes_in_group group
  pub apart : AllPairs (λ name other. name ≢ other) group.names
  pub logs : (p : ℕ) (m : Member) → slice_get members p ≡ Some m → string_bytes m.log ≡ log_name (name_of_process group p)
  pub heads : (p : ℕ) (m : Member) → slice_get members p ≡ Some m → m.head.items ≡ head_bytes (head_of_log group p)

-- the files were to have these bytes, or why they don't
abbrev pub MakeAll : GroupStart → (ℕ → List ℕ) → Result ⊤ RecordError → Option Folder → Option Folder → Type 0
MakeAll group bytes (Ok _) before after = after ≡ with_files (files_of group bytes) before
MakeAll group bytes (Err (errors.BadSegment p)) before after = ⊥
MakeAll group bytes (Err (errors.LogFull item)) before after = ⊥
MakeAll group bytes (Err errors.WriteFault) before after = IsStoppedRecording group [] [] before after
MakeAll group bytes (Err errors.NoMemory) before after = IsStoppedRecording group [] [] before after

abbrev pub no_bytes : ℕ → List ℕ
no_bytes p = []

abbrev pub heads_of_logs : GroupStart → ℕ → List ℕ
heads_of_logs group p = head_bytes (head_of_log group p)

-- files with no bytes were to be made
abbrev pub CreatesLogs : List Member → Result ⊤ RecordError → Option Folder → Option Folder → Type 0
CreatesLogs members result before after = (group : GroupStart) → HaveHeads group members → MakeAll group no_bytes result before after

-- where they are there, the heads were to be written
abbrev pub WritesHeads : List Member → Result ⊤ RecordError → Option Folder → Option Folder → Type 0
WritesHeads members result old new =
    (group : GroupStart) (before : Option Folder) → HaveHeads group members → old ≡ with_files (files_of group no_bytes) before
    → MakeAll group (heads_of_logs group) result before new

-- both were to be done
abbrev pub BeginsLogs : List Member → Result ⊤ RecordError → Option Folder → Option Folder → Type 0
BeginsLogs members result before after = (group : GroupStart) → HaveHeads group members → MakeAll group (heads_of_logs group) result before after

-- ---- the whole beginning

-- the beginning of a group whose first states are these was stopped
abbrev pub StopsAtHead : Schedule → Result (List State) ℕ → Option Folder → Option Folder → Type 0
StopsAtHead schedule (Err p) before after = after ≡ before
StopsAtHead schedule (Ok first) before after = IsStoppedRecording (group_of schedule first) [] [] before after

-- the group has begun, or why it has not
abbrev pub GroupBegins : Schedule → Result (List State) ℕ → Result Recorder RecordError → Option Folder → Option Folder → Type 0
GroupBegins schedule begun (Ok recorder) before after = (first : List State) × (begun ≡ Ok first)
    × KeepsUpWithRun (group_of schedule first) no_progress_yet recorder × FilesOf (group_of schedule first) no_progress_yet before after
GroupBegins schedule begun (Err (errors.BadSegment p)) before after = (begun ≡ Err p) × (after ≡ before)
GroupBegins schedule begun (Err (errors.LogFull item)) before after = ⊥
GroupBegins schedule begun (Err errors.WriteFault) before after = StopsAtHead schedule begun before after
GroupBegins schedule begun (Err errors.NoMemory) before after = StopsAtHead schedule begun before after
