-- What a recorder has done so far, and what it says of what it does next.
use Rattle.std.specs.Prelude.{◌≡◌, ◌≢◌, ℕ, ◌+◌, ◌++◌, ◌<◌, ◌≤◌, ◌^◌, [], ⊤, Bool, true, false, ◌&&◌, not, is_some, option_and_then, if◌then◌else◌, IsTrue, AllPairs, List, drop, length, map, Option, Some, None, Result, Ok, Err, slice_get, slice_set}
use Rattle.std.specs.List.{slice_index_or}
use Rattle.fri_outside.specs.Outside.{Folder}
use Rattle.fri_outside.specs.Several.{AreFirstMade, with_files}
use Rattle.lib_calls.specs.declared.entry.Entry.{Entry}
use Rattle.lib_calls.specs.Traffic.{drawn, is_taken, printed, prints}
use Rattle.lib_calls.specs.declared.entry.EntryView.{EntryView}
use Rattle.lib_calls.specs.Effects.{outgoing_of}
use Rattle.lib_calls.specs.Entry.{IsShaped, entry_of}
use Rattle.call_log.specs.declared.version.Version.TheVariants.{Two}
use Rattle.call_log.specs.Entry.{encoding}
use Rattle.call_log.specs.Spelling.{with_outgoing}
use Rattle.schedule_text.specs.declared.process.ProcessLine.{ProcessLine}
use Rattle.guest_process.specs.Live.{Env, Event, live}
use Rattle.guest_process.specs.OneEvent.{AgreesWithEvent as IsTold}
use Rattle.guest_process.specs.State.{State}
use Rattle.group_world.specs.Laws.{IsPossibleHistory}
use Rattle.group_world.specs.World.{World, after_event, surroundings_of, with_act, world_after}
use Rattle.group_world.specs.History.{Deliver, Inject, Clock, Random, Signal, Kill}
use Rattle.lossy_net.specs.Network.{nth_of, sent_by}
use Rattle.schedule_text.specs.declared.item.Item.{Item}
use Rattle.schedule_text.specs.declared.item.Item.TheVariants as item
use Rattle.std.specs.Int.{w64, cast_unsigned}
use Rattle.group_record.specs.declared.error.RecordError.{RecordError}
use Rattle.group_record.specs.declared.error.RecordError.TheVariants as errors
use Rattle.group_record.specs.declared.member.Member.{Member}
use Rattle.group_record.specs.declared.recorder.Recorder.{Recorder}
use Rattle.group_record.specs.declared.summary.Summary.{Summary}
use Rattle.group_record.specs.declared.summary.SummaryLine.{SummaryLine}
use Rattle.group_record.specs.Run.{GroupStart, RunProgress, RunStep, entries_of_steps, history_of_steps, is_running_process, processes_in_group}
use Rattle.group_record.specs.Logs.{logs_of_steps}
use Rattle.group_record.specs.Files.{FolderChange, IsStoppedRecording, change}
use Rattle.group_record.specs.Images.{images_of}
use Rattle.group_record.specs.Live.{IsMemberAfter}
use Rattle.group_record.specs.inside.Members.{live_member, member_after}
use Rattle.group_record.specs.Answer.{IsSummary}

-- ---- the counts

-- how many tries and items a recorder has counted
abbrev pub total_counted_tries : Recorder → ℕ
total_counted_tries r = r.acted + r.idle

-- how many it counts of an item: each try of a run, and one of any other
abbrev pub counted_tries_of : Item → ℕ
counted_tries_of (item.Run p thread times) = times
counted_tries_of _ = 1

-- its counts have room for so many more
abbrev pub HasCountsFor : ℕ → Recorder → Type 0
HasCountsFor n r = total_counted_tries r + n < 2 ^ 64

-- ---- one event

-- the entry is that of the event of this try, which it tells, and the event takes what is there
pub record IsLiveEntry (S : State) (thread : ℕ) (env : Env) (entry : Entry) : Type 0 where
  pub event : Event
  pub lives : live S thread env ≡ Some event
  pub same : entry ≡ event.entry
  pub told : IsTold S event
  pub logged : IsShaped entry
  pub datagram : IsTrue (is_taken entry) → 1 ≤ length env.mailbox
  pub bytes : drawn entry ≤ length env.pool
  pub count : event.state.count ≡ S.count
  pub events : event.state.events ≡ S.events + 1

-- an entry that was made is that of the event, and none was made where there is no event
abbrev pub IsEntryOf : State → ℕ → Env → Option Entry → Type 0
IsEntryOf S thread env None = live S thread env ≡ None
IsEntryOf S thread env (Some entry) = IsLiveEntry S thread env entry

-- an event of a process with the bytes that it sends out of the memory
abbrev pub event_entry : State → EntryView → Entry
event_entry S event = with_outgoing (entry_of event) (outgoing_of event.call S.store.memory)

-- the bytes are those of an entry after one with the clock `last`, and what it sends out begins there
pub record IsSpelledEvent (last : ℕ) (e : Entry) (start : ℕ) (bytes : List ℕ) : Type 0 where
  pub spelled : bytes ≡ encoding Two last e
  pub inside : start ≤ length bytes
  pub sent : drop start bytes ≡ e.outgoing

-- what is kept of the prints, where process p printed this more
abbrev pub with_print : List (List ℕ) → ℕ → List ℕ → List (List ℕ)
with_print kept p piece = slice_set kept p (slice_index_or kept p [] ++ piece)

-- process p made the event of an entry
pub record IsLoggedEvent (old : Recorder) (p : ℕ) (m : Member) (e : Entry) (new : Recorder) : Type 0 where
  pub members : new.members.items ≡ slice_set old.members.items p (member_after m e)
  pub world : new.world ≡ after_event old.world p e
  pub prints : new.prints ≡ with_print old.prints p (printed e)
  pub acted : new.acted ≡ old.acted + 1
  pub idle : new.idle ≡ old.idle

-- ---- one item

-- process p runs and was not killed
abbrev pub is_not_killed : List Member → World → ℕ → Bool
is_not_killed members w p = is_running_process (option_and_then (λ m. m.process) (slice_get members p)) && not (surroundings_of w p).killed

-- whether an item that is not `run` acts
abbrev pub item_acts : List Member → World → Item → Bool
item_acts members w (item.Run p thread times) = false
item_acts members w (item.Deliver p n) = is_some (nth_of (sent_by w.net p) n)
item_acts members w (item.Inject p bytes) = true
item_acts members w (item.Clock p value) = true
item_acts members w (item.Random p bytes) = true
item_acts members w (item.Signal p s) = true
item_acts members w (item.Kill p) = is_not_killed members w p

-- the world after it
abbrev pub after_act : List Member → World → Item → World
after_act members w (item.Run p thread times) = w
after_act members w (item.Deliver p n) = with_act w (Deliver p n)
after_act members w (item.Inject p bytes) = with_act w (Inject p bytes)
after_act members w (item.Clock p value) = with_act w (Clock p (cast_unsigned w64 value))
after_act members w (item.Random p bytes) = with_act w (Random p bytes)
after_act members w (item.Signal p s) = with_act w (Signal p s)
after_act members w (item.Kill p) = if is_not_killed members w p then with_act w (Kill p) else w

-- a recorder after an item that acted, or was idle, with this world
abbrev pub recorder_acted_on : Bool → World → Recorder → Recorder
recorder_acted_on true w r = record r { world = w; acted = r.acted + 1 }
recorder_acted_on false w r = record r { world = w; idle = r.idle + 1 }

-- ---- how far a recorder has come

-- a member is process p of the group after these steps
abbrev pub IsMember : GroupStart → List RunStep → ℕ → Member → Type 0
IsMember group steps p m = IsMemberAfter group steps p (live_member m)

-- a recorder has come as far as this. Where it keeps what a process prints, it has all of that
pub record KeepsUpWithRun (group : GroupStart) (done : RunProgress) (recorder : Recorder) : Type 0 where
  pub room : done.full ≡ None
  pub apart : AllPairs (λ name other. name ≢ other) group.names
  pub count : length recorder.members.items ≡ processes_in_group group
  pub members : (p : ℕ) (m : Member) → slice_get recorder.members.items p ≡ Some m → IsMember group done.steps p m
  pub can_be : IsPossibleHistory (processes_in_group group) (history_of_steps done.steps)
  pub world : recorder.world ≡ world_after (processes_in_group group) (history_of_steps done.steps)
  pub prints : (p : ℕ) (bytes : List ℕ) → slice_get recorder.prints p ≡ Some bytes → bytes ≡ prints (entries_of_steps done.steps p)
  pub acted : recorder.acted ≡ length done.steps
  pub idle : recorder.idle ≡ done.idle

-- the files are those of these steps
abbrev pub FilesOf : GroupStart → RunProgress → Option Folder → Option Folder → Type 0
FilesOf group done before after = after ≡ with_files (logs_of_steps group done.steps) before

-- a recorder has come as far as some run, and so have the files
pub record RecordingUnderWay (recorder : Recorder) (told : Option Folder) : Type 0 where
  pub group : GroupStart
  pub done : RunProgress
  pub before : Option Folder
  pub keeps : KeepsUpWithRun group done recorder
  pub files : FilesOf group done before told

-- a recorder that was to come as far as this has done so, or why not
abbrev pub RecorderReaches : GroupStart → RunProgress → Result ⊤ RecordError → Recorder → FolderChange → Type 0
RecorderReaches group next (Ok _) recorder folder = KeepsUpWithRun group next recorder × FilesOf group next folder.before folder.after
RecorderReaches group next (Err (errors.BadSegment p)) recorder folder = ⊥
RecorderReaches group next (Err (errors.LogFull item)) recorder folder = (next.full ≡ Some item) × FilesOf group next folder.before folder.after
RecorderReaches group next (Err errors.WriteFault) recorder folder = IsStoppedRecording group next.steps [] folder.before folder.after
RecorderReaches group next (Err errors.NoMemory) recorder folder = IsStoppedRecording group next.steps [] folder.before folder.after

-- wherever the recorder stood, it is to come as far as what comes next there
abbrev pub AdvancesRecorder : (GroupStart → RunProgress → RunProgress) → Recorder → Result ⊤ RecordError → Recorder → FolderChange → Type 0
AdvancesRecorder next old result new folder =
    (group : GroupStart) (done : RunProgress) (first : Option Folder) → KeepsUpWithRun group done old → FilesOf group done first folder.before
    → RecorderReaches group (next group done) result new (change first folder.after)

-- for how many of so many processes it keeps what they print: for all where images are asked for, else for none
abbrev pub prints_kept_for : Bool → ℕ → ℕ
prints_kept_for asked count = if asked then count else 0

-- ---- the images

-- files were to be made, or why they were not
abbrev pub MakesFiles : List (List ℕ × List ℕ) → Result ⊤ RecordError → Option Folder → Option Folder → Type 0
MakesFiles files (Ok _) before after = after ≡ with_files files before
MakesFiles files (Err (errors.BadSegment p)) before after = ⊥
MakesFiles files (Err (errors.LogFull item)) before after = ⊥
MakesFiles files (Err errors.WriteFault) before after = AreFirstMade files before after
MakesFiles files (Err errors.NoMemory) before after = AreFirstMade files before after

-- the images of the group up to where the recorder is were to be made, if they were asked for
abbrev pub MakesImages : Bool → List ProcessLine → Recorder → Result ⊤ RecordError → FolderChange → Type 0
MakesImages asked lines recorder result folder =
    (group : GroupStart) (done : RunProgress) → KeepsUpWithRun group done recorder → group.names ≡ map (λ line. line.name) lines
    → MakesFiles (images_of asked group done) result folder.before folder.after

-- ---- what is said of it

-- the line of a process in this state
abbrev pub summary_line_of : List ℕ → Bool → State → SummaryLine
summary_line_of name killed S = record { name = name; events = S.events; end = S.end; killed = killed }

-- it is what is to be said of the run up to where the recorder is
abbrev pub IsSummaryOfRun : List ProcessLine → Recorder → Summary → Type 0
IsSummaryOfRun lines recorder summary =
    (group : GroupStart) (done : RunProgress) → KeepsUpWithRun group done recorder → group.names ≡ map (λ line. line.name) lines → IsSummary group done summary
