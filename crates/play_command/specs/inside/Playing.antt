-- How a group goes on under what is told of it, and what a play keeps.
use Rattle.std.specs.Prelude.{◌≡◌, ℕ, ◌+◌, ◌≤◌, ◌++◌, Bool, true, false, is_some, List, [], length, codes, Option, None, Ok}
use Rattle.lib_calls.specs.declared.entry.Entry.{Entry}
use Rattle.schedule_text.specs.Limits.{most_runs}
use Rattle.lamport_tag.specs.Limits.{most_processes}
use Rattle.schedule_text.specs.Schedule.{Schedule}
use Rattle.wasm_types.specs.Modules.{Module}
use Rattle.guest_process.specs.State.{State}
use Rattle.group_record.specs.Answer.{first_states, group_of}
use Rattle.group_record.specs.Live.{IsLiveAfter, LiveParts, live_count, live_states}
use Rattle.group_record.specs.Run.{GroupStart, RunProgress, RunStep, run}
use Rattle.group_text.specs.Texts.{named_event_text}
use Rattle.play_command.specs.Play.{step_lines}
use Rattle.play_command.specs.declared.told.Told.{Told}

-- ---- what is told

-- lines, if they are told
abbrev pub told_if : Bool → List ℕ → List ℕ
told_if true lines = lines
told_if false lines = []

-- after an event of the process with this name
abbrev pub told_event : Told → List ℕ → Entry → Told
told_event told name e = record told { text = told.text ++ told_if told.tells (named_event_text name e ++ codes "\n"); acted = told.acted + 1 }

-- ---- how a group goes on

-- a run in which a group stands whose processes have these names
pub record StandsInRun (names : List (List ℕ)) (live : LiveParts) : Type 0 where
  pub group : GroupStart
  pub steps : List RunStep
  pub stands : IsLiveAfter group steps live
  pub named : group.names ≡ names

-- such a group is under way: it stands in a run, and each process is there
pub record IsUnderWay (names : List (List ℕ)) (live : LiveParts) : Type 0 where
  pub somewhere : ∥ StandsInRun names live ∥₁
  pub count : live_count live ≡ length names
  pub whole : length (live_states live) ≡ length names

-- A group went on from one progress of its run to a later one, and this was told of it: the events of the steps that were
-- made, if they are told, and how many tries and items acted and were idle
pub record WentOn (group : GroupStart) (before after : RunProgress) (live : LiveParts) (old new : Told) : Type 0 where
  pub made : List RunStep
  pub steps : after.steps ≡ made ++ before.steps
  pub stands : IsLiveAfter group after.steps live
  pub tells : new.tells ≡ old.tells
  pub text : new.text ≡ old.text ++ told_if old.tells (step_lines group made)
  pub acted : new.acted ≡ old.acted + length made
  pub idle : new.idle + before.idle ≡ old.idle + after.idle

-- wherever the group stood, it went on so, and a log was full or not
abbrev pub GoesOnBy : List (List ℕ) → (GroupStart → RunProgress → RunProgress) → LiveParts → Told → LiveParts → Told → Bool → Type 0
GoesOnBy names next live told live_after told_after full =
    (group : GroupStart) (before : RunProgress) → group.names ≡ names → before.full ≡ None → IsLiveAfter group before.steps live
    → WentOn group before (next group before) live_after told told_after × (is_some (next group before).full ≡ full)

-- the same, by the item at which a log was full
abbrev pub StopsAtItem : List (List ℕ) → (GroupStart → RunProgress → RunProgress) → LiveParts → Told → LiveParts → Told → Option ℕ → Type 0
StopsAtItem names next live told live_after told_after full =
    (group : GroupStart) (before : RunProgress) → group.names ≡ names → before.full ≡ None → IsLiveAfter group before.steps live
    → WentOn group before (next group before) live_after told told_after × ((next group before).full ≡ full)

-- ---- a play

-- these modules begin, and the file's items find room
pub record HasBegun (schedule : Schedule) (modules : List Module) : Type 0 where
  pub first : List State
  pub begun : first_states schedule modules ≡ Ok first
  pub room : (run (group_of schedule first) schedule.items).full ≡ None

-- a play of this schedule and these modules
pub record IsPlaying (schedule : Schedule) (modules : List Module) (names : List (List ℕ)) (live : LiveParts) (tries : ℕ) : Type 0 where
  pub begun : ∥ HasBegun schedule modules ∥₁
  pub under_way : IsUnderWay names live
  pub count : length modules ≡ length schedule.processes
  pub some : 1 ≤ length names
  pub few_names : length names ≤ most_processes
  pub few : tries ≤ most_runs
