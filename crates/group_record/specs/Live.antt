-- A group that goes on try by try, and how it stands after some steps.
use Rattle.std.specs.Prelude.{◌≡◌, ◌≢◌, ℕ, suc, ◌≤◌, Bool, true, false, All, AllPairs, List, [], ◌∷◌, ◌++◌, length, Option, Some, None, option_map, Result, Ok, Err, slice_get}
use Rattle.std.specs.List.{flat_map}
use Rattle.std.specs.Option.{option_to_list}
use Rattle.lib_calls.specs.Entry.{IsShaped, entry_of}
use Rattle.lib_calls.specs.Traffic.{prints}
use Rattle.lossy_net.specs.declared.net.SentBytes.{SentBytes}
use Rattle.lossy_net.specs.Network.{kept_sent, nth_of}
use Rattle.call_log.specs.Entry.{clock_after}
use Rattle.call_log.specs.Limits.{most_log}
use Rattle.schedule_text.specs.Schedule.{Schedule}
use Rattle.schedule_text.specs.declared.item.Item.{Item}
use Rattle.schedule_text.specs.declared.item.Item.TheVariants as item
use Rattle.guest_process.specs.Live.{Event}
use Rattle.guest_process.specs.State.{State}
use Rattle.group_world.specs.History.{Act, is_killed, sends}
use Rattle.group_world.specs.Laws.{IsPossibleHistory, sent_as}
use Rattle.group_world.specs.World.{World, world_after}
use Rattle.group_record.specs.declared.error.RecordError.{RecordError}
use Rattle.group_record.specs.declared.error.RecordError.TheVariants as errors
use Rattle.group_record.specs.declared.tried.Tried.{Tried}
use Rattle.group_record.specs.declared.tried.Tried.TheVariants as tried
use Rattle.group_record.specs.Run.{GroupStart, RunProgress, RunStep, Had, Did, done_by_item, entries_of_steps, event_of_try, history_of_steps, idled_item, log_has_room, log_of, name_of_process, process_after, processes_in_group, with_step}
use Rattle.group_record.specs.Logs.{log_name}
use Rattle.group_record.specs.Answer.{group_of, summary_line}

-- ---- what such a group is

-- a process: the file that its log would have, how many bytes it would have, the clock of its last entry, or 0, and the
-- process's state
pub record LiveMember : Type 0 where
  pub log : List ℕ
  pub size : ℕ
  pub last : ℕ
  pub process : Option State

-- the processes in their order, the world around them, and what each printed
pub record LiveParts : Type 0 where
  pub members : List LiveMember
  pub world : World
  pub prints : List (List ℕ)

-- how many processes it has
abbrev pub live_count : LiveParts → ℕ
live_count live = length live.members

-- their states
abbrev pub live_states : LiveParts → List State
live_states live = flat_map (λ (m : LiveMember). option_to_list m.process) live.members

-- ---- where it stands

-- the states of the processes from p on, which have these names, after some steps
abbrev pub named_states : GroupStart → List RunStep → ℕ → List (List ℕ) → List State
named_states group steps p [] = []
named_states group steps p (name ∷ names) = option_to_list (process_after group steps p) ++ named_states group steps (suc p) names

-- the states of all processes
abbrev pub states_after : GroupStart → List RunStep → List State
states_after group steps = named_states group steps 0 group.names

-- a process with its log stands as process p of the group does after these steps
pub record IsMemberAfter (group : GroupStart) (steps : List RunStep) (p : ℕ) (m : LiveMember) : Type 0 where
  pub state : State
  pub process : m.process ≡ Some state
  pub after : process_after group steps p ≡ Some state
  pub events : state.events ≡ length (entries_of_steps steps p)
  pub count : state.count ≡ processes_in_group group
  pub log : m.log ≡ log_name (name_of_process group p)
  pub size : m.size ≡ length (log_of group steps p)
  pub room : m.size ≤ most_log
  pub last : m.last ≡ clock_after 0 (entries_of_steps steps p)
  pub logged : All IsShaped (entries_of_steps steps p)

-- a group stands where a run with these steps, the newest first, stands
pub record IsLiveAfter (group : GroupStart) (steps : List RunStep) (live : LiveParts) : Type 0 where
  pub apart : AllPairs (λ name other. name ≢ other) group.names
  pub count : length live.members ≡ processes_in_group group
  pub members : (p : ℕ) (m : LiveMember) → slice_get live.members p ≡ Some m → IsMemberAfter group steps p m
  pub can_be : IsPossibleHistory (processes_in_group group) (history_of_steps steps)
  pub world : live.world ≡ world_after (processes_in_group group) (history_of_steps steps)
  pub kept : length live.prints ≡ processes_in_group group
  pub prints : (p : ℕ) (bytes : List ℕ) → slice_get live.prints p ≡ Some bytes → bytes ≡ prints (entries_of_steps steps p)

-- ---- what its calls give

-- the group of a schedule has begun, or why it has not. Memory may run out at any time
abbrev pub BeginsLive : Schedule → Result (List State) ℕ → Result LiveParts RecordError → Type 0
BeginsLive schedule begun (Ok live) = (first : List State) × (begun ≡ Ok first) × IsLiveAfter (group_of schedule first) [] live
BeginsLive schedule begun (Err (errors.BadSegment p)) = begun ≡ Err p
BeginsLive schedule begun (Err (errors.LogFull item)) = ⊥
BeginsLive schedule begun (Err errors.WriteFault) = ⊥
BeginsLive schedule begun (Err errors.NoMemory) = Unit {0}

-- what a try of a thread of process p gave after these steps: nothing, the entry of its event, or that the log would have
-- no room for it
abbrev pub TriesAfter : GroupStart → List RunStep → ℕ → ℕ → Tried → LiveParts → Type 0
TriesAfter group steps p thread tried.Idle new = (event_of_try group steps p thread ≡ None) × IsLiveAfter group steps new
TriesAfter group steps p thread (tried.Had entry) new =
    (e : Event) × (event_of_try group steps p thread ≡ Some e) × (log_has_room group steps p e ≡ true) × (entry_of entry ≡ e.entry) × IsLiveAfter group (Had p e ∷ steps) new
TriesAfter group steps p thread tried.Full new =
    (e : Event) × (event_of_try group steps p thread ≡ Some e) × (log_has_room group steps p e ≡ false) × IsLiveAfter group steps new

-- so wherever the group stood
abbrev pub LiveTries : LiveParts → ℕ → ℕ → Tried → LiveParts → Type 0
LiveTries old p thread tried new = (group : GroupStart) (steps : List RunStep) → IsLiveAfter group steps old → TriesAfter group steps p thread tried new

-- an item that is not `run`
abbrev pub IsNoRun : Item → Type 0
IsNoRun (item.Run p thread times) = ⊥
IsNoRun _ = Unit {0}

-- after these steps the item does this, whatever number it has
abbrev pub DoesAfter : GroupStart → List RunStep → Item → (RunProgress → RunProgress) → Type 0
DoesAfter group steps i next = (number : ℕ) (done : RunProgress) → done.steps ≡ steps → done_by_item group number i done ≡ next done

-- whether an item acted after these steps, and what it did
abbrev pub ActsAfter : GroupStart → List RunStep → Item → Bool → LiveParts → Type 0
ActsAfter group steps i true new = (act : Act) × DoesAfter group steps i (with_step (Did act)) × IsLiveAfter group (Did act ∷ steps) new
ActsAfter group steps i false new = DoesAfter group steps i idled_item × IsLiveAfter group steps new

-- so wherever the group stood
abbrev pub LiveActs : LiveParts → Item → Bool → LiveParts → Type 0
LiveActs old i acted new = (group : GroupStart) (steps : List RunStep) → IsLiveAfter group steps old → ActsAfter group steps i acted new

-- whether process p was killed
abbrev pub TellsKilled : LiveParts → ℕ → Bool → Type 0
TellsKilled live p killed = (group : GroupStart) (steps : List RunStep) → IsLiveAfter group steps live → killed ≡ is_killed (history_of_steps steps) p

-- the nth datagram that process p sent into the group, from 1: for which process, and all its bytes
abbrev pub TellsSent : LiveParts → ℕ → ℕ → Option SentBytes → Type 0
TellsSent live p n sent = (group : GroupStart) (steps : List RunStep) → IsLiveAfter group steps live
    → option_map kept_sent sent ≡ option_map (sent_as p) (nth_of (sends (processes_in_group group) (history_of_steps steps) p) n)

-- all that process p printed
abbrev pub TellsPrinted : LiveParts → ℕ → List ℕ → Type 0
TellsPrinted live p bytes = (group : GroupStart) (steps : List RunStep) → IsLiveAfter group steps live → bytes ≡ prints (entries_of_steps steps p)

-- ---- laws

-- a group that stands so has as many processes as the run's, in the states of the run
abbrev pub LiveStates : Type 0
LiveStates = (group : GroupStart) (steps : List RunStep) (live : LiveParts) → IsLiveAfter group steps live
    → (live_count live ≡ processes_in_group group) × (live_states live ≡ states_after group steps)

-- what is said of a process after some steps is told by its state, and by whether it was killed
abbrev pub LiveSummary : Type 0
LiveSummary = (group : GroupStart) (steps : List RunStep) (live : LiveParts) → IsLiveAfter group steps live
    → (p : ℕ) (S : State) → slice_get (live_states live) p ≡ Some S → (name : List ℕ)
    → summary_line group steps p name ≡ record { name = name; events = S.events; end = S.end; killed = is_killed (history_of_steps steps) p }
