-- The modules and logs of a group, as they are read, and the replays of the logs.
use Rattle.std.specs.Prelude.{◌≡◌, ℕ, List, [], ◌∷◌, ◌++◌, ◌==◌, Bool, false, not, nat_lt, bytes_eq, Option, Some, None, Result, Ok, if◌then◌else◌}
use Rattle.std.specs.List.{flat_map, list_any}
use Rattle.fri_outside.specs.Outside.{Folder, WhenTold}
use Rattle.wasm_types.specs.Modules.{Module}
use Rattle.call_log.specs.Head.{Head}
use Rattle.call_log.specs.Log.{Unread}
use Rattle.proc_replay.specs.Replaying.{Replaying}
use Rattle.command_run.specs.declared.refusal.Reason.{Reason}
use Rattle.command_run.specs.declared.refusal.Reason.TheVariants as reason
use Rattle.command_run.specs.Inputs.{first_state_of, module_in}
use Rattle.command_run.specs.Logs.{log_in}
use Rattle.command_run.specs.Asked.{unless_named}
use Rattle.command_run.specs.declared.refusal.StopCause.{StopCause}
use Rattle.command_run.specs.Call.{StopsAsCause}
use Rattle.command_run.specs.Outcome.{CommandStop, and_then, unless_refused}

-- the files of a module and of a log of its process
pub record Pair : Type 0 where
  pub module_name : List ℕ
  pub log_name : List ℕ

-- the names of the files of these pairs
abbrev pub names_of_pairs : List Pair → List (List ℕ)
names_of_pairs pairs = flat_map (λ pair. pair.module_name ∷ pair.log_name ∷ []) pairs

-- a pair that was read: the name of the module's file, the module, the log's head, and what is after it
pub record Loaded : Type 0 where
  pub module_name : List ℕ
  pub «module» : Module
  pub head : Head
  pub left : Unread

-- ---- a log against the pairs before it

-- its group has another number of processes than the first pair's
abbrev pub is_other_group : List Loaded → ℕ → Bool
is_other_group [] count = false
is_other_group (first ∷ rest) count = not (first.head.count == count)

abbrev pub has_process : List Loaded → ℕ → Bool
has_process earlier process = list_any (λ l. l.head.process == process) earlier

abbrev pub has_name : List Loaded → List ℕ → Bool
has_name earlier name = list_any (λ l. bytes_eq l.head.name name) earlier

-- why it does not go with them, by the first test that it fails
abbrev pub clash_of_logs : List Loaded → Head → Option Reason
clash_of_logs earlier head =
    if is_other_group earlier head.count then Some reason.OtherGroup
    else if has_process earlier head.process then Some reason.SameProcess
    else if has_name earlier head.name then Some reason.SameName
    else None

-- ---- the files, pair after pair

-- the module's, then the log's, then the log against the pairs before it
abbrev pub loaded_pair : Folder → List Loaded → Pair → Result Loaded CommandStop
loaded_pair folder earlier pair =
    and_then (module_in folder pair.module_name) (λ m. and_then (log_in folder pair.log_name) (λ log.
    unless_refused pair.log_name (record { module_name = pair.module_name; «module» = m; head = log.0; left = log.1 }) (clash_of_logs earlier log.0)))

abbrev pub loaded_pairs : Folder → List Loaded → List Pair → Result (List Loaded) CommandStop
loaded_pairs folder earlier [] = Ok earlier
loaded_pairs folder earlier (pair ∷ pairs) = and_then (loaded_pair folder earlier pair) (λ l. loaded_pairs folder (earlier ++ l ∷ []) pairs)

-- ---- the replays

-- the replay of a log from the first state of its process
abbrev pub replay_of_log : Loaded → Result Replaying CommandStop
replay_of_log l =
    and_then (first_state_of l.module_name l.«module» l.head.process l.head.count) (λ begun. Ok (record { head = l.head; state = begun; left = l.left }))

-- the replays of all logs, unless a process does not begin
abbrev pub replays_of : List Loaded → Result (List Replaying) CommandStop
replays_of [] = Ok []
replays_of (l ∷ ls) = and_then (replay_of_log l) (λ r. and_then (replays_of ls) (λ rs. Ok (r ∷ rs)))

-- put in its place by the number of its process
abbrev pub insert_replay : Replaying → List Replaying → List Replaying
insert_replay r [] = r ∷ []
insert_replay r (s ∷ rs) = if nat_lt s.head.process r.head.process then s ∷ insert_replay r rs else r ∷ s ∷ rs

-- each in its place among these
abbrev pub sort_replays : List Replaying → List Replaying → List Replaying
sort_replays sorted [] = sorted
sort_replays sorted (r ∷ rs) = sort_replays (insert_replay r sorted) rs

-- the replays of the logs of some pairs, in order of their processes' numbers. No process begins before all
-- files are read
abbrev pub replays_of_pairs : Folder → List Pair → Result (List Replaying) CommandStop
replays_of_pairs folder pairs = and_then (loaded_pairs folder [] pairs) (λ ls. and_then (replays_of ls) (λ rs. Ok (sort_replays [] rs)))

-- they are these, as far as the folder tells its files
abbrev pub OpensReplays : List Pair → Option Folder → List Replaying → Type 0
OpensReplays pairs told start = WhenTold told (λ folder. replays_of_pairs folder pairs ≡ Ok start)

-- none could be, for this refusal
abbrev pub RefusesPairs : List Pair → Option Folder → StopCause → Type 0
RefusesPairs pairs told e = WhenTold told (λ folder. StopsAsCause (replays_of_pairs folder pairs) e)

-- the files of a pair that are read, where those modules were read before: the module's unless it is one of them, and the log's
abbrev pub files_of_pair : List (List ℕ) → Pair → List (List ℕ)
files_of_pair earlier pair = unless_named earlier pair.module_name ++ pair.log_name ∷ []

abbrev pub files_of_pairs : List (List ℕ) → List Pair → List (List ℕ)
files_of_pairs earlier [] = []
files_of_pairs earlier (pair ∷ pairs) = files_of_pair earlier pair ++ files_of_pairs (earlier ++ unless_named earlier pair.module_name) pairs

-- the files that a command reads of these pairs, pair after pair: each module once, and each log
abbrev pub pair_inputs : List Pair → List (List ℕ)
pair_inputs pairs = files_of_pairs [] pairs
