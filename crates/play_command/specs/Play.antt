-- A play: the group and the items so far, and what each line answers. All of it is said of the run of these items.
use Rattle.std.specs.Prelude.{ℕ, true, false, ◌-◌, is_some, nat_lt, List, [], ◌∷◌, ◌++◌, length, take, drop, map, codes, decimal, Option, Some, None, option_map, ℤ, if◌then◌else◌}
use Rattle.std.specs.List.{flat_map}
use Rattle.fri_text.specs.Hex.{hex_word}
use Rattle.lib_calls.specs.Traffic.{prints}
use Rattle.lossy_net.specs.Network.{Sent, nth_of}
use Rattle.schedule_text.specs.Limits.{most_runs}
use Rattle.schedule_text.specs.Schedule.{run_count}
use Rattle.schedule_text.specs.declared.item.Item.{Item}
use Rattle.schedule_text.specs.declared.item.Item.TheVariants as item
use Rattle.guest_process.specs.State.{State}
use Rattle.group_world.specs.History.{is_killed, sends}
use Rattle.group_world.specs.Laws.{sent_as}
use Rattle.group_record.specs.Answer.{summary_lines}
use Rattle.group_record.specs.Live.{states_after}
use Rattle.group_record.specs.Run.{Did, GroupStart, Had, RunProgress, RunStep, entries_of_steps, history_of_steps, name_of_process, process_after, processes_in_group, run}
use Rattle.record_command.specs.Record.{items_line, process_line}
use Rattle.watch_expr.specs.Reads.{no_variables}
use Rattle.watch_expr.specs.Value.{value}
use Rattle.watch_expr.specs.View.{Node, bytes_of_node}
use Rattle.group_state.specs.Nodes.{seen_node}
use Rattle.group_text.specs.Texts.{named_event_text, process_lines}
use Rattle.point_programs.specs.Running.{value_word}
use Rattle.conversation.specs.Talker.{Answered}
use Rattle.play_lines.specs.Lines.{Again, Datagram, Mem, PlayCommand, Print, Printed, Processes, Quit, Threads}
use Rattle.play_lines.specs.Meaning.{Does, PlayMeaning, Plays, Refuses, Silent, play_meaning}
use Rattle.play_lines.specs.Refusals.{play_refusal_line}
use Rattle.play_lines.specs.declared.refusal.PlayRefusal.{PlayRefusal}
use Rattle.play_lines.specs.declared.refusal.PlayRefusal.TheVariants as refusal

-- the group, the items of the file, and those of the lines that were accepted since the play began or began again
pub record PlayState : Type 0 where
  pub group : GroupStart
  pub own : List Item
  pub more : List Item

abbrev pub items_so_far : PlayState → List Item
items_so_far state = state.own ++ state.more

abbrev pub played_run : PlayState → RunProgress
played_run state = run state.group (items_so_far state)

-- with one item more
abbrev pub with_played : PlayState → Item → PlayState
with_played state i = record state { more = state.more ++ i ∷ [] }

-- with the items of the file alone
abbrev pub begun_again : PlayState → PlayState
begun_again state = record state { more = [] }

-- text, and the play as it was
abbrev pub tells_play : PlayState → List ℕ → Answered PlayState
tells_play state text = record { text = text; state = state; quits = false }

abbrev pub refuses_play : PlayState → PlayRefusal → Answered PlayState
refuses_play state why = tells_play state (play_refusal_line why)

-- ---- what an item did

-- the steps that a run has after an item and had not before
abbrev pub steps_since : RunProgress → RunProgress → List RunStep
steps_since before after = take (length after.steps - length before.steps) after.steps

-- the event of a step, on a line
abbrev pub step_line : GroupStart → RunStep → List ℕ
step_line group (Had p e) = named_event_text (name_of_process group p) e.entry ++ codes "\n"
step_line group (Did act) = []

-- the events of some steps, the newest of which comes first, in their order
abbrev pub step_lines : GroupStart → List RunStep → List ℕ
step_lines group [] = []
step_lines group (step ∷ early) = step_lines group early ++ step_line group step

abbrev pub counts_line : ℕ → ℕ → List ℕ
counts_line acted idle = decimal acted ++ (codes " acted, " ++ (decimal idle ++ codes " idle\n"))

-- that the log of the process with this name has no room
abbrev pub full_line : List ℕ → List ℕ
full_line name = codes "full " ++ (name ++ codes "\n")

-- the process that an item is about
abbrev pub process_of_item : Item → ℕ
process_of_item (item.Run p thread times) = p
process_of_item (item.Deliver p n) = p
process_of_item (item.Inject p bytes) = p
process_of_item (item.Clock p time) = p
process_of_item (item.Random p bytes) = p
process_of_item (item.Signal p signal) = p
process_of_item (item.Kill p) = p

-- how many tries and items acted and were idle, unless a log was full
abbrev pub item_ending : GroupStart → Item → RunProgress → RunProgress → List ℕ
item_ending group i before after =
    if is_some after.full then full_line (name_of_process group (process_of_item i))
    else counts_line (length after.steps - length before.steps) (after.idle - before.idle)

-- what is told of an item between these two
abbrev pub played_text : GroupStart → Item → RunProgress → RunProgress → List ℕ
played_text group i before after = step_lines group (steps_since before after) ++ item_ending group i before after

-- an item is done, unless there would be too many tries, or a log was full before
abbrev pub plays_item : PlayState → Item → Answered PlayState
plays_item state i =
    if nat_lt most_runs (run_count (items_so_far (with_played state i))) then refuses_play state refusal.TooManyTries
    else if is_some (played_run state).full then refuses_play state refusal.Full
    else record { text = played_text state.group i (played_run state) (played_run (with_played state i)); state = with_played state i; quits = false }

-- ---- the group as it is, after some steps

-- each process, as `record` says of it
abbrev pub processes_text : GroupStart → List RunStep → List ℕ
processes_text group steps = flat_map process_line (summary_lines group steps 0 group.names)

-- how a process in this state stands, and its threads, as the debugger says of it
abbrev pub lines_of_state : List ℕ → Option State → List ℕ
lines_of_state name None = []
lines_of_state name (Some S) = process_lines name S

-- the same, unless the process was killed
abbrev pub threads_after : GroupStart → List RunStep → ℕ → List ℕ
threads_after group steps p =
    if is_killed (history_of_steps steps) p then name_of_process group p ++ codes " killed\n"
    else lines_of_state (name_of_process group p) (process_after group steps p)

-- for whom a datagram is, and all its bytes
abbrev pub datagram_line : Option Sent → List ℕ
datagram_line None = codes "none\n"
datagram_line (Some sent) = decimal sent.to ++ (codes " " ++ (hex_word sent.bytes ++ codes "\n"))

-- the nth datagram that process p sent into the group, from 1
abbrev pub nth_datagram : GroupStart → List RunStep → ℕ → ℕ → Option Sent
nth_datagram group steps p n = option_map (sent_as p) (nth_of (sends (processes_in_group group) (history_of_steps steps) p) n)

-- what process p printed, from this byte on
abbrev pub printed_text : List RunStep → ℕ → ℕ → List ℕ
printed_text steps p from = hex_word (drop from (prints (entries_of_steps steps p))) ++ codes "\n"

-- the processes as expressions see them
abbrev pub nodes_after : GroupStart → List RunStep → List Node
nodes_after group steps = map seen_node (states_after group steps)

-- a value, and bytes if there are such, as the debugger shows them
abbrev pub value_line : Option ℤ → List ℕ
value_line v = value_word v ++ codes "\n"

abbrev pub bytes_line : Option (List ℕ) → List ℕ
bytes_line None = codes "undef\n"
bytes_line (Some bytes) = hex_word bytes ++ codes "\n"

-- what is said of a node, and nothing where no process has that number
abbrev pub said_of_node : GroupStart → Option ℕ → (ℕ → List ℕ) → List ℕ
said_of_node group None text = []
said_of_node group (Some p) text = if nat_lt p (processes_in_group group) then text p else []

-- what is shown by a command that changes nothing
abbrev pub shown_text : GroupStart → List RunStep → PlayCommand → List ℕ
shown_text group steps Processes = processes_text group steps
shown_text group steps (Threads node) = said_of_node group node (threads_after group steps)
shown_text group steps (Datagram p n) = said_of_node group (Some p) (λ p. datagram_line (nth_datagram group steps p n))
shown_text group steps (Printed node from) = said_of_node group node (λ p. printed_text steps p from)
shown_text group steps (Print x) = value_line (value (nodes_after group steps) no_variables x)
shown_text group steps (Mem node addr len) = said_of_node group node (λ p. bytes_line (bytes_of_node (nodes_after group steps) p addr len))
shown_text group steps Again = []
shown_text group steps Quit = []

-- ---- the answers

-- how many tries and items of the file acted and were idle
abbrev pub opening_line : PlayState → List ℕ
opening_line state = items_line (length (played_run (begun_again state)).steps) (played_run (begun_again state)).idle

abbrev pub command_in_play : PlayState → PlayCommand → Answered PlayState
command_in_play state Again = record { text = opening_line state; state = begun_again state; quits = false }
command_in_play state Quit = record { text = []; state = state; quits = true }
command_in_play state Processes = tells_play state (shown_text state.group (played_run state).steps Processes)
command_in_play state (Threads node) = tells_play state (shown_text state.group (played_run state).steps (Threads node))
command_in_play state (Datagram p n) = tells_play state (shown_text state.group (played_run state).steps (Datagram p n))
command_in_play state (Printed node from) = tells_play state (shown_text state.group (played_run state).steps (Printed node from))
command_in_play state (Print x) = tells_play state (shown_text state.group (played_run state).steps (Print x))
command_in_play state (Mem node addr len) = tells_play state (shown_text state.group (played_run state).steps (Mem node addr len))

abbrev pub answer_in_play : PlayState → PlayMeaning → Answered PlayState
answer_in_play state Silent = tells_play state []
answer_in_play state (Refuses why) = refuses_play state why
answer_in_play state (Plays i) = plays_item state i
answer_in_play state (Does command) = command_in_play state command

-- what a line answers
abbrev pub play_answer : PlayState → List ℕ → Answered PlayState
play_answer state line = answer_in_play state (play_meaning state.group.names line)
