-- How events, positions and threads are shown.
use Rattle.std.specs.Prelude.{ℕ, suc, ◌-◌, ◌%◌, ◌^◌, ◌==◌, nat_le, Bool, true, false, List, [], ◌∷◌, ◌++◌, length, take, drop, decimal, codes, Option, Some, None, if◌then◌else◌, slice_index_or}
use Rattle.std.specs.Fmt.{signed_decimal}
use Rattle.std.specs.Int.{w32, w64, cast_signed}
use Rattle.std.specs.List.{flat_map}
use Rattle.call_table.specs.Table.{row}
use Rattle.call_table.specs.declared.signature.Signature.{Signature}
use Rattle.coop_threads.specs.declared.slot.Slot.{Slot}
use Rattle.coop_threads.specs.Crew.{value_of}
use Rattle.lib_calls.specs.declared.entry.Call.{Call}
use Rattle.lib_calls.specs.declared.entry.Entry.{Entry}
use Rattle.guest_process.specs.declared.waiting.Waiting.{Waiting}
use Rattle.guest_process.specs.State.{State, is_running}
use Rattle.group_order.specs.Order.{NodeEvent}
use Rattle.proc_replay.specs.Replaying.{Replaying}
use Rattle.group_state.specs.Moves.{last_event_of}
use Rattle.group_state.specs.Place.{GroupPlace, events_of_replays, node_names}
use Rattle.guest_process.specs.Ends.{end_text}

-- ---- calls

-- a number of 64 bits, or of the lowest 32, signed
abbrev pub signed_text : Bool → ℕ → List ℕ
signed_text true n = signed_decimal (cast_signed w64 n)
signed_text false n = signed_decimal (cast_signed w32 (n % 2 ^ 32))

-- an argument, with a space in front
abbrev pub argument_text : Signature → ℕ → List ℕ
argument_text s n = codes " " ++ signed_text s.wide_param n

-- the arguments that a call has
abbrev pub arguments_text : Signature → Call → List ℕ
arguments_text s c = flat_map (argument_text s) (take s.params (c.a0 ∷ c.a1 ∷ c.a2 ∷ []))

-- the name of a call, and its arguments
abbrev pub call_text : Call → List ℕ
call_text c = (row c.kind).name ++ arguments_text (row c.kind).signature c

-- the reply of a call with a result of so many bits, where it has one
abbrev pub reply_by : ℕ → ℕ → List ℕ
reply_by bits reply = if bits == 0 then [] else codes " = " ++ signed_text (bits == 64) reply

abbrev pub reply_text : Entry → List ℕ
reply_text e = reply_by (row e.call.kind).signature.result e.reply

-- the signal that was delivered, where one was
abbrev pub signal_text : ℕ → List ℕ
signal_text signal = if signal == 0 then [] else codes " ! " ++ decimal signal

-- ---- events and positions

-- the name of a node's process
abbrev pub node_name : List Replaying → ℕ → List ℕ
node_name start node = slice_index_or (node_names start) node []

-- the clock, the name of the process and the thread
abbrev pub stamp_text : List ℕ → Entry → List ℕ
stamp_text name e = decimal e.clock ++ (codes " " ++ (name ++ (codes " " ++ decimal e.thread)))

-- these and the call; then the reply and the signal
abbrev pub named_event_text : List ℕ → Entry → List ℕ
named_event_text name e = stamp_text name e ++ (codes " " ++ (call_text e.call ++ (reply_text e ++ signal_text e.signal)))

-- an event of a node
abbrev pub event_text : List Replaying → NodeEvent Entry → List ℕ
event_text start e = named_event_text (node_name start e.node) e.entry

abbrev pub event_ending : List Replaying → Option (NodeEvent Entry) → List ℕ
event_ending start None = codes "\n"
event_ending start (Some e) = codes ": " ++ (event_text start e ++ codes "\n")

-- a position, and the event that led there
abbrev pub position_line : GroupPlace → List ℕ
position_line place = codes "at " ++ (decimal place.at ++ event_ending place.start (last_event_of place))

-- an event with its position
abbrev pub event_line : List Replaying → ℕ → NodeEvent Entry → List ℕ
event_line start k e = decimal k ++ (codes ": " ++ (event_text start e ++ codes "\n"))

-- events, the first of which has this position
abbrev pub event_lines : List Replaying → ℕ → List (NodeEvent Entry) → List ℕ
event_lines start k [] = []
event_lines start k (e ∷ es) = event_line start k e ++ event_lines start (suc k) es

-- the last n events up to the position
abbrev pub last_lines : GroupPlace → ℕ → List ℕ
last_lines place n = event_lines place.start (suc (place.at - n)) (drop (place.at - n) (take place.at (events_of_replays place.start)))

-- ---- threads

abbrev pub standing_text : Option Waiting → List ℕ
standing_text None = codes " ended\n"
standing_text (Some w) = codes " at " ++ (call_text w.call ++ codes "\n")

-- a line for each thread from this one on
abbrev pub thread_lines : ℕ → List (Slot Waiting) → List ℕ
thread_lines t [] = []
thread_lines t (slot ∷ slots) = decimal t ++ (standing_text (value_of slot) ++ thread_lines (suc t) slots)

-- how each thread of a process that runs stands
abbrev pub threads_text : State → List ℕ
threads_text S = if is_running S then thread_lines 0 S.crew.threads else []

-- how a process stands, and where it runs each of its threads
abbrev pub process_lines : List ℕ → State → List ℕ
process_lines name S = name ++ (codes " " ++ (end_text S.end ++ (codes "\n" ++ threads_text S)))

-- ---- frames

-- how many frames are told of a thread at most
abbrev pub most_told_frames : ℕ
most_told_frames = 64

-- how many more there are
abbrev pub left_frames : ℕ → List ℕ
left_frames n = if nat_le n most_told_frames then [] else codes " and " ++ (decimal (n - most_told_frames) ++ codes " more")

abbrev pub function_text : ℕ → List ℕ
function_text f = codes " " ++ decimal f

abbrev pub frames_text : List ℕ → List ℕ
frames_text [] = codes " ended"
frames_text (f ∷ fs) = flat_map function_text (take most_told_frames (f ∷ fs)) ++ left_frames (length (f ∷ fs))

-- the functions of a thread's frames
abbrev pub frames_line : ℕ → List ℕ → List ℕ
frames_line t fs = decimal t ++ (codes ":" ++ (frames_text fs ++ codes "\n"))
