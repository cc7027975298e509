-- The schedule that records to the logs of a group: for each event, in the order of all, what brings about its answer and
-- its signal, and then one try of its thread.
use Rattle.std.specs.Prelude.{ℕ, ◌==◌, if◌then◌else◌, List, [], ◌∷◌, ◌++◌, flat_map}
use Rattle.std.specs.Int.{w64, cast_signed}
use Rattle.call_table.specs.declared.kind.Kind.{Kind}
use Rattle.call_table.specs.declared.kind.Kind.TheVariants.{Now, SleepUntil, Random as RandomCall, Recv, TryRecv}
use Rattle.lib_calls.specs.declared.entry.Entry.{Entry}
use Rattle.lib_calls.specs.Effects.{minus_one}
use Rattle.lib_calls.specs.Traffic.{is_taken}
use Rattle.guest_process.specs.OneEvent.{datagram_as}
use Rattle.group_order.specs.Order.{NodeEvent}
use Rattle.schedule_text.specs.declared.item.Item.{Item}
use Rattle.schedule_text.specs.declared.item.Item.TheVariants.{Run, Inject, Clock, Random, Signal}
use Rattle.schedule_text.specs.declared.process.ProcessLine.{ProcessLine}
use Rattle.schedule_text.specs.Schedule.{Schedule}
use Rattle.proc_replay.specs.Replaying.{Replaying}
use Rattle.group_state.specs.Place.{events_of_replays}

-- the datagram that the event took, where it took one, comes from outside, with its tag in front
abbrev pub datagram_items : ℕ → Entry → List Item
datagram_items p e = if is_taken e then Inject p (datagram_as e.tag e.incoming) ∷ [] else []

-- the random bytes that the event took, unless its arguments were bad
abbrev pub random_items : ℕ → Entry → List Item
random_items p e = if e.reply == minus_one then [] else Random p e.incoming ∷ []

-- what the answer to a call of this kind takes of the world around process p: the wall time, random bytes,
-- or a datagram
abbrev pub world_items : Kind → ℕ → Entry → List Item
world_items Now p e = Clock p (cast_signed w64 e.reply) ∷ []
world_items SleepUntil p e = Clock p (cast_signed w64 e.reply) ∷ []
world_items RandomCall p e = random_items p e
world_items Recv p e = datagram_items p e
world_items TryRecv p e = datagram_items p e
world_items _ p e = []

-- the signal that the event delivered
abbrev pub signal_items : ℕ → Entry → List Item
signal_items p e = if e.signal == 0 then [] else Signal p e.signal ∷ []

-- what brings an event of process p about
abbrev pub items_of : ℕ → Entry → List Item
items_of p e = world_items e.call.kind p e ++ (signal_items p e ++ (Run p e.thread 1 ∷ []))

-- the schedule of these events, whose nodes are the processes of these lines
abbrev pub schedule_of_events : List ProcessLine → List (NodeEvent Entry) → Schedule
schedule_of_events lines es = record { processes = lines; items = flat_map (λ e. items_of e.node e.entry) es }

-- the schedule of all accepted events of a whole group
abbrev pub back : List ProcessLine → List Replaying → Schedule
back lines start = schedule_of_events lines (events_of_replays start)
