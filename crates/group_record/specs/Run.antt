-- The run of a schedule: what each item does to a group, from its first states on.
use Rattle.std.specs.Prelude.{◌≡◌, ℕ, zero, suc, Bool, false, ◌&&◌, ◌==◌, not, is_some, nat_le, List, [], ◌∷◌, ◌++◌, length, drop, map, slice_get, Option, Some, None, option_and_then, if◌then◌else◌}
use Rattle.std.specs.Int.{w64, cast_unsigned}
use Rattle.std.specs.List.{last_or, slice_index_or}
use Rattle.std.specs.Option.{option_to_list}
use Rattle.lib_calls.specs.declared.entry.Entry.{Entry}
use Rattle.call_log.specs.Entry.{encodings}
use Rattle.call_log.specs.Head.{Head, head_bytes}
use Rattle.call_log.specs.Limits.{most_log}
use Rattle.call_log.specs.declared.version.Version.TheVariants.{Two}
use Rattle.schedule_text.specs.declared.item.Item.{Item}
use Rattle.schedule_text.specs.declared.item.Item.TheVariants as item
use Rattle.guest_process.specs.Live.{Env, Event, live}
use Rattle.guest_process.specs.State.{State, is_running}
use Rattle.lossy_net.specs.Network.{nth_of}
use Rattle.group_world.specs.History.{Act, History, is_killed, is_pending, mailbox, pool, put_last_if, sends, time}
use Rattle.group_world.specs.History as world

-- the names of a group's processes and their first states, both in the order of their numbers
pub record GroupStart : Type 0 where
  pub names : List (List ℕ)
  pub first : List State

-- how many processes the group has
abbrev pub processes_in_group : GroupStart → ℕ
processes_in_group group = length group.names

-- ---- steps

-- an acted step: an event of a process, with the state after it; or what another item does
pub data RunStep : Type 0 where
  Had : (process : ℕ) → (event : Event) → RunStep
  Did : Act → RunStep

-- the act of a step, which tells an event by its entry
abbrev pub act_of : RunStep → Act
act_of (Had p e) = world.Event p e.entry
act_of (Did act) = act

-- the history of some steps, the newest of each first
abbrev pub history_of_steps : List RunStep → History
history_of_steps steps = map act_of steps

-- the entries of a process's events, in their order
abbrev pub entries_of_steps : List RunStep → ℕ → List Entry
entries_of_steps steps p = world.process_entries (history_of_steps steps) p

-- the states after them
abbrev pub process_states : List RunStep → ℕ → List State
process_states [] p = []
process_states (Had q e ∷ steps) p = put_last_if (q == p) (process_states steps p) e.state
process_states (Did act ∷ steps) p = process_states steps p

-- all states of a process: its first one, where it is of the group, and those after its events
abbrev pub recorded_states : GroupStart → List RunStep → ℕ → List State
recorded_states group steps p = option_to_list (slice_get group.first p) ++ process_states steps p

-- the last of them
abbrev pub process_after : GroupStart → List RunStep → ℕ → Option State
process_after group steps p = last_or None (recorded_states group steps p)

-- the world around a process after some steps, by counting
abbrev pub world_around : ℕ → List RunStep → ℕ → Env
world_around count steps p = record {
  mailbox = mailbox count (history_of_steps steps) p;
  pool = pool (history_of_steps steps) p;
  time = time (history_of_steps steps) p;
  pending = is_pending (history_of_steps steps) p;
  killed = is_killed (history_of_steps steps) p;
}

-- ---- logs

abbrev pub name_of_process : GroupStart → ℕ → List ℕ
name_of_process group p = slice_index_or group.names p []

abbrev pub head_of_log : GroupStart → ℕ → Head
head_of_log group p = record { version = Two; count = processes_in_group group; process = p; name = name_of_process group p }

-- the log of a process: its head, and its events' entries
abbrev pub log_of : GroupStart → List RunStep → ℕ → List ℕ
log_of group steps p = head_bytes (head_of_log group p) ++ encodings Two 0 (entries_of_steps steps p)

-- what the log has more with this event
abbrev pub entry_bytes : GroupStart → List RunStep → ℕ → Event → List ℕ
entry_bytes group early p e = drop (length (log_of group early p)) (log_of group (Had p e ∷ early) p)

-- the log stays within the limit with this event
abbrev pub log_has_room : GroupStart → List RunStep → ℕ → Event → Bool
log_has_room group steps p e = nat_le (length (log_of group (Had p e ∷ steps) p)) most_log

-- ---- the run

-- the steps so far, the newest first; how many tries and items were idle; and the number of the item, from 1,
-- whose next event would have carried a log past its limit, after which nothing is done
pub record RunProgress : Type 0 where
  pub steps : List RunStep
  pub idle : ℕ
  pub full : Option ℕ

abbrev pub no_progress_yet : RunProgress
no_progress_yet = record { steps = []; idle = 0; full = None }

abbrev pub with_step : RunStep → RunProgress → RunProgress
with_step step done = record done { steps = step ∷ done.steps }

abbrev pub idled_item : RunProgress → RunProgress
idled_item done = record done { idle = suc done.idle }

abbrev pub with_step_if : Bool → RunStep → RunProgress → RunProgress
with_step_if acts step done = if acts then with_step step done else idled_item done

abbrev pub with_full_log : ℕ → RunProgress → RunProgress
with_full_log number done = record done { full = Some number }

-- what follows, unless a log is full
abbrev pub unless_log_full : RunProgress → RunProgress → RunProgress
unless_log_full done next = if is_some done.full then done else next

-- the event that a try of a thread of a process makes, where it isn't idle
abbrev pub event_of_try : GroupStart → List RunStep → ℕ → ℕ → Option Event
event_of_try group steps p thread = option_and_then (λ S. live S thread (world_around (processes_in_group group) steps p)) (process_after group steps p)

abbrev pub had_event : GroupStart → ℕ → ℕ → Option Event → RunProgress → RunProgress
had_event group number p None done = idled_item done
had_event group number p (Some e) done = if log_has_room group done.steps p e then with_step (Had p e) done else with_full_log number done

-- one try, in the item with this number
abbrev pub attempt : GroupStart → ℕ → ℕ → ℕ → RunProgress → RunProgress
attempt group number p thread done = unless_log_full done (had_event group number p (event_of_try group done.steps p thread) done)

-- so many tries, each by itself
unfoldable pub run_attempts : GroupStart → ℕ → ℕ → ℕ → ℕ → RunProgress → RunProgress
run_attempts group number p thread zero done = done
run_attempts group number p thread (suc n) done = run_attempts group number p thread n (attempt group number p thread done)

-- a process has sent a datagram with this number
abbrev pub has_sent : ℕ → List RunStep → ℕ → ℕ → Bool
has_sent count steps p n = is_some (nth_of (sends count (history_of_steps steps) p) n)

abbrev pub is_running_process : Option State → Bool
is_running_process None = false
is_running_process (Some S) = is_running S

-- a process runs and was not killed
abbrev pub can_be_killed : GroupStart → List RunStep → ℕ → Bool
can_be_killed group steps p = is_running_process (process_after group steps p) && not (is_killed (history_of_steps steps) p)

abbrev pub done_by_item : GroupStart → ℕ → Item → RunProgress → RunProgress
done_by_item group number (item.Run p thread times) done = run_attempts group number p thread times done
done_by_item group number (item.Deliver p n) done = with_step_if (has_sent (processes_in_group group) done.steps p n) (Did (world.Deliver p n)) done
done_by_item group number (item.Inject p bytes) done = with_step (Did (world.Inject p bytes)) done
done_by_item group number (item.Clock p value) done = with_step (Did (world.Clock p (cast_unsigned w64 value))) done
done_by_item group number (item.Random p bytes) done = with_step (Did (world.Random p bytes)) done
done_by_item group number (item.Signal p s) done = with_step (Did (world.Signal p s)) done
done_by_item group number (item.Kill p) done = with_step_if (can_be_killed group done.steps p) (Did (world.Kill p)) done

-- an item with its number, from 1
abbrev pub after_item : GroupStart → ℕ → Item → RunProgress → RunProgress
after_item group number i done = unless_log_full done (done_by_item group number i done)

abbrev pub after_items : GroupStart → ℕ → List Item → RunProgress → RunProgress
after_items group number [] done = done
after_items group number (i ∷ is) done = after_items group (suc number) is (after_item group number i done)

-- the run of a schedule's items
abbrev pub run : GroupStart → List Item → RunProgress
run group items = after_items group 1 items no_progress_yet

-- some steps that were all at some moment of the run
abbrev pub IsMoment : List RunStep → List RunStep → Type 0
IsMoment early steps = (later : List RunStep) × (steps ≡ later ++ early)
