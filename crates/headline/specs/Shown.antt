-- What `replay` and `debug` show of a recording.
use Rattle.std.specs.Prelude.{◌≡◌, ◌↔◌, ◌<◌, ◌≤◌, ℕ, suc, Bool, true, false, IsTrue, List, [], ◌∷◌, ◌++◌, length, map, take, slice_get, Some, Contains, if◌then◌else◌}
use Rattle.std.specs.List.{flat_map}
use Rattle.lamport_tag.specs.Tag.{read_datagram}
use Rattle.lamport_tag.specs.declared.Tag.{Tag}
use Rattle.lib_calls.specs.Traffic.{is_sent, is_taken, prints}
use Rattle.lib_calls.specs.declared.entry.Entry.{Entry}
use Rattle.call_log.specs.Log.{entries_of, rest_of_log}
use Rattle.guest_process.specs.Live.{Event}
use Rattle.guest_process.specs.Replay.{left_over}
use Rattle.guest_process.specs.State.{State}
use Rattle.group_order.specs.Order.{IsOrder, NodeEvent, node_event}
use Rattle.group_world.specs.History.{Inject}
use Rattle.group_record.specs.Answer.{end_after}
use Rattle.group_record.specs.Images.{memory_of_process}
use Rattle.process_files.specs.Images.{image_files}
use Rattle.group_record.specs.Laws.{TellsSend}
use Rattle.group_record.specs.Run.{GroupStart, Had, RunStep, entries_of_steps, head_of_log, history_of_steps, name_of_process, process_after, recorded_states, processes_in_group}
use Rattle.proc_replay.specs.Course.{entries_ahead}
use Rattle.proc_replay.specs.Replaying.{Replaying}
use Rattle.group_state.specs.declared.report.ReportLine.{ReportLine}
use Rattle.group_state.specs.Nodes.{nodes_at, seen_node}
use Rattle.group_state.specs.Place.{after_entries, entry_clock, events_of_replays, node_event_count, node_names, states_of_nodes}
use Rattle.group_state.specs.Tally.{AcceptedEvent, of_process, tally_of_events}
use Rattle.expression_text.specs.Expression.{Expression}
use Rattle.expression_text.specs.Faulty.{names_variable}
use Rattle.watch_expr.specs.Reads.{no_variables}
use Rattle.watch_expr.specs.Value.{value}
use Rattle.point_programs.specs.Running.{value_in}
use Rattle.point_programs.specs.Variables.{Variable}
use Rattle.shell_points.specs.Firing.{place_at, value_at_position, watchpoint_fires}
use Rattle.command_run.specs.Outcome.{CommandWork}
use Rattle.lamport_tag.specs.Limits.{most_clock}
use Rattle.replay_command.specs.Texts.{report_text}

-- a recording as far as it came: its group, and the steps of the run
pub record RecordedRun : Type 0 where
  pub group : GroupStart
  pub steps : List RunStep

-- ---- one process

-- after no log anything stands
abbrev pub no_cut : ℕ → List ℕ
no_cut p = []

-- a replay is that of a process of the recording. It has all events of the process and no other, each is accepted, and
-- after each n of them it is in the recorded state. What comes after their entries is left over
pub record ShowsProcess (run : RecordedRun) (cut : ℕ → List ℕ) (p : ℕ) (r : Replaying) : Type 0 where
  pub head : r.head ≡ head_of_log run.group p
  pub begun : slice_get run.group.first p ≡ Some r.state
  pub told : entries_of r.left ≡ entries_of_steps run.steps p
  pub rest : rest_of_log r.left ≡ cut p
  pub accepted : entries_ahead r ≡ entries_of_steps run.steps p
  pub moments : (n : ℕ) → n ≤ length (entries_of_steps run.steps p) → slice_get (recorded_states run.group run.steps p) n ≡ Some (after_entries r n)

-- ---- what `replay` says

-- the line of a process: how many events were recorded, how it stood after them, and that its log is whole, unless bytes stand
-- after its entries, which are left over
abbrev pub recorded_line : RecordedRun → (ℕ → List ℕ) → ℕ → ReportLine
recorded_line run cut p = record {
  name = name_of_process run.group p;
  events = length (entries_of_steps run.steps p);
  end = end_after (process_after run.group run.steps p);
  verdict = left_over (cut p);
}

-- the files of what each of these processes left
abbrev pub recorded_images : RecordedRun → List ℕ → List (List ℕ × List ℕ)
recorded_images run ps = flat_map (λ p. image_files (name_of_process run.group p) (memory_of_process (process_after run.group run.steps p)) (prints (entries_of_steps run.steps p))) ps

-- the lines and the counts of these processes, and no divergence; and their images, where they are asked for
abbrev pub recorded_report : Bool → RecordedRun → (ℕ → List ℕ) → List ℕ → CommandWork
recorded_report images run cut ps = record {
  text = report_text (map (recorded_line run cut) ps) (tally_of_events (processes_in_group run.group) (flat_map (λ p. of_process p (entries_of_steps run.steps p)) ps));
  writes = if images then recorded_images run ps else [];
  diverged = false;
}

-- ---- what `debug` shows

-- these states, one for each process, are those that the recording had after as many events of each as stand among the first k
-- of this order
pub record AreRecordedAt (run : RecordedRun) (ps : List ℕ) (order : List (NodeEvent Entry)) (k : ℕ) (states : List State) : Type 0 where
  pub count : length states ≡ length ps
  pub each : (node p : ℕ) → slice_get ps node ≡ Some p
      → (state : State) × (slice_get states node ≡ Some state)
      × (slice_get (recorded_states run.group run.steps p) (node_event_count node (take k order)) ≡ Some state)

-- the datagram that an event took, at place j of the order, came from outside before the event, or a process had sent it to
-- that of the event. Then the event names the send and tells a first part of what went out, and the send comes before it, if its
-- process is one of these, unless the send's clock is past those that a tag can bear
pub data ReceivedDatagram (run : RecordedRun) (ps : List ℕ) (order : List (NodeEvent Entry)) (j : ℕ) (taken : AcceptedEvent) : Type 0 where
  FromOutside : (bytes : List ℕ) → (later early : List RunStep) → (e : Event) → run.steps ≡ later ++ (Had taken.process e ∷ early) → e.entry ≡ taken.entry
      → Contains (history_of_steps early) (Inject taken.process bytes)
      → taken.entry.tag ≡ (read_datagram (processes_in_group run.group) bytes).0
      → taken.entry.incoming ≡ take taken.entry.call.a1 (read_datagram (processes_in_group run.group) bytes).1
      → ReceivedDatagram run ps order j taken
  FromSend : (q k : ℕ) → (sent : Entry) → slice_get (entries_of_steps run.steps q) k ≡ Some sent
      → IsTrue (is_sent (processes_in_group run.group) sent) → sent.call.a0 ≡ taken.process
      → (sent.clock ≤ most_clock → TellsSend taken.entry q sent)
      → (sent.clock ≤ most_clock → (node : ℕ) → slice_get ps node ≡ Some q → (i : ℕ) × (i < j) × (slice_get order i ≡ Some (node_event node sent)))
      → ReceivedDatagram run ps order j taken

-- replays whose nodes have the names of these processes, the order of their recorded events and the recorded states. A session
-- sees nothing else of them
pub record AreOfRecording (run : RecordedRun) (ps : List ℕ) (rs : List Replaying) : Type 0 where
  pub names : node_names rs ≡ map (name_of_process run.group) ps
  -- the order has all their recorded events, sorted by clock and then by process
  pub order : IsOrder entry_clock (map (entries_of_steps run.steps) ps) (events_of_replays rs)
  -- at position k each process is as it was in the recording after as many of its events as stand among the first k
  pub moments : (k : ℕ) → AreRecordedAt run ps (events_of_replays rs) k (states_of_nodes rs k)

-- replays of these processes, as one group
pub record ShowsGroup (run : RecordedRun) (ps : List ℕ) (start : List Replaying) : Type 0 where
  pub recorded : AreOfRecording run ps start
  -- no other list is such an order
  pub only : (es : List (NodeEvent Entry)) → IsOrder entry_clock (map (entries_of_steps run.steps) ps) es → es ≡ events_of_replays start
  -- each taken datagram is one from outside, or its send comes before it
  pub receives : (j node p : ℕ) (e : Entry) → slice_get ps node ≡ Some p → slice_get (events_of_replays start) j ≡ Some (node_event node e)
      → IsTrue (is_taken e) → ReceivedDatagram run ps (events_of_replays start) j (record { process = p; entry = e })
  -- every event of the clock that a taken tag names comes before it, whoever made the tag
  pub sends : (i j : ℕ) (sent taken : NodeEvent Entry) (tag : Tag)
      → slice_get (events_of_replays start) i ≡ Some sent → slice_get (events_of_replays start) j ≡ Some taken
      → taken.entry.tag ≡ Some tag → sent.entry.clock ≡ tag.clock → i < j
  -- a watchpoint fires exactly where its value at two neighbouring positions is not the same
  pub fires : (x : Expression) (k : ℕ)
      → (watchpoint_fires start x (suc k) ≡ true) ↔ (value_at_position start x k ≡ value_at_position start x (suc k) → ⊥)
  -- that value is the one over the recorded states
  pub values : (x : Expression) (k : ℕ) (states : List State) → AreRecordedAt run ps (events_of_replays start) k states
      → value_at_position start x k ≡ value (map seen_node states) no_variables x
  -- and the one that `print` answers, where no variable is named
  pub prints : (variables : List Variable) (x : Expression) (k : ℕ) → names_variable x ≡ false
      → value_in (nodes_at (place_at start k)) variables x ≡ value_at_position start x k
