-- Replays with the names, the order of events and the states of a recording are the same to a session.
use Rattle.std.proofs.Common.{◌≡◌, ◌∙◌, ℕ, List, [], ◌∷◌, map, refl, subst, sym}
use Rattle.group_order.specs.Order.{NodeEvent}
use Rattle.lib_calls.specs.declared.entry.Entry.{Entry}
use Rattle.group_record.specs.Run.{name_of_process}
use Rattle.group_state.specs.Place.{events_of_replays, node_names, states_of_nodes}
use Rattle.proc_replay.specs.Replaying.{Replaying}
use Rattle.friday_shell.specs.SameGroup.{SameGroup}
use Rattle.headline.specs.Shown.{AreOfRecording, AreRecordedAt, RecordedRun, ShowsGroup, ShowsProcess}
use Rattle.std.specs.List.{AllZip}
use Rattle.headline.proofs.RecordedOrder.{one_recorded}

-- the nodes of replays that show a recording have the names of its processes
pub names_are : (run : RecordedRun) (cut : ℕ → List ℕ) (ps : List ℕ) (rs : List Replaying) → AllZip (ShowsProcess run cut) ps rs → node_names rs ≡ map (name_of_process run.group) ps
names_are run cut [] [] each = refl
names_are run cut (p ∷ ps) (r ∷ rs) each = λ i. (each.0.head i).name ∷ names_are run cut ps rs each.1 i
names_are run cut [] (r ∷ rs) each = absurd each
names_are run cut (p ∷ ps) [] each = absurd each

-- any others of the recording are of one group with those that show it
pub one_group : (run : RecordedRun) (ps : List ℕ) (start others : List Replaying) → ShowsGroup run ps start → AreOfRecording run ps others → SameGroup others start
one_group run ps start others shows are =
    let events = shows.only (events_of_replays others) are.order in
    record {
      names = are.names ∙ sym shows.recorded.names;
      events = events;
      states = λ k.
          sym (one_recorded run ps (events_of_replays start) k (states_of_nodes start k) (states_of_nodes others k) (shows.recorded.moments k)
          (subst (λ (es : List (NodeEvent Entry)). AreRecordedAt run ps es k (states_of_nodes others k)) events (are.moments k)));
    }
