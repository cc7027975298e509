-- The recording is shown.
use Rattle.std.proofs.Common.{◌≡◌, ◌≢◌, ◌∙◌, ◌<◌, ◌≤◌, ℕ, zero, suc, List, [], ◌∷◌, ◌++◌, length, map, take, slice_get, Some, None, Result, Ok, ap, append-nil, append_assoc, arith, subst, sym}
use Rattle.std.specs.Prelude.{IsTrue}
use Rattle.std.specs.List.{AllByRecursion, AllZip}
use Rattle.std.proofs.lemmas.Option.{same_Some}
use Rattle.fri_outside.specs.Outside.{Folder}
use Rattle.schedule_text.specs.Laws.{GivesSchedules}
use Rattle.guest_process.specs.Fits.{StateFits}
use Rattle.guest_process.specs.Live.{Event}
use Rattle.lib_calls.specs.Traffic.{is_taken}
use Rattle.lib_calls.specs.declared.entry.Entry.{Entry}
use Rattle.call_log.specs.Entry.{encodings}
use Rattle.call_log.specs.Head.{head_bytes}
use Rattle.call_log.specs.declared.version.Version.TheVariants.{Two}
use Rattle.call_log.specs.Limits.{most_log}
use Rattle.call_log.specs.Log.{head_at}
use Rattle.guest_process.specs.State.{State}
use Rattle.proc_replay.specs.Replaying.{Replaying}
use Rattle.group_record.specs.Laws.{Beginning, TakesDatagram, TellsCutLogs}
use Rattle.group_record.specs.Logs.{IsLogOfRun, IsLogWithTail, TellsEvents}
use Rattle.group_record.specs.RunLaws.{before_steps}
use Rattle.group_record.specs.Run.{GroupStart, Had, IsMoment, RunStep, entries_of_steps, entry_bytes, head_of_log, log_of, processes_in_group}
use Rattle.group_record.specs.Standing.{IsReachableRun, Standing}
use Rattle.group_state.specs.Laws.{Ordered, SendsFirst}
use Rattle.group_state.specs.Nodes.{nodes_at, seen_node}
use Rattle.group_state.specs.Place.{ReplaysFit, events_of_replays, states_of_nodes}
use Rattle.watch_expr.specs.Reads.{VariablesUnseen, no_variables}
use Rattle.watch_expr.specs.Value.{value}
use Rattle.point_programs.specs.Variables.{variable_value}
use Rattle.shell_points.specs.Firing.{place_at}
use Rattle.shell_points.specs.Laws.{ExactFiring}
use Rattle.command_run.specs.Laws.{ReadsModules}
use Rattle.command_run.specs.Apart.{apart_work}
use Rattle.command_run.specs.Outcome.{CommandOutcome, CommandStop, and_then}
use Rattle.log_pairs.specs.Pairs.{Loaded, Pair, names_of_pairs, replays_of, replays_of_pairs, sort_replays}
use Rattle.log_pairs.specs.Valid.{AreOfOneGroup}
use Rattle.record_command.specs.Agreement.{IsRecordable, LogsAgree, IsPartialEntry, Front, Nothing, group_in, steps_in}
use Rattle.record_command.specs.ExpectedLaws.{schedule_is}
use Rattle.record_command.specs.Laws.{RecordingsAgree}
use Rattle.replay_command.specs.Report.{replay_work}
use Rattle.conversation.specs.Opening.{opened_outcome}
use Rattle.debug_command.specs.Session.{debug_opener}
use Rattle.debug_command.specs.Laws.{SessionsOfOneGroup}
use Rattle.headline.specs.Headline.{AreProcesses, Headline, IsShown, run_to, sorted_of, HoldsPair}
use Rattle.headline.specs.Shown.{RecordedRun, ShowsGroup, ShowsProcess}
use Rattle.headline.proofs.RecordedGroup.{HasBegun, has_begun, logs_of_run, pair_stands, schedule_formed, together}
use Rattle.headline.proofs.LoadedPairs.{AllStand, AllTogether, opened}
use Rattle.headline.proofs.RecordedOrder.{are_recorded, one_recorded, order_is}
use Rattle.headline.proofs.ReceivedDatagrams.{received}
use Rattle.headline.proofs.ReplayReport.{AllCome, all_of_them, report_is, report_made}
use Rattle.headline.proofs.SameRecording.{names_are, one_group}
use Rattle.headline.proofs.ShownReplays.{ComesTo, comes_to, replay_of, shows}
use Rattle.headline.proofs.SortedReplays.{Are, AreDistinct, all_numbered, all_sorted, are_distinct, in_order, sorted_count}

-- ---- each process and its replay

-- what is known of a process, its pair and its replay
record Known (run : RecordedRun) (cut : ℕ → List ℕ) (p : ℕ) (r : Replaying) : Type 0 where
  shows : ShowsProcess run cut p r
  comes : ComesTo run cut p r
  fits : StateFits r.state

process_is : (run : RecordedRun) (cut : ℕ → List ℕ) (p : ℕ) (r : Replaying) → Known run cut p r → r.head.process ≡ p
process_is run cut p r known = ap (λ h. h.process) known.shows.head

abbrev AreKnown : RecordedRun → (ℕ → List ℕ) → List ℕ → List Replaying → Type 0
AreKnown run cut ps rs = Are (Known run cut) (process_is run cut) ps rs

are_shown : (run : RecordedRun) (cut : ℕ → List ℕ) (ps : List ℕ) (rs : List Replaying) → AreKnown run cut ps rs → AllZip (ShowsProcess run cut) ps rs
are_shown run cut [] [] all = tt
are_shown run cut (p ∷ ps) (r ∷ rs) all = (all.0.shows, are_shown run cut ps rs all.1)
are_shown run cut [] (r ∷ rs) all = absurd all
are_shown run cut (p ∷ ps) [] all = absurd all

all_come : (run : RecordedRun) (cut : ℕ → List ℕ) (ps : List ℕ) (rs : List Replaying) → AreKnown run cut ps rs → AllCome run cut ps rs
all_come run cut [] [] all = tt
all_come run cut (p ∷ ps) (r ∷ rs) all = (all.0.comes, all_come run cut ps rs all.1)
all_come run cut [] (r ∷ rs) all = absurd all
all_come run cut (p ∷ ps) [] all = absurd all

all_fit : (run : RecordedRun) (cut : ℕ → List ℕ) (ps : List ℕ) (rs : List Replaying) → AreKnown run cut ps rs → ReplaysFit rs
all_fit run cut [] [] all k d below = absurd (omega (arith, below))
all_fit run cut (p ∷ ps) (r ∷ rs) all zero d below = all.0.fits
all_fit run cut (p ∷ ps) (r ∷ rs) all (suc k) d below = all_fit run cut ps rs all.1 k d (omega (arith, below))
all_fit run cut [] (r ∷ rs) all k d below = absurd all
all_fit run cut (p ∷ ps) [] all k d below = absurd all

-- ---- a log, with or without a part of one more entry

-- a log with nothing after it
tells_whole : (group : GroupStart) (steps : List RunStep) (p : ℕ) (cut : List ℕ) → TellsEvents group steps p → cut ≡ [] → IsLogWithTail group steps p cut
tells_whole group steps p cut t none =
    subst (λ (cut : List ℕ). IsLogWithTail group steps p cut) (sym none)
    (subst (λ (bytes : List ℕ). IsLogOfRun group steps p bytes []) (sym (append-nil (log_of group steps p))) t)

-- what the log is after other steps, among which the process had no event
tells_after : (group : GroupStart) (early steps : List RunStep) (p : ℕ) (cut : List ℕ) → TellsEvents group steps p → IsLogWithTail group early p cut → entries_of_steps early p ≡ entries_of_steps steps p → IsLogWithTail group steps p cut
tells_after group early steps p cut whole part same =
    let bytes : log_of group early p ++ cut ≡ log_of group steps p ++ cut = ap (λ (es : List Entry). (head_bytes (head_of_log group p) ++ encodings Two 0 es) ++ cut) same in
    record {
      first = whole.first;
      begun = whole.begun;
      left = part.left;
      within = subst (λ (bytes : List ℕ). length bytes ≤ most_log) bytes part.within;
      head = ap head_at (sym bytes) ∙ part.head;
      entries = part.entries ∙ same;
      rest = part.rest;
      accepted = whole.accepted;
      states = whole.states;
    }

tells_by : (group : GroupStart) (all steps : List RunStep) (p : ℕ) (cut : List ℕ) → TellsCutLogs group all → TellsEvents group steps p → IsPartialEntry group all steps p cut → IsLogWithTail group steps p cut
tells_by group all steps p cut cuts whole (Nothing none) = tells_whole group steps p cut whole none
tells_by group all steps p cut cuts whole (Front later early e n split same short is) =
    subst (λ (cut : List ℕ). IsLogWithTail group steps p cut) (sym is) (tells_after group early steps p (take n (entry_bytes group early p e)) whole (cuts later early p e split n short) same)

-- ---- a folder that holds some processes of a recording

module _ (reads : ReadsModules) (gives : GivesSchedules) (beginning : Beginning) (standing : Standing) (agree : RecordingsAgree) (ordered : Ordered) (sends : SendsFirst) (firing : ExactFiring) (unseen : VariablesUnseen) (sessions : SessionsOfOneGroup)
    (before folder : Folder) (name : List ℕ) (r : IsRecordable before name) (steps : List RunStep) (moment : IsMoment steps (steps_in r)) (cut : ℕ → List ℕ) where
  begun : HasBegun (group_in r) r.schedule.items
  begun = has_begun reads gives beginning r

  stands : IsReachableRun (group_in r) steps
  stands = standing (group_in r) r.schedule.items begun.begun begun.fits steps moment

  agreed : LogsAgree (group_in r) (steps_in r)
  agreed = agree before name r

  abbrev run : RecordedRun
  run = run_to r steps

  abbrev count : ℕ
  count = processes_in_group (group_in r)

  -- no more than a part of its next entry follows the log of a process
  abbrev MayFollow : ℕ → Type 0
  MayFollow p = IsPartialEntry (group_in r) (steps_in r) steps p (cut p)

  tells : (p : ℕ) → p < count → MayFollow p → IsLogWithTail (group_in r) steps p (cut p)
  tells p below follow = tells_by (group_in r) (steps_in r) steps p (cut p) agreed.cut (agreed.logs steps moment p below) follow

  -- the first state of a process is in its ranges
  first_fits : (p : ℕ) → p < count → (S : State) → slice_get (group_in r).first p ≡ Some S → StateFits S
  first_fits p below S at =
      let s = (standing (group_in r) r.schedule.items begun.begun begun.fits [] (steps_in r, sym (append-nil (steps_in r)))).processes p below in
      subst StateFits (same_Some s.last S (sym s.stands ∙ before_steps (group_in r) p ∙ at)) s.fits

  known : (p : ℕ) (below : p < count) (follow : MayFollow p) → Known run cut p (replay_of run cut p (tells p below follow))
  known p below follow = record {
    shows = shows run cut p stands (tells p below follow);
    comes = comes_to run cut p stands below (tells p below follow);
    fits = first_fits p below (tells p below follow).first (tells p below follow).begun;
  }

  abbrev Below : List ℕ → Type 0
  Below ps = AllByRecursion (λ p. p < count) ps

  abbrev AllFollow : List ℕ → Type 0
  AllFollow ps = AllByRecursion MayFollow ps

  -- the replays of some processes
  abbrev replays : (ps : List ℕ) → Below ps → AllFollow ps → List Replaying
  replays [] below follow = []
  replays (p ∷ ps) below follow = replay_of run cut p (tells p below.0 follow.0) ∷ replays ps below.1 follow.1

  all_known : (ps : List ℕ) (below : Below ps) (follow : AllFollow ps) → AreKnown run cut ps (replays ps below follow)
  all_known [] below follow = tt
  all_known (p ∷ ps) below follow = (known p below.0 follow.0, all_known ps below.1 follow.1)

  all_stand : (ps : List ℕ) (pairs : List Pair) (below : Below ps) (follow : AllFollow ps) → AllZip (HoldsPair r (logs_of_run run cut) folder) ps pairs → AllStand folder pairs (replays ps below follow)
  all_stand [] [] below follow held = tt
  all_stand (p ∷ ps) (pair ∷ pairs) below follow held =
      (pair_stands reads r steps cut folder p pair held.0 (tells p below.0 follow.0), all_stand ps pairs below.1 follow.1 held.1)
  all_stand [] (pair ∷ pairs) below follow held = absurd held
  all_stand (p ∷ ps) [] below follow held = absurd held

  one_together : (p : ℕ) → p < count → (ps : List ℕ) (below : Below ps) (follow : AllFollow ps) → AllByRecursion (λ q. p ≢ q) ps
      → AllByRecursion (λ s. AreOfOneGroup (head_of_log (group_in r) p) s.head) (replays ps below follow)
  one_together p here [] below follow apart = tt
  one_together p here (q ∷ ps) below follow apart =
      (together r.schedule r.first (schedule_formed gives before name r.schedule (schedule_is r)) p q here below.0 apart.0, one_together p here ps below.1 follow.1 apart.1)

  all_together : (ps : List ℕ) (below : Below ps) (follow : AllFollow ps) → AreDistinct ps → AllTogether (replays ps below follow)
  all_together [] below follow apart = tt
  all_together (p ∷ ps) below follow apart = (one_together p below.0 ps below.1 follow.1 apart.0, all_together ps below.1 follow.1 apart.1)

  -- where an event of the run took a datagram, that came from outside or was sent
  taken : (later early : List RunStep) (p : ℕ) (e : Event) → steps ≡ later ++ (Had p e ∷ early) → IsTrue (is_taken e.entry) → TakesDatagram count early p e
  taken later early p e split takes =
      agreed.datagrams (moment.0 ++ later) early p e (moment.1 ∙ ap (λ (s : List RunStep). moment.0 ++ s) split ∙ sym (append_assoc moment.0 later (Had p e ∷ early))) takes

  group_is : (ps : List ℕ) (start : List Replaying) → AreKnown run cut ps start → ShowsGroup run ps start
  group_is ps start all =
      let shown = are_shown run cut ps start all in
      let fits = all_fit run cut ps start all in
      let order = order_is ordered run cut ps start fits shown in
      let recorded = are_recorded run cut ps start shown order.0 in
      record {
        recorded = record { names = names_are run cut ps start shown; order = order.0; moments = recorded };
        only = order.1;
        receives = received run ps start stands.steps fits sends order.0 taken;
        sends = sends start fits;
        fires = firing.changes start;
        values = λ x k states at. ap (λ (states : List State). value (map seen_node states) no_variables x) (one_recorded run ps (events_of_replays start) k (states_of_nodes start k) states (recorded k) at);
        prints = λ variables x k none. (unseen (nodes_at (place_at start k)) (variable_value variables) no_variables None x none).0;
      }

  pub is_shown : (ps : List ℕ) (pairs : List Pair) → AreProcesses count ps → AllFollow ps → AllZip (HoldsPair r (logs_of_run run cut) folder) ps pairs → IsShown run cut folder ps pairs
  is_shown ps pairs are follow held =
      let unsorted = replays ps are.within follow in
      let sorted = sorted_of count ps in
      let start = sort_replays [] unsorted in
      let all : AreKnown run cut sorted start =
      subst (λ (ns : List ℕ). AreKnown run cut ns start) (in_order count ps are)
      (all_sorted (Known run cut) (process_is run cut) [] ps [] unsorted tt (all_known ps are.within follow)) in
      let shown = are_shown run cut sorted start all in
      let read = opened folder pairs unsorted (all_stand ps pairs are.within follow held) (all_together ps are.within follow (are_distinct ps are.apart)) in
      let group = group_is sorted start all in
      let opens : replays_of_pairs folder pairs ≡ Ok start =
      ap (λ (o : Result (List Loaded) CommandStop). and_then o (λ ls. and_then (replays_of ls) (λ rs. Ok (sort_replays [] rs)))) read.loaded
      ∙ ap (λ (o : Result (List Replaying) CommandStop). and_then o (λ rs. Ok (sort_replays [] rs))) read.begun in
      record {
        start = start;
        opened = opens;
        each = shown;
        replay = λ images apart.
            ap (λ (o : Result (List Replaying) CommandStop). and_then o (λ start. apart_work (names_of_pairs pairs) (replay_work images start))) opens
            ∙ ap (apart_work (names_of_pairs pairs)) (report_is images run cut sorted start shown (all_come run cut sorted start all))
            ∙ report_made images run cut sorted pairs apart;
        images = λ all_given. all_of_them run sorted (all_numbered count ps are all_given) (sorted_count count ps are ∙ all_given);
        debug = λ others are input.
            ap (λ (o : Result (List Replaying) CommandStop). opened_outcome (debug_opener pairs) o (Some input)) opens
            ∙ sym (ap (λ (o : CommandOutcome). Some o) (sessions others start (one_group run sorted start others group are) input));
        shows = group;
      }

pub headline : ReadsModules → GivesSchedules → Beginning → Standing → RecordingsAgree → Ordered → SendsFirst → ExactFiring → VariablesUnseen → SessionsOfOneGroup → Headline
headline reads gives beginning standing agree ordered sends firing unseen sessions before name r steps moment cut ps are follow folder pairs held =
    is_shown reads gives beginning standing agree ordered sends firing unseen sessions before folder name r steps moment cut ps pairs are follow held
