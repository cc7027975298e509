-- The schedule of the logs of a whole group records to these logs.
use Rattle.std.proofs.Common.{◌≡◌, ℕ, zero, suc, ◌≤◌, true, List, [], ◌∷◌, ◌++◌, length, map, take, drop, Some, Ok, refl, ap, sym, subst, ◌∙◌, arith}
use Rattle.std.specs.Prelude.{slice_get}
use Rattle.std.specs.List.{AllByRecursion, slice_index_or}
use Rattle.std.proofs.Math.Seq.{take-length}
use Rattle.std.proofs.lemmas.Bool.{leb-true}
use Rattle.std.proofs.lemmas.List.{length-map}
use Rattle.std.proofs.lemmas.List.Elements.{All-from_recursion, recursion_from_All}
use Rattle.std.proofs.lemmas.Option.{slice_get_within}
use Rattle.fri_bytes.specs.Laws.{AreBytes}
use Rattle.fri_text.specs.Name.{is_name}
use Rattle.lib_calls.specs.declared.entry.Entry.{Entry}
use Rattle.call_log.specs.Entry.{encodings}
use Rattle.call_log.specs.Head.{Head, head_bytes}
use Rattle.call_log.specs.Laws.{ExactLogs}
use Rattle.call_log.specs.Limits.{most_log}
use Rattle.call_log.specs.Log.{entries_of}
use Rattle.call_log.specs.declared.version.Version.TheVariants.{Two}
use Rattle.guest_process.specs.Fits.{StateFits}
use Rattle.guest_process.specs.Numbers.{LegalNumbers}
use Rattle.guest_process.specs.OneEvent.{IsKeptByEvents, Possible}
use Rattle.guest_process.specs.State.{State}
use Rattle.group_order.specs.Order.{NodeEvent, of_node}
use Rattle.group_record.specs.Run.{RunProgress, RunStep, after_items, entries_of_steps, head_of_log, history_of_steps, processes_in_group, world_around}
use Rattle.group_record.specs.RunLaws.{before_steps}
use Rattle.proc_replay.specs.Replaying.{Replaying}
use Rattle.proc_replay.specs.Sizes.{AcceptedNoLonger}
use Rattle.schedule_text.specs.Limits.{most_runs}
use Rattle.schedule_text.specs.Schedule.{IsProcess, IsSchedule, is_module_name}
use Rattle.schedule_text.specs.declared.process.ProcessLine.{ProcessLine}
use Rattle.group_state.specs.Laws.{Ordered, Stepwise}
use Rattle.group_state.specs.Place.{events_of_replays, group_count, states_of_nodes, states_from}
use Rattle.schedule_back.specs.Back.{back, items_of}
use Rattle.proc_replay.specs.AtHead.{IsAtHead}
use Rattle.schedule_back.specs.Laws.{Converse, IsWholeGroup, NothingWaits, RecordsBack, back_group, back_run, front_run}
use Rattle.schedule_back.specs.Outcome.{text_or_refusal}
use Rattle.schedule_back.specs.Meanings.{IncomingAreBytes}
use Rattle.schedule_back.proofs.ProcessRanges.{all_fit}
use Rattle.schedule_back.proofs.ScheduleFits.{IsRanged, all_in, all_tries, items_of_events}
use Rattle.schedule_back.proofs.AnswerItems.{at_rest}
use Rattle.schedule_back.proofs.ListPlaces.{all_by_place, at_place, element, next_of, none_left}
use Rattle.schedule_back.proofs.NodeProcesses.{process_is}
use Rattle.schedule_back.proofs.LogRoom.{all_own, part_fits, part_of}
use Rattle.schedule_back.proofs.EventItems.{HaveRoom, IsAt, Moves, stepped}
use Rattle.schedule_back.proofs.WorldsAround.{AreQuiet, nothing_waits}
use Rattle.schedule_back.proofs.WholeLogs.{Says, says, whole_accepted, whole_rest}

-- ---- the group of the schedule

length_states : (node : ℕ) (rs : List Replaying) (es : List (NodeEvent Entry)) → length (states_from node rs es) ≡ length rs
length_states node [] es = refl
length_states node (r ∷ rs) es = ap suc (length_states (suc node) rs es)

-- the name at a place
name_at : (lines : List ProcessLine) (rs : List Replaying) → map (λ (line : ProcessLine). line.name) lines ≡ map (λ (r : Replaying). r.head.name) rs
    → (p : ℕ) (r : Replaying) → slice_get rs p ≡ Some r → slice_index_or (map (λ (line : ProcessLine). line.name) lines) p [] ≡ r.head.name
name_at lines rs same p r at = ap (λ (names : List (List ℕ)). slice_index_or names p []) same ∙ by_place rs p r at where
  by_place : (rs : List Replaying) (p : ℕ) (r : Replaying) → slice_get rs p ≡ Some r → slice_index_or (map (λ (r : Replaying). r.head.name) rs) p [] ≡ r.head.name
  by_place [] p r at = cc
  by_place (s ∷ rs) zero r at = let same : s ≡ r = cc in ap (λ (r : Replaying). r.head.name) same
  by_place (s ∷ rs) (suc p) r at = by_place rs p r at

module _ (exact : ExactLogs) (ordered : Ordered) (stepwise : Stepwise) (possible : Possible) (numbers : LegalNumbers) (kept : IsKeptByEvents) (no_longer : AcceptedNoLonger)
    (lines : List ProcessLine) (start : List Replaying) (g : IsWholeGroup lines start) where
  abbrev heads : AllByRecursion IsAtHead start
  heads = recursion_from_All IsAtHead start g.at_heads

  abbrev fits : AllByRecursion (λ (r : Replaying). StateFits r.state) start
  fits = recursion_from_All (λ (r : Replaying). StateFits r.state) start g.fits

  length_lines : length lines ≡ length start
  length_lines = sym (length-map lines (λ (line : ProcessLine). line.name)) ∙ ap length g.names ∙ length-map start (λ (r : Replaying). r.head.name)

  size_is : processes_in_group (back_group lines start) ≡ length start
  size_is = length-map lines (λ (line : ProcessLine). line.name) ∙ length_lines

  -- the head of the log that is recorded is that of the log, in version 2
  head_is : (p : ℕ) (r : Replaying) → slice_get start p ≡ Some r → head_of_log (back_group lines start) p ≡ record r.head { version = Two }
  head_is p r at =
      let count : processes_in_group (back_group lines start) ≡ r.head.count =
      size_is ∙ g.whole ∙ sym (at_place (λ (r : Replaying). r.head.count ≡ group_count start) start (recursion_from_All (λ (r : Replaying). r.head.count ≡ group_count start) start g.replayers.one) p r at) in
      let number : p ≡ r.head.process = sym (process_is start g.replayers g.at_heads g.whole p r at) in
      let name = name_at lines start g.names p r at in
      ap (λ n. made n p (slice_index_or (map (λ (line : ProcessLine). line.name) lines) p [])) count
      ∙ ap (λ n. made r.head.count n (slice_index_or (map (λ (line : ProcessLine). line.name) lines) p [])) number
      ∙ ap (made r.head.count r.head.process) name where
        made : ℕ → ℕ → List ℕ → Head
        made count process name = record { version = Two; count = count; process = process; name = name }

  have_room : HaveRoom start (back_group lines start)
  have_room p within k =
      let r = element start p within in
      subst (λ (h : Head). length (head_bytes h ++ encodings Two 0 (of_node p (take k (events_of_replays start)))) ≤ most_log) (sym (head_is p r.0 r.1))
      (part_fits exact no_longer r.0 (at_place (λ (r : Replaying). StateFits r.state) start fits p r.0 r.1) (at_place IsAtHead start heads p r.0 r.1)
      (of_node p (take k (events_of_replays start))) (part_of ordered start g.fits p r.0 r.1 k))

  -- ---- all events

  -- the run reaches the end of the events
  record Ends (n k : ℕ) (steps : List RunStep) (es : List (NodeEvent Entry)) : Type 0 where
    after : List RunStep
    comes : after_items (back_group lines start) n (items_of_events es) (at_rest steps) ≡ at_rest after
    at : IsAt start (back_group lines start) (length (events_of_replays start)) after

  at_end : (k : ℕ) (steps : List RunStep) → drop k (events_of_replays start) ≡ [] → IsAt start (back_group lines start) k steps → IsAt start (back_group lines start) (length (events_of_replays start)) steps
  at_end k steps none at =
      let same : take k (events_of_replays start) ≡ take (length (events_of_replays start)) (events_of_replays start) = none_left (events_of_replays start) k none ∙ sym (take-length (events_of_replays start)) in
      record {
        states = λ p. at.states p ∙ ap (λ es. slice_get (states_from 0 start es) p) same;
        logs = λ p. at.logs p ∙ ap (of_node p) same;
        quiet = at.quiet;
      }

  -- one event more
  one_more : (e : NodeEvent Entry) (es : List (NodeEvent Entry)) (k : ℕ) (steps : List RunStep) → drop k (events_of_replays start) ≡ e ∷ es → IsAt start (back_group lines start) k steps
      → (after : List RunStep) × Moves (back_group lines start) steps (items_of e.node e.entry) after × IsAt start (back_group lines start) (suc k) after
  one_more e es k steps left at =
      let here = (next_of (events_of_replays start) k e es left).0 in
      let within : k ≤ length (events_of_replays start) = omega (arith, slice_get_within (events_of_replays start) k e here) in
      stepped possible start (back_group lines start) k e steps here (stepwise.steps start g.replayers g.fits k e here)
      (all_fit stepwise kept start g.replayers g.fits k within) (length_states 0 start (take k (events_of_replays start))) have_room at

  ends : (es : List (NodeEvent Entry)) (n k : ℕ) (steps : List RunStep) → drop k (events_of_replays start) ≡ es → IsAt start (back_group lines start) k steps → Ends n k steps es
  ends [] n k steps left at = record { after = steps; comes = refl; at = at_end k steps left at }
  ends (e ∷ es) n k steps left at =
      let one = one_more e es k steps left at in
      let first = one.1 (items_of_events es) n in
      let rest = ends es first.0 (suc k) one.0 (next_of (events_of_replays start) k e es left).1 one.2 in
      record { after = rest.after; comes = first.1 ∙ rest.comes; at = rest.at }

  -- the run of the first events, however many, makes steps after which nothing waits
  record IsFront (n : ℕ) (steps : List RunStep) (es : List (NodeEvent Entry)) : Type 0 where
    after : List RunStep
    comes : after_items (back_group lines start) n (items_of_events es) (at_rest steps) ≡ at_rest after
    quiet : AreQuiet (processes_in_group (back_group lines start)) (history_of_steps after)

  front : (j : ℕ) (es : List (NodeEvent Entry)) (n k : ℕ) (steps : List RunStep) → drop k (events_of_replays start) ≡ es → IsAt start (back_group lines start) k steps → IsFront n steps (take j es)
  front zero es n k steps left at = record { after = steps; comes = refl; quiet = at.quiet }
  front (suc j) [] n k steps left at = record { after = steps; comes = refl; quiet = at.quiet }
  front (suc j) (e ∷ es) n k steps left at =
      let one = one_more e es k steps left at in
      let first = one.1 (items_of_events (take j es)) n in
      let rest = front j es first.0 (suc k) one.0 (next_of (events_of_replays start) k e es left).1 one.2 in
      record { after = rest.after; comes = first.1 ∙ rest.comes; quiet = rest.quiet }

  at_start : IsAt start (back_group lines start) 0 []
  at_start = record {
    states = λ p. before_steps (back_group lines start) p ∙ ap (λ (ss : List State). slice_get ss p) (sym (stepwise.begins start));
    logs = λ p. refl;
    quiet = λ p. record { datagrams = refl; bytes = refl; signals = λ s first. refl; alive = refl };
  }

  whole_run : Ends 1 0 [] (events_of_replays start)
  whole_run = ends (events_of_replays start) 1 0 [] refl at_start

  nothing_between : (k p : ℕ) → NothingWaits (world_around (processes_in_group (back_group lines start)) (front_run lines start k).steps p)
  nothing_between k p =
      let f = front k (events_of_replays start) 1 0 [] refl at_start in
      subst (λ (done : RunProgress). NothingWaits (world_around (processes_in_group (back_group lines start)) done.steps p)) (sym f.comes) (nothing_waits (processes_in_group (back_group lines start)) f.after p (f.quiet p))

  -- ---- the schedule

  ranged : IncomingAreBytes (events_of_replays start) → AllByRecursion (IsRanged (length lines)) (events_of_replays start)
  ranged bytes = all_by_place (IsRanged (length lines)) (events_of_replays start) one where
    one : (k : ℕ) (e : NodeEvent Entry) → slice_get (events_of_replays start) k ≡ Some e → IsRanged (length lines) e
    one k e at =
        let s = stepwise.steps start g.replayers g.fits k e at in
        let within : k ≤ length (events_of_replays start) = omega (arith, slice_get_within (events_of_replays start) k e at) in
        let fit = all_fit stepwise kept start g.replayers g.fits k within e.node s.state s.stands in
        let n = numbers s.state e.entry fit s.legal in
        record {
          process = omega (arith, slice_get_within (states_of_nodes start k) e.node s.state s.stands, length_states 0 start (take k (events_of_replays start)), length_lines);
          thread = n.thread;
          signal = n.signal;
          incoming = at_place (λ (e : NodeEvent Entry). AreBytes e.entry.incoming) (events_of_replays start) (recursion_from_All (λ (e : NodeEvent Entry). AreBytes e.entry.incoming) (events_of_replays start) bytes) k e at;
        }

  are_processes : (lines : List ProcessLine) (rs : List Replaying) → map (λ (line : ProcessLine). line.name) lines ≡ map (λ (r : Replaying). r.head.name) rs → AllByRecursion IsAtHead rs
      → AllByRecursion (λ (line : ProcessLine). is_module_name line.«module» ≡ true) lines → AllByRecursion IsProcess lines
  are_processes [] rs same heads files = tt
  are_processes (line ∷ lines) [] same heads files = absurd (cc)
  are_processes (line ∷ lines) (r ∷ rs) same heads files =
      let name : line.name ≡ r.head.name = cc in
      let rest : map (λ (line : ProcessLine). line.name) lines ≡ map (λ (r : Replaying). r.head.name) rs = cc in
      (record { name = ap is_name name ∙ heads.0.head.named; file = files.0 }, are_processes lines rs rest heads.1 files.1)

  formed : (text : List ℕ) → Says lines start text → IncomingAreBytes (events_of_replays start) → IsSchedule (back lines start)
  formed text says bytes = record {
    formed = record {
      some = omega (arith, length_lines, g.some);
      most = omega (arith, length_lines, g.replayers.few);
      lines = All-from_recursion IsProcess lines (are_processes lines start g.names heads says.named);
      names = g.apart;
      items = all_in (length lines) (events_of_replays start) (ranged bytes);
    };
    runs = omega (arith, all_tries (events_of_replays start), leb-true (length (events_of_replays start)) most_runs says.few);
  }

  -- ---- the logs

  same_entries : (text : List ℕ) → Says lines start text → (p : ℕ) (r : Replaying) → slice_get start p ≡ Some r → entries_of_steps whole_run.after p ≡ entries_of r.left
  same_entries text says p r at =
      let all = whole_accepted r (at_place _ start says.whole p r at) in
      whole_run.at.logs p ∙ ap (of_node p) (take-length (events_of_replays start)) ∙ all_own ordered start g.fits p r at
      ∙ ap (λ n. take n (entries_of r.left)) all ∙ take-length (entries_of r.left)

  pub records_back : (text : List ℕ) → IncomingAreBytes (events_of_replays start) → text_or_refusal lines start ≡ Ok text → RecordsBack lines start text
  records_back text bytes is =
      let s = says lines start text is in
      let run_is : back_run lines start ≡ at_rest whole_run.after = whole_run.comes in
      let steps_are : (back_run lines start).steps ≡ whole_run.after = ap (λ done. done.steps) run_is in
      let same : (p : ℕ) (r : Replaying) → slice_get start p ≡ Some r → entries_of_steps (back_run lines start).steps p ≡ entries_of r.left =
      λ p r at. ap (λ (steps : List RunStep). entries_of_steps steps p) steps_are ∙ same_entries text s p r at in
      record {
        spelled = s.spelled;
        short = s.short;
        formed = formed text s bytes;
        idle = ap (λ done. done.idle) run_is;
        room = ap (λ done. done.full) run_is;
        between = nothing_between;
        same = same;
        heads = head_is;
        rest = λ p r at. whole_rest r (at_place _ start s.whole p r at);
        logs = λ p r at. ap (λ (h : Head). head_bytes h ++ encodings Two 0 (entries_of_steps (back_run lines start).steps p)) (head_is p r at)
            ∙ ap (λ (es : List Entry). head_bytes (record r.head { version = Two }) ++ encodings Two 0 es) (same p r at);
      }

pub converse : ExactLogs → Ordered → Stepwise → Possible → LegalNumbers → IsKeptByEvents → AcceptedNoLonger → Converse
converse exact ordered stepwise possible numbers kept no_longer lines start text g bytes is =
    records_back exact ordered stepwise possible numbers kept no_longer lines start g text bytes is
