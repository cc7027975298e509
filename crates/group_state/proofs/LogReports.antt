-- What is said of all logs, log after log.
use Rattle.std.proofs.Common.{◌≡◌, ℕ, suc, ◌+◌, ◌<◌, ◌^◌, Bool, true, false, if◌then◌else◌, List, [], ◌∷◌, ◌++◌, length, map, append_assoc, length-append, refl, sym, ap, subst, ◌∙◌, arith}
use Rattle.std.specs.List.{All}
use Rattle.std.proofs.lemmas.List.{length-map}
use Rattle.std.proofs.lemmas.List.Elements.{All-head, All-tail, recursion_from_All}
use Rattle.lib_calls.specs.declared.entry.Entry.{Entry}
use Rattle.guest_process.specs.Fits.{StateFits}
use Rattle.guest_process.specs.OneEvent.{IsKeptByEvents, Rises}
use Rattle.proc_replay.specs.Course.{entries_ahead}
use Rattle.proc_replay.specs.Replaying.{Replaying}
use Rattle.group_order.specs.Order.{NodeEvent, events_from, insert_event, node_event, event_precedes, sort_events}
use Rattle.group_order.specs.Sends.{FindsOneMoreSend}
use Rattle.std.specs.Vec.Iter.{into_iter_len}
use Rattle.group_state.specs.declared.report.ReportCourse.{ReportCourse}
use Rattle.group_state.specs.declared.report.ReportLine.{ReportLine}
use Rattle.group_state.specs.declared.tally.GroupCounts.{GroupCounts}
use Rattle.group_state.specs.Place.{AreGroupReplays, ReplaysFit, entry_clock, events_of_replays, group_count}
use Rattle.group_state.specs.Report.{Reporting, accepted_in, all_accepted_events, report_line, reporting}
use Rattle.group_state.specs.inside.Reporting.{IsReportCourse, left_of, reporting_of_course}
use Rattle.group_state.specs.Tally.{AcceptedEvent}
use Rattle.group_state.specs.inside.Tallying.{AreNewEvents, HasTallyRoomFor, GroupTallying, counts_of, nothing_tallied, with_all_accepted}
use Rattle.group_state.proofs.EventCounts.{all_new, first_counted, first_new, first_room, has_room}
use Rattle.group_state.proofs.TallyCounts.{counted}

-- ---- the order has as many events as all logs have

length_insert : (a : NodeEvent Entry) (es : List (NodeEvent Entry)) → length (insert_event entry_clock a es) ≡ suc (length es)
length_insert a [] = refl
length_insert a (b ∷ es) = by_test (length_insert a es) (event_precedes entry_clock b a)
  where
    by_test : length (insert_event entry_clock a es) ≡ suc (length es) → (t : Bool) → length (if t then b ∷ insert_event entry_clock a es else a ∷ b ∷ es) ≡ suc (suc (length es))
    by_test more true = ap suc more
    by_test more false = refl

length_sort : (es : List (NodeEvent Entry)) → length (sort_events entry_clock es) ≡ length es
length_sort [] = refl
length_sort (a ∷ es) = length_insert a (sort_events entry_clock es) ∙ ap suc (length_sort es)

abbrev one : ℕ → Entry → AcceptedEvent
one p e = record { process = p; entry = e }

length_from : (rs : List Replaying) (node : ℕ) → length (events_from node (map entries_ahead rs)) ≡ length (all_accepted_events rs)
length_from [] node = refl
length_from (r ∷ rs) node =
    omega (
      arith,
      length-append (map (node_event node) (entries_ahead r)) (events_from (suc node) (map entries_ahead rs)),
      length-append (accepted_in r) (all_accepted_events rs),
      length-map (entries_ahead r) (node_event node),
      length-map (entries_ahead r) (one r.head.process),
      length_from rs (suc node),
    )

as_many : (start : List Replaying) → length (events_of_replays start) ≡ length (all_accepted_events start)
as_many start = length_sort (events_from 0 (map entries_ahead start)) ∙ length_from start 0

-- ---- log after log

all_new_at_first : FindsOneMoreSend → Rises → IsKeptByEvents → (start : List Replaying) → AreGroupReplays start → ReplaysFit start → AreNewEvents (nothing_tallied (group_count start)) (all_accepted_events start)
all_new_at_first finds rises kept start replayers fits = all_new finds rises kept (group_count start) start replayers.ascends (recursion_from_All (λ r. StateFits r.state) start fits)

same_reporting : (rs ss : List Replaying) (ls ms : List ReportLine) (n m : GroupCounts) → rs ≡ ss → ls ≡ ms → n ≡ m
    → ◌≡◌ {A = Reporting} (record { left = rs; lines = ls; counts = n }) (record { left = ss; lines = ms; counts = m })
same_reporting rs ss ls ms n m p q r = rw (p, q, r) refl

-- none was replayed yet
pub record IsBegun (start : List Replaying) (c : ReportCourse) : Type 0 where
  pub left : left_of c ≡ start
  pub len : into_iter_len c.left ≡ length (left_of c)
  pub tally : c.tally ≡ nothing_tallied (group_count start)
  pub lines : c.lines.items ≡ []

pub course_begun : FindsOneMoreSend → Rises → IsKeptByEvents → (start : List Replaying) (c : ReportCourse) → IsBegun start c → AreGroupReplays start → ReplaysFit start → length (events_of_replays start) < 2 ^ 64 → IsReportCourse c
course_begun finds rises kept start c begun replayers fits few =
    let many = as_many start in
    let t : GroupTallying = nothing_tallied (group_count start) in
    let room : HasTallyRoomFor t (all_accepted_events start) = has_room (all_accepted_events start) t (omega (arith, many, few)) (omega (arith, many, few)) in record {
      len = begun.len;
      new = subst (λ (t : GroupTallying). AreNewEvents t (all_accepted_events (left_of c))) (sym begun.tally)
          (subst (λ (rs : List Replaying). AreNewEvents t (all_accepted_events rs)) (sym begun.left) (all_new_at_first finds rises kept start replayers fits));
      room = subst (λ (t : GroupTallying). HasTallyRoomFor t (all_accepted_events (left_of c))) (sym begun.tally)
          (subst (λ (rs : List Replaying). HasTallyRoomFor t (all_accepted_events rs)) (sym begun.left) room);
      fresh = subst (All (λ r. r.state.events ≡ 0)) (sym begun.left) replayers.fresh;
    }

pub reporting_begun : FindsOneMoreSend → Rises → IsKeptByEvents → (start : List Replaying) (c : ReportCourse) → IsBegun start c → AreGroupReplays start → ReplaysFit start → reporting_of_course c ≡ reporting start
reporting_begun finds rises kept start c begun replayers fits =
    same_reporting _ _ _ _ _ _ begun.left
    (ap (λ (ls : List ReportLine). ls ++ map report_line (left_of c)) begun.lines ∙ ap (map report_line) begun.left)
    (ap (λ (t : GroupTallying). counts_of (with_all_accepted t (all_accepted_events (left_of c)))) begun.tally
    ∙ ap (λ (rs : List Replaying). counts_of (with_all_accepted (nothing_tallied (group_count start)) (all_accepted_events rs))) begun.left
    ∙ counted finds (group_count start) (all_accepted_events start) (all_new_at_first finds rises kept start replayers fits))

-- the next log is r's
module _ (c : ReportCourse) (r : Replaying) (rest : List Replaying) (k : IsReportCourse c) (next : left_of c ≡ r ∷ rest) where
  news : AreNewEvents c.tally (all_accepted_events (r ∷ rest))
  news = subst (λ (rs : List Replaying). AreNewEvents c.tally (all_accepted_events rs)) next k.new

  rooms : HasTallyRoomFor c.tally (all_accepted_events (r ∷ rest))
  rooms = subst (λ (rs : List Replaying). HasTallyRoomFor c.tally (all_accepted_events rs)) next k.room

  pub next_fresh : r.state.events ≡ 0
  next_fresh = All-head (λ r. r.state.events ≡ 0) r rest (subst (All (λ r. r.state.events ≡ 0)) next k.fresh)

  pub next_new : AreNewEvents c.tally (accepted_in r)
  next_new = (first_new (accepted_in r) (all_accepted_events rest) c.tally news).0

  pub next_room : HasTallyRoomFor c.tally (accepted_in r)
  next_room = (first_room (accepted_in r) (all_accepted_events rest) c.tally rooms).0

-- and then it was replayed
module _ (c new : ReportCourse) (r : Replaying) (k : IsReportCourse c) (next : left_of c ≡ r ∷ left_of new) (tallied : new.tally ≡ with_all_accepted c.tally (accepted_in r)) where
  pub course_more : into_iter_len new.left + 1 ≡ into_iter_len c.left → IsReportCourse new
  course_more len = record {
    len = omega (arith, len, k.len, ap length next);
    new = subst (λ (t : GroupTallying). AreNewEvents t (all_accepted_events (left_of new))) (sym tallied)
        (first_new (accepted_in r) (all_accepted_events (left_of new)) c.tally (news c r (left_of new) k next)).1;
    room = subst (λ (t : GroupTallying). HasTallyRoomFor t (all_accepted_events (left_of new))) (sym tallied)
        (first_room (accepted_in r) (all_accepted_events (left_of new)) c.tally (rooms c r (left_of new) k next)).1;
    fresh = All-tail (λ r. r.state.events ≡ 0) r (left_of new) (subst (All (λ r. r.state.events ≡ 0)) next k.fresh);
  }

  pub reporting_more : (line : ReportLine) → new.lines.items ≡ c.lines.items ++ line ∷ [] → line ≡ report_line r
      → reporting_of_course c ≡ record (reporting_of_course new) { left = r ∷ left_of new }
  reporting_more line pushed said =
      let rest = left_of new in
      same_reporting _ _ _ _ _ _ next
      (ap (λ (rs : List Replaying). c.lines.items ++ map report_line rs) next
      ∙ ap (λ (l : ReportLine). c.lines.items ++ l ∷ map report_line rest) (sym said)
      ∙ sym (append_assoc c.lines.items (line ∷ []) (map report_line rest))
      ∙ ap (λ (ls : List ReportLine). ls ++ map report_line rest) (sym pushed))
      (ap (λ (rs : List Replaying). counts_of (with_all_accepted c.tally (all_accepted_events rs))) next
      ∙ ap counts_of (first_counted (accepted_in r) (all_accepted_events rest) c.tally ∙ ap (λ (t : GroupTallying). with_all_accepted t (all_accepted_events rest)) (sym tallied)))
