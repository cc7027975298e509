-- A log of the recording has room: in version 2 the entries of a log take no more bytes than in the log itself.
use Rattle.std.proofs.Common.{◌≡◌, ℕ, ◌+◌, ◌≤◌, List, ◌++◌, length, length-append, take, Some, refl, ap, subst, ◌∙◌, arith}
use Rattle.std.specs.Prelude.{slice_get}
use Rattle.lib_calls.specs.declared.entry.Entry.{Entry}
use Rattle.call_log.specs.declared.version.Version.{Version}
use Rattle.call_log.specs.declared.version.Version.TheVariants.{One, Two}
use Rattle.call_log.specs.Entry.{encodings}
use Rattle.call_log.specs.Head.{Head, head_bytes}
use Rattle.call_log.specs.Limits.{most_log}
use Rattle.call_log.specs.Laws.{ExactLogs}
use Rattle.call_log.specs.Log.{HoldsEntries, Unread, entries_of, rest_of_log}
use Rattle.guest_process.specs.Fits.{StateFits}
use Rattle.guest_process.specs.Replay.{accepted}
use Rattle.group_order.specs.Order.{of_node}
use Rattle.proc_replay.specs.Course.{entries_ahead}
use Rattle.proc_replay.specs.Replaying.{Replaying}
use Rattle.proc_replay.specs.Sizes.{AcceptedNoLonger}
use Rattle.group_state.specs.Laws.{Ordered}
use Rattle.group_state.specs.Place.{ReplaysFit, events_of_replays}
use Rattle.proc_replay.specs.AtHead.{IsAtHead}
use Rattle.schedule_back.proofs.NodeFronts.{IsFront, front, list_at, take_within}

-- ---- heads

-- the head in version 2, which is as long as in the other
pub same_length : (h : Head) → length (head_bytes (record h { version = Two })) ≡ length (head_bytes h)
unfolding head_bytes
same_length h = by_version h.version where
  by_version : (v : Version) → length (head_bytes (record h { version = Two })) ≡ length (head_bytes (record h { version = v }))
  by_version One = refl
  by_version Two = refl

-- ---- what a log has

-- the entries of a log at its head, as they are spelled there
pub held : ExactLogs → (r : Replaying) → HoldsEntries r.left (entries_of r.left) (rest_of_log r.left)
held exact r = (exact.all r.left (entries_of r.left) (rest_of_log r.left)).1 (refl, refl)

-- what a node has among all events of the order is what is accepted of its log
pub all_own : Ordered → (start : List Replaying) → ReplaysFit start → (p : ℕ) (r : Replaying) → slice_get start p ≡ Some r → of_node p (events_of_replays start) ≡ entries_ahead r
all_own ordered start fits p r at = (ordered start fits).0.own p ∙ list_at entries_ahead start p r at

-- and among the first of them, these of its entries, which are accepted
pub record IsPart (r : Replaying) (part : List Entry) : Type 0 where
  pub count : ℕ
  pub within : count ≤ accepted r.state (entries_of r.left)
  pub is : part ≡ take count (entries_of r.left)

pub part_of : Ordered → (start : List Replaying) → ReplaysFit start → (p : ℕ) (r : Replaying) → slice_get start p ≡ Some r → (k : ℕ) → IsPart r (of_node p (take k (events_of_replays start)))
part_of ordered start fits p r at k =
    let f : IsFront (of_node p (take k (events_of_replays start))) (entries_ahead r) = subst (IsFront (of_node p (take k (events_of_replays start)))) (all_own ordered start fits p r at) (front p k (events_of_replays start)) in
    let inner = take_within f.count (accepted r.state (entries_of r.left)) (entries_of r.left) f.within in
    record { count = f.count; within = inner.1; is = f.is ∙ inner.0 }

-- ---- room

pub part_fits : ExactLogs → AcceptedNoLonger → (r : Replaying) → StateFits r.state → IsAtHead r → (part : List Entry) → IsPart r part
    → length (head_bytes (record r.head { version = Two }) ++ encodings Two 0 part) ≤ most_log
part_fits exact no_longer r fits at_head part p =
    let es = entries_of r.left in
    let h = held exact r in
    let shorter : length (encodings Two r.state.clock (take p.count es)) ≤ length (encodings r.left.version r.state.clock es) = no_longer r.state es r.left.version p.count fits h.shaped p.within in
    let start_is : r.state.clock ≡ 0 = at_head.clock in
    let last_is : r.left.last ≡ 0 = ap (λ (u : Unread). u.last) at_head.left in
    let spelled : length r.left.bytes ≡ length (encodings r.left.version 0 es) + length (rest_of_log r.left) =
    ap length h.spelled ∙ ap (λ n. length (encodings r.left.version n es ++ rest_of_log r.left)) last_is ∙ length-append (encodings r.left.version 0 es) (rest_of_log r.left) in
    let from_zero : length (encodings Two 0 (take p.count es)) ≤ length (encodings r.left.version 0 es) =
    subst (λ n. length (encodings Two n (take p.count es)) ≤ length (encodings r.left.version n es)) start_is shorter in
    let part_is : length (encodings Two 0 part) ≡ length (encodings Two 0 (take p.count es)) = ap (λ l. length (encodings Two 0 l)) p.is in
    omega (arith, length-append (head_bytes (record r.head { version = Two })) (encodings Two 0 part), same_length r.head, part_is, from_zero, spelled, at_head.within)
