-- The walk over all events of a group, one further event at a time.
use Rattle.std.proofs.Common.{◌≡◌, ◌∙◌, ◌+◌, ◌<◌, ◌≤◌, ◌^◌, ℕ, zero, suc, List, [], ◌∷◌, ◌++◌, Some, None, ap, arith, get_or, length, map, refl, subst, sym, take}
use Rattle.std.specs.FinMap as map
use Rattle.std.specs.Prelude.{slice_get}
use Rattle.std.proofs.lemmas.Grind.{get_or_default_zero}
use Rattle.std.proofs.lemmas.List.{length-map, length-take, take_all, take_more}
use Rattle.std.proofs.lemmas.Option.{get_or_from_slice_get, slice_get_within}
use Rattle.lib_calls.specs.declared.entry.Entry.{Entry}
use Rattle.group_order.specs.Order.{NodeEvent}
use Rattle.proc_replay.specs.Replaying.{Replaying}
use Rattle.group_state.specs.declared.event.GroupEvent.{GroupEvent}
use Rattle.group_state.specs.Laws.{Ordered, Stepwise}
use Rattle.group_state.specs.Moves.{GroupMoves, event_of}
use Rattle.group_state.specs.Place.{AreGroupReplays, ReplaysFit, GroupPlace, events_of_replays, states_of_nodes, states_from}
use Rattle.byte_streams.specs.Laws.{NoSendIsAbsent}
use Rattle.byte_streams.specs.Traffic.{SendOrReceive}
use Rattle.streams_command.specs.declared.telling.Told.{Told}
use Rattle.streams_command.specs.inside.Meanings.{IsToldOf}
use Rattle.streams_command.specs.Streams.{process_at, traffic_of_events}
use Rattle.streams_command.proofs.ToldByEvents.{few, foreign_within, odd_within, one_behind, traffic_at}
use Rattle.streams_command.proofs.NoClockTwice.{unsent}

-- ---- where events end, and how many states there are

past : {X : Type 0} (xs : List X) (n : ℕ) → None ≡ slice_get xs n → length xs ≤ n
past [] n none = omega arith
past (x ∷ xs) zero none = cc
past (x ∷ xs) (suc n) none = let rest = past xs n none in omega (arith, rest)

count_states : (node : ℕ) (rs : List Replaying) (es : List (NodeEvent Entry)) → length (states_from node rs es) ≡ length rs
count_states node [] es = refl
count_states node (r ∷ rs) es = ap suc (count_states (suc node) rs es)

-- ---- the walk

-- the walk of these logs has reached a position, and what was sent and taken up to there was told
pub record WalkedTo (start : List Replaying) (here : GroupPlace) (t : Told) : Type 0 where
  pub same : here.start ≡ start
  pub told : IsToldOf t (traffic_of_events start (take here.at (events_of_replays start)))

pub none_walked : (start : List Replaying) (here : GroupPlace) (told : Told) → here ≡ record { start = start; at = 0 } → IsToldOf told [] → WalkedTo start here told
none_walked start here told is none = record {
  same = ap (λ (p : GroupPlace). p.start) is;
  told = subst (λ (n : ℕ). IsToldOf told (traffic_of_events start (take n (events_of_replays start)))) (sym (ap (λ (p : GroupPlace). p.at) is)) none;
}

-- there is no event more
pub all_walked : (start : List Replaying) (old new : GroupPlace) (told : Told) → WalkedTo start old told → GroupMoves old new None → IsToldOf told (traffic_of_events start (events_of_replays start))
all_walked start old new told so_far moves =
    let none : None ≡ slice_get (events_of_replays start) old.at = moves.gives ∙ ap (λ (s : List Replaying). slice_get (events_of_replays s) old.at) so_far.same in
    subst (λ (es : List (NodeEvent Entry)). IsToldOf told (traffic_of_events start es)) (take_all old.at (events_of_replays start) (past (events_of_replays start) old.at none)) so_far.told

-- the event after the position: its node is there, its send was not told, and it can be counted
pub record IsNext (start : List Replaying) (old new : GroupPlace) (event : GroupEvent) (t : Told) : Type 0 where
  pub at : slice_get (events_of_replays start) old.at ≡ Some (event_of event)
  pub new_at : new.at ≡ old.at + 1
  pub same : new.start ≡ start
  pub within : event.node < length start
  pub unsent : map.get t.streams.sends (process_at start event.node, event.entry.clock) ≡ None
  pub odd : t.odd + 1 < 2 ^ 64
  pub foreign : t.foreign + 1 < 2 ^ 64

pub is_next : Ordered → Stepwise → NoSendIsAbsent → (start : List Replaying) (old new : GroupPlace) (event : GroupEvent) (told : Told) → AreGroupReplays start → ReplaysFit new.start → new.at < 2 ^ 64
    → WalkedTo start old told → GroupMoves old new (Some event) → IsNext start old new event told
is_next ordered stepwise free start old new event told replayers fits bound so_far moves =
    let es = events_of_replays start in
    let e = event_of event in
    let traffic = traffic_of_events start (take old.at es) in
    let at : slice_get es old.at ≡ Some e = ap (λ (s : List Replaying). slice_get (events_of_replays s) old.at) (sym so_far.same) ∙ sym moves.gives in
    let more : new.at ≡ old.at + 1 = ap (λ (p : GroupPlace). p.at) moves.place in
    let same : new.start ≡ start = ap (λ (p : GroupPlace). p.start) moves.place ∙ so_far.same in
    let first_fits = subst ReplaysFit same fits in
    let step = stepwise.steps start replayers first_fits old.at e at in
    let among = slice_get_within (states_of_nodes start old.at) event.node step.state step.stands in
    let within : event.node < length start = omega (arith, among, count_states 0 start (take old.at es)) in
    let some = few start (take old.at es) in
    let front = length-take old.at es in
    record {
      at = at;
      new_at = more;
      same = same;
      within = within;
      unsent = free told.streams traffic (process_at start event.node) event.entry.clock so_far.told.streams
          (unsent start es old.at e replayers.ascends within (ordered start first_fits).0.sorted at);
      odd = omega (arith, so_far.told.odd, odd_within traffic, some, front, more, bound);
      foreign = omega (arith, so_far.told.foreign, foreign_within traffic, some, front, more, bound);
    }

pub one_walked : (start : List Replaying) (old new : GroupPlace) (event : GroupEvent) (told later : Told) → WalkedTo start old told → IsNext start old new event told
    → ((early : List SendOrReceive) → IsToldOf told early → IsToldOf later (traffic_at start (event_of event) ++ early)) → WalkedTo start new later
one_walked start old new event told later so_far next tells =
    let e = event_of event in
    let es = events_of_replays start in
    let more : traffic_at start e ++ traffic_of_events start (take old.at es) ≡ traffic_of_events start (take new.at es) =
    one_behind start (take old.at es) e
    ∙ ap (λ f. traffic_of_events start (take old.at es ++ f ∷ [])) (sym (get_or_from_slice_get es old.at e e next.at))
    ∙ ap (traffic_of_events start) (sym (take_more es old.at e (slice_get_within es old.at e next.at)) ∙ ap (λ (n : ℕ). take n es) (sym next.new_at)) in
    record {
      same = next.same;
      told = subst (IsToldOf later) more (tells (traffic_of_events start (take old.at es)) so_far.told);
    }

-- ---- the numbers of the processes

pub process_read : (start : List Replaying) (processes : List ℕ) (node process : ℕ) → processes ≡ map (λ r. r.head.process) start → node < length start → process ≡ get_or processes node process
    → process ≡ process_at start node
process_read start processes node process are within read =
    let among : node < length processes = omega (arith, within, ap length are, length-map start (λ (r : Replaying). r.head.process)) in
    read ∙ get_or_default_zero processes node process among ∙ ap (λ l. get_or l node 0) are
