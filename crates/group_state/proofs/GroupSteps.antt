-- A group's step: the node that comes next has its turn.
use Rattle.std.proofs.Common.{◌≡◌, ℕ, ◌+◌, ◌-◌, ◌<◌, List, [], ◌∷◌, ◌++◌, map, length, take, get_or, set, Option, Some, refl, sym, ap, subst, ◌∙◌, add-one, arith}
use Rattle.std.specs.Prelude.{option_map, slice_get}
use Rattle.std.specs.List.{swap, swap_remove}
use Rattle.std.proofs.lemmas.List.{get_or-set_same, length-set, map-append, map-set, take_more, take_more_set}
use Rattle.std.proofs.lemmas.List.Elements.{All-set}
use Rattle.std.proofs.lemmas.Option.{get_or_from_slice_get, slice_get_within}
use Rattle.guest_memory.specs.Memory.{IsMemory}
use Rattle.lib_calls.specs.Entry.{entry_of}
use Rattle.lib_calls.specs.declared.entry.Entry.{Entry}
use Rattle.lib_calls.specs.declared.entry.EntryView.{EntryView}
use Rattle.guest_process.specs.OneEvent.{IsKeptByEvents, Rises as AreRising}
use Rattle.group_order.specs.Heads.{IsFirstNode}
use Rattle.group_order.specs.Order.{AreMergedOrders, node_event}
use Rattle.proc_replay.specs.Course.{AreTurns}
use Rattle.proc_replay.specs.Replaying.{Makes, Replaying, after_replay_turn, turn}
use Rattle.proc_replay.specs.Meanings.{move_of}
use Rattle.proc_replay.specs.declared.turn.Turn.{Turn}
use Rattle.proc_replay.specs.declared.turn.Turn.TheVariants as code
use Rattle.group_state.specs.declared.stand.Stand.{Stand}
use Rattle.group_state.specs.inside.Turns.{NodeTurns, head_of_replay}
use Rattle.group_state.specs.Moves.{event_before, event_of}
use Rattle.group_state.specs.Place.{ReplaysFit, events_of_replays}
use Rattle.group_state.specs.inside.Stands.{AreSoundMemories, IsStand, replayers_from}
use Rattle.group_state.proofs.AheadInOrder.{goes}
use Rattle.group_state.proofs.Swaps.{put_back}

-- the node's replay is taken out, has its turn at the end of the list, and is put back
pub turned : (old : List Replaying) (node last : ℕ) (taken replayer : Replaying) (removed pushed new : List Replaying) → node < length old → last ≡ length old - 1
    → taken ≡ get_or old node taken → removed ≡ swap_remove old node taken → pushed ≡ removed ++ replayer ∷ [] → new ≡ swap pushed node last
    → replayer ≡ after_replay_turn taken → NodeTurns old node new
turned old node last taken replayer removed pushed new within last_is taken_is removed_is pushed_is new_is replayer_is r at =
    new_is ∙ ap (λ l. swap l node last) (pushed_is ∙ ap (λ l. l ++ replayer ∷ []) removed_is)
    ∙ ap (swap (swap_remove old node taken ++ replayer ∷ []) node) last_is
    ∙ put_back old node taken replayer within
    ∙ ap (set old node) (replayer_is ∙ ap after_replay_turn (taken_is ∙ get_or_from_slice_get old node r taken at))

-- what the turn of the node that comes next leaves
pub record Forwarded (start replayers new : List Replaying) (heads : List (Option ℕ)) (at node : ℕ) (t : Turn) : Type 0 where
  pub entry : Entry
  pub told : move_of t ≡ Makes entry
  pub next : slice_get (events_of_replays start) at ≡ Some (node_event node entry)
  pub stand : new ≡ replayers_from 0 start (take (at + 1) (events_of_replays start))
  pub fits : node < length new
  pub within : at < length (events_of_replays start)
  pub merged : (x : Replaying) → x ≡ get_or new node x → set heads node (head_of_replay x) ≡ map head_of_replay new
  pub sound : AreSoundMemories replayers → (x : Replaying) → x ≡ get_or new node x → IsMemory x.state.store.memory → AreSoundMemories new

pub forwarded : AreMergedOrders Entry → AreRising → IsKeptByEvents → AreTurns → (start replayers new : List Replaying) (heads : List (Option ℕ)) (at node : ℕ) (t : Turn) (seen : Replaying)
    → ReplaysFit start → replayers ≡ replayers_from 0 start (take at (events_of_replays start)) → heads ≡ map head_of_replay replayers → IsFirstNode heads node → seen ≡ get_or replayers node seen → move_of t ≡ turn seen → NodeTurns replayers node new
    → Forwarded start replayers new heads at node t
forwarded merging rising kept course start replayers new heads at node t seen fits stand are first seen_is tells turns =
    let g = goes merging rising kept course start fits at node (subst (λ h. IsFirstNode h node) (are ∙ ap (map head_of_replay) stand) first) in
    let here : slice_get replayers node ≡ Some g.replayer = ap (λ ps. slice_get ps node) stand ∙ g.here in
    let within : node < length replayers = slice_get_within replayers node g.replayer here in
    let new_is : new ≡ set replayers node (after_replay_turn g.replayer) = turns g.replayer here in
    record {
      entry = g.entry;
      told = tells ∙ ap turn (seen_is ∙ get_or_from_slice_get replayers node g.replayer seen here) ∙ g.makes;
      next = g.next;
      stand = new_is ∙ ap (λ ps. set ps node (after_replay_turn g.replayer)) stand ∙ g.more;
      fits = omega (arith, ap length new_is, length-set replayers node (after_replay_turn g.replayer), within);
      within = g.within;
      merged = λ x is.
          let same : x ≡ after_replay_turn g.replayer = is ∙ ap (λ ps. get_or ps node x) new_is ∙ get_or-set_same replayers node (after_replay_turn g.replayer) x within in
          ap (λ h. set h node (head_of_replay x)) are ∙ ap (λ y. set (map head_of_replay replayers) node (head_of_replay y)) same ∙ sym (map-set head_of_replay replayers node (after_replay_turn g.replayer)) ∙ ap (map head_of_replay) (sym new_is);
      sound = λ all x is memory.
          let same : x ≡ after_replay_turn g.replayer = is ∙ ap (λ ps. get_or ps node x) new_is ∙ get_or-set_same replayers node (after_replay_turn g.replayer) x within in
          subst AreSoundMemories (sym new_is) (All-set (λ (r : Replaying). IsMemory r.state.store.memory) replayers node (after_replay_turn g.replayer) (subst (λ (r : Replaying). IsMemory r.state.store.memory) same memory) all);
    }

same_entry : (e f : Entry) → Makes e ≡ Makes f → e ≡ f
same_entry e f same = cc

pub given : (start replayers new : List Replaying) (heads : List (Option ℕ)) (at node : ℕ) (t : Turn) (v : EntryView) → Forwarded start replayers new heads at node t → t ≡ code.Event v
    → Some (node_event node (entry_of v)) ≡ slice_get (events_of_replays start) at
given start replayers new heads at node t v f is =
    ap (λ e. Some (node_event node e)) (same_entry (entry_of v) f.entry (ap move_of (sym is) ∙ f.told)) ∙ sym f.next

pub is_event : (t : Turn) (e : Entry) → move_of t ≡ Makes e → ((v : EntryView) → t ≡ code.Event v → ⊥) → ⊥
is_event (code.Event v) e is not = not v refl
is_event code.LogEnd e is not = cc
is_event (code.Diverged at why) e is not = cc

-- so the group is at the next position
pub stands_on : (start was new : List Replaying) (heads : List (Option ℕ)) (at node : ℕ) (t : Turn) (v : EntryView) (stand : Stand) → Forwarded start was new heads at node t → t ≡ code.Event v
    → stand.replayers.items ≡ new → stand.at ≡ at + 1 → stand.last ≡ Some (record { node = node; entry = v }) → AreSoundMemories new → IsStand start stand
stands_on start was new heads at node t v stand f is replayers at_is last_is sound = record {
  replayers = replayers ∙ f.stand ∙ ap (λ n. replayers_from 0 start (take n (events_of_replays start))) (sym at_is);
  within = omega (arith, at_is, f.within);
  last = ap (option_map event_of) last_is ∙ given start was new heads at node t v f is ∙ sym (ap (event_before (events_of_replays start)) (at_is ∙ add-one at));
  sound = subst AreSoundMemories (sym replayers) sound;
}

-- ---- the heads of some replays

pub headed : (replayers : List Replaying) (node : ℕ) (replayer : Replaying) (merge more : List (Option ℕ)) (h : Option ℕ) → node < length replayers → length merge ≡ length replayers
    → replayer ≡ get_or replayers node replayer → h ≡ head_of_replay replayer → more ≡ set merge node h → take node merge ≡ map head_of_replay (take node replayers) → take (node + 1) more ≡ map head_of_replay (take (node + 1) replayers)
headed replayers node replayer merge more h within size replayer_is h_is more_is so_far =
    ap (take (node + 1)) more_is
    ∙ take_more_set merge node h (omega (arith, within, size))
    ∙ ap (λ l. l ++ h ∷ []) so_far
    ∙ ap (λ o. map head_of_replay (take node replayers) ++ o ∷ []) (h_is ∙ ap head_of_replay replayer_is)
    ∙ sym (map-append head_of_replay (take node replayers) (get_or replayers node replayer ∷ []))
    ∙ ap (map head_of_replay) (sym (take_more replayers node replayer within))
