-- Where a group is, and copies of it.
use Rattle.std.proofs.Common.{◌≡◌, ℕ, suc, ◌≤◌, Bool, List, [], ◌∷◌, ◌++◌, length, take, Option, Some, None, refl, sym, ap, subst, ◌∙◌, arith}
use Rattle.std.specs.Prelude.{Contains, IfSome, option_map}
use Rattle.std.specs.Borrow.{Bor}
use Rattle.std.specs.List.{items_where_true}
use Rattle.std.proofs.lemmas.Grind.{get_or_picked}
use Rattle.std.proofs.lemmas.List.Elements.{All-contains, All-push}
use Rattle.lib_calls.specs.declared.entry.Entry.{Entry}
use Rattle.group_order.specs.Order.{NodeEvent}
use Rattle.proc_replay.specs.Replaying.{Replaying}
use Rattle.group_state.specs.declared.stand.Stand.{Stand}
use Rattle.group_state.specs.Moves.{event_of, last_event_of}
use Rattle.group_state.specs.Place.{events_of_replays}
use Rattle.group_state.specs.inside.Stands.{AreSoundMemories, AreStands, IsStand, KeepsStands, SameStand, KeepsCheckpoints, replayers_from}
use Rattle.group_state.proofs.ReplaysAfter.{replayers_none}

abbrev replayers_at : List Replaying → ℕ → List Replaying
replayers_at start n = replayers_from 0 start (take n (events_of_replays start))

-- a copy stands where the group does
pub same_stand : (start : List Replaying) (stand copy : Stand) → SameStand stand copy → IsStand start stand → IsStand start copy
same_stand start stand copy same is = record {
  replayers = same.replayers ∙ is.replayers ∙ ap (replayers_at start) (sym same.at);
  within = omega (arith, same.at, is.within);
  last = ap (option_map event_of) same.last ∙ is.last ∙ ap (λ n. last_event_of (record { start = start; at = n })) (sym same.at);
  sound = subst AreSoundMemories (sym same.replayers) is.sound;
}

-- where it begins
pub first_stand : (start : List Replaying) (stand : Stand) → stand.replayers.items ≡ start → stand.at ≡ 0 → stand.last ≡ None → AreSoundMemories start → IsStand start stand
first_stand start stand replayers at last sound = record {
  replayers = replayers ∙ sym (replayers_none 0 start) ∙ ap (replayers_at start) (sym at);
  within = omega (arith, at);
  last = ap (option_map event_of) last ∙ ap (λ n. last_event_of (record { start = start; at = n })) (sym at);
  sound = subst AreSoundMemories (sym replayers) sound;
}

pub length_replayers : (i : ℕ) (rs : List Replaying) (es : List (NodeEvent Entry)) → length (replayers_from i rs es) ≡ length rs
length_replayers i [] es = refl
length_replayers i (r ∷ rs) es = ap suc (length_replayers (suc i) rs es)

-- a checkpoint, where there is one, is among those that are kept
pub kept_checkpoint : (start : List Replaying) (stands : List Stand) (o : Option (Bor Stand)) → IfSome o (λ s. Contains stands s.now) → AreStands start stands → IfSome o (λ s. IsStand start s.now)
kept_checkpoint start stands None among all = tt
kept_checkpoint start stands (Some s) among all = All-contains (IsStand start) stands s.now all among

-- wherever it stands it has as many replays
pub few_replayers : (start : List Replaying) (stand : Stand) → IsStand start stand → length start ≤ 16 → length stand.replayers.items ≤ 16
few_replayers start stand is few = omega (arith, ap length is.replayers, length_replayers 0 start (take stand.at (events_of_replays start)), few)

-- what a group keeps where it is
pub keeps_more : (old room : List Stand) (here copy : Stand) (new : List Stand) → KeepsCheckpoints old room → SameStand here copy → new ≡ room ++ copy ∷ [] → KeepsStands old here new
keeps_more old room here copy new still same is =
    λ start all stands. subst (AreStands start) (sym is) (All-push (IsStand start) room copy (still start all) (same_stand start here copy same stands))

pub keeps_rest : (old room : List Stand) (here : Stand) (new : List Stand) → KeepsCheckpoints old room → new ≡ room → KeepsStands old here new
keeps_rest old room here new still is = λ start all stands. subst (AreStands start) (sym is) (still start all)

-- those for which a test said `true`
pub picked_stand : (start : List Replaying) (tests : List Bool) (stands : List Stand) → AreStands start stands → AreStands start (items_where_true tests stands)
picked_stand start tests stands all k d within =
    let from = (get_or_picked tests stands k d within).1 in
    subst (IsStand start) (sym from.2) (all from.0 d from.1)
