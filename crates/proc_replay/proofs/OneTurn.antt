-- One turn of a replay: it makes the event of the next entry, or it stands.
use Rattle.std.proofs.Common.{◌≡◌, ◌⊎◌, inl, inr, ℕ, suc, ◌+◌, ◌≤◌, List, [], ◌∷◌, length, take, Option, Some, None, refl, sym, ap, ◌∙◌, arith}
use Rattle.lib_calls.specs.declared.entry.Entry.{Entry}
use Rattle.call_log.specs.Limits.{least_entry}
use Rattle.call_log.specs.Log.{Unread, entry_at, entries_of, rest_of_log}
use Rattle.call_log.specs.Walk.{IsEndOfLog, EntryStep}
use Rattle.guest_process.specs.declared.divergence.Divergence.{Divergence}
use Rattle.guest_process.specs.EventCount.{CountsEvents}
use Rattle.guest_process.specs.Legal.{reason}
use Rattle.guest_process.specs.Next.{next}
use Rattle.guest_process.specs.declared.verdict.Verdict.TheVariants.{Diverged}
use Rattle.guest_process.specs.Replay.{ReplayReach, accepted, left_over, reach_of_entries, reach_with_entry, state_after, verdict_of}
use Rattle.guest_process.specs.State.{State}
use Rattle.proc_replay.specs.Replaying.{Replaying, Makes, Ends, Diverges, after_replay_turn, after_at, move_by, moved, turn, turn_at}
use Rattle.proc_replay.specs.Course.{TellsVerdict, entries_ahead, further_reach, outcome_of_replay, replay_outcome_at, outcome_by}

-- the turn makes the event of this entry
pub record Goes (r : Replaying) : Type 0 where
  pub entry : Entry
  pub behind : Unread
  pub legal : reason r.state entry ≡ None
  pub shorter : length behind.bytes + least_entry ≤ length r.left.bytes
  pub entries : entries_of r.left ≡ entry ∷ entries_of behind
  pub rest : rest_of_log r.left ≡ rest_of_log behind
  pub makes : turn r ≡ Makes entry
  pub moves : after_replay_turn r ≡ record { head = r.head; state = next r.state entry; left = behind }

-- the turn makes no event, and tells the verdict
pub record Stands (r : Replaying) : Type 0 where
  pub none : accepted r.state (entries_of r.left) ≡ 0
  pub stays : after_replay_turn r ≡ r
  pub tells : TellsVerdict (turn r) r.left.bytes (outcome_of_replay r).verdict

pub cases : EntryStep → IsEndOfLog → (r : Replaying) → Goes r ⊎ Stands r
cases step end r = by_entry (entry_at r.left) refl
  where
    by_reason : (e : Entry) (behind : Unread) → entry_at r.left ≡ Some (e, behind) → (o : Option Divergence) → reason r.state e ≡ o → Goes r ⊎ Stands r
    by_reason e behind found None legal =
        let here = step r.left e behind found in
        inl (record {
          entry = e;
          behind = behind;
          legal = legal;
          shorter = here.shorter;
          entries = here.entries;
          rest = here.rest;
          makes = ap (turn_at r.state) found ∙ ap (move_by r.state e) legal;
          moves = ap (after_at r) found ∙ ap (moved r e behind) legal;
        })
    by_reason e behind found (Some why) differs =
        let here = step r.left e behind found in
        let turns : turn r ≡ Diverges (r.state.events + 1) why = ap (turn_at r.state) found ∙ ap (move_by r.state e) differs in
        let reaches : reach_of_entries r.state (entries_of r.left) ≡ record { accepted = 0; divergence = Some why } =
        ap (reach_of_entries r.state) here.entries ∙ ap (λ o. reach_with_entry o (reach_of_entries (next r.state e) (entries_of behind))) differs in
        let at : suc (r.state.events + 0) ≡ r.state.events + 1 = omega arith in
        let verdict : (outcome_of_replay r).verdict ≡ Diverged (r.state.events + 1) why =
        ap (λ (far : ReplayReach). verdict_of (further_reach r.state.events far) (rest_of_log r.left)) reaches ∙ ap (λ n. Diverged n why) at in
        inr (record {
          none = ap (λ (far : ReplayReach). far.accepted) reaches;
          stays = ap (after_at r) found ∙ ap (moved r e behind) differs;
          tells = rw turns verdict;
        })

    by_entry : (o : Option (Entry × Unread)) → entry_at r.left ≡ o → Goes r ⊎ Stands r
    by_entry None none =
        let here = end r.left none in
        let turns : turn r ≡ Ends = ap (turn_at r.state) none in
        let verdict : (outcome_of_replay r).verdict ≡ left_over r.left.bytes =
        ap (λ es. verdict_of (further_reach r.state.events (reach_of_entries r.state es)) (rest_of_log r.left)) here.entries ∙ ap left_over here.rest in
        inr (record {
          none = ap (accepted r.state) here.entries;
          stays = ap (after_at r) none;
          tells = rw turns verdict;
        })
    by_entry (Some x) found = by_reason x.0 x.1 found (reason r.state x.0) refl

-- ---- what a legal entry in front changes

pub one_further : (S : State) (e : Entry) (es : List Entry) → reason S e ≡ None → reach_of_entries S (e ∷ es) ≡ reach_with_entry None (reach_of_entries (next S e) es)
one_further S e es legal = ap (λ o. reach_with_entry o (reach_of_entries (next S e) es)) legal

pub one_accepted : (S : State) (e : Entry) (es : List Entry) → reason S e ≡ None → accepted S (e ∷ es) ≡ suc (accepted (next S e) es)
one_accepted S e es legal = ap (λ (far : ReplayReach). far.accepted) (one_further S e es legal)

-- ---- the outcome of a replay

equal : (f g : ReplayReach) (S T : State) (x y : List ℕ) → f ≡ g → S ≡ T → x ≡ y → outcome_by f S x ≡ outcome_by g T y
equal f g S T x y a b c = rw (a, b, c) refl

-- an event that was made is one of those before the rest
made_before : (n m : ℕ) (far : ReplayReach) → n ≡ m + 1 → further_reach n far ≡ further_reach m (reach_with_entry None far)
made_before n m far one = let all : n + far.accepted ≡ m + suc far.accepted = omega (arith, one) in ap (λ k. record far { accepted = k }) all

-- a turn that makes an event leaves it
pub goes_same : CountsEvents → (r : Replaying) → Goes r → outcome_of_replay (after_replay_turn r) ≡ outcome_of_replay r
goes_same counted r g =
    let S = next r.state g.entry in
    let es = entries_of g.behind in
    let one = one_further r.state g.entry es g.legal in
    ap outcome_of_replay g.moves
    ∙ equal _ (further_reach r.state.events (reach_of_entries r.state (g.entry ∷ es))) _ _ _ _
    (made_before S.events r.state.events (reach_of_entries S es) (counted r.state g.entry g.legal) ∙ ap (further_reach r.state.events) (sym one))
    (ap (λ (far : ReplayReach). state_after r.state (g.entry ∷ es) far.accepted) (sym one))
    (sym g.rest)
    ∙ ap (λ all. replay_outcome_at r.state all (rest_of_log r.left)) (sym g.entries)

-- where it stands it is there
pub stands_at : (r : Replaying) → Stands r → outcome_of_replay r ≡ record { accepted = r.state.events; last = r.state; verdict = (outcome_of_replay r).verdict; rest = rest_of_log r.left }
stands_at r s =
    let made : r.state.events + accepted r.state (entries_of r.left) ≡ r.state.events = omega (arith, s.none) in
    rw (made, s.none) refl

-- ---- what is ahead

-- a turn that makes an event makes the first of them
pub goes_ahead : (r : Replaying) (g : Goes r) → entries_ahead r ≡ g.entry ∷ entries_ahead (after_replay_turn r)
goes_ahead r g =
    let es = entries_of g.behind in
    ap (λ all. take (accepted r.state all) all) g.entries
    ∙ ap (λ n. take n (g.entry ∷ es)) (one_accepted r.state g.entry es g.legal)
    ∙ ap (λ (s : Replaying). g.entry ∷ entries_ahead s) (sym g.moves)

-- where it stands nothing is ahead
pub stands_ahead : (r : Replaying) → Stands r → entries_ahead r ≡ []
stands_ahead r s = ap (λ n. take n (entries_of r.left)) s.none
