-- What a turn, and so many turns, leave ahead of a replay.
use Rattle.std.proofs.Common.{◌≡◌, ◌⊎◌, inl, inr, ℕ, zero, suc, ◌+◌, ◌*◌, ◌≤◌, List, [], ◌∷◌, length, drop, None, refl, sym, ap, ◌∙◌, arith}
use Rattle.lib_calls.specs.declared.entry.Entry.{Entry}
use Rattle.call_log.specs.Limits.{least_entry}
use Rattle.guest_process.specs.declared.verdict.Verdict.{Verdict}
use Rattle.guest_process.specs.declared.verdict.Verdict.TheVariants.{Diverged}
use Rattle.guest_process.specs.Replay.{left_over}
use Rattle.group_order.specs.Order.{first_clock}
use Rattle.proc_replay.specs.Course.{AreTurns, TellsVerdict, entries_ahead, after_turns}
use Rattle.proc_replay.specs.Replaying.{Replaying, ReplayMove, Makes, Ends, Diverges, after_replay_turn, turn}
use Rattle.group_state.specs.inside.Turns.{clock_in, head_of_replay}
use Rattle.group_state.specs.Place.{entry_clock}

-- the turn makes the first event that is ahead
record Made (r : Replaying) : Type 0 where
  pub entry : Entry
  pub makes : turn r ≡ Makes entry
  pub first : entries_ahead r ≡ entry ∷ entries_ahead (after_replay_turn r)
  pub shorter : length (after_replay_turn r).left.bytes + least_entry ≤ length r.left.bytes

-- none is ahead, and the replay stands
record Stood (r : Replaying) : Type 0 where
  pub none : entries_ahead r ≡ []
  pub stays : after_replay_turn r ≡ r
  pub headless : head_of_replay r ≡ None

pub drop_none : {X : Type 0} (n : ℕ) → ◌≡◌ {A = List X} (drop n []) []
drop_none zero = refl
drop_none (suc n) = refl

pub turns_more : (n : ℕ) (r : Replaying) → after_turns r (suc n) ≡ after_replay_turn (after_turns r n)
turns_more zero r = refl
turns_more (suc n) r = turns_more n (after_replay_turn r)

-- apart from the turns, over which `cc` would look for long
same_first : (e f : Entry) (es fs : List Entry) → e ∷ es ≡ f ∷ fs → e ≡ f
same_first e f es fs same = cc

none_first : {P : Type 0} (e : Entry) (es : List Entry) → [] ≡ e ∷ es → P
none_first e es same = cc

module _ (course : AreTurns) where
  turn_cases : (r : Replaying) → Made r ⊎ Stood r
  turn_cases r = by_move (turn r) refl
    where
      stood : (m : ReplayMove) (v : Verdict) → turn r ≡ m → TellsVerdict m r.left.bytes v → clock_in m ≡ None → Stood r
      stood m v is tells no_clock =
          let here : TellsVerdict (turn r) r.left.bytes v = rw is tells in
          record { none = (course r).none v here; stays = (course r).stays v here; headless = ap clock_in is ∙ no_clock }

      by_move : (m : ReplayMove) → turn r ≡ m → Made r ⊎ Stood r
      by_move (Makes e) is = inl (record { entry = e; makes = is; first = (course r).makes e is; shorter = (course r).takes e is })
      by_move Ends is = inr (stood Ends (left_over r.left.bytes) is refl refl)
      by_move (Diverges at why) is = inr (stood (Diverges at why) (Diverged at why) is refl refl)

  pub ahead_turns : (n : ℕ) (r : Replaying) → entries_ahead (after_turns r n) ≡ drop n (entries_ahead r)
  ahead_turns zero r = refl
  ahead_turns (suc n) r = ahead_turns n (after_replay_turn r) ∙ elim (turn_cases r) [
    | inl m ↦ sym (ap (drop (suc n)) m.first)
    | inr s ↦ ap (λ (q : Replaying). drop n (entries_ahead q)) s.stays ∙ ap (drop n) s.none ∙ drop_none n ∙ sym (drop_none (suc n)) ∙ sym (ap (drop (suc n)) s.none)
  ]

  pub head_ahead : (r : Replaying) → head_of_replay r ≡ first_clock entry_clock (entries_ahead r)
  head_ahead r = elim (turn_cases r) [
    | inl m ↦ ap clock_in m.makes ∙ sym (ap (first_clock entry_clock) m.first)
    | inr s ↦ s.headless ∙ sym (ap (first_clock entry_clock) s.none)
  ]

  -- each event takes bytes of the log
  ahead_room_in : (n : ℕ) (r : Replaying) → length r.left.bytes ≤ n → least_entry * length (entries_ahead r) ≤ length r.left.bytes
  ahead_room_in zero r few = elim (turn_cases r) [
    | inl m ↦ absurd (omega (arith, m.shorter, few))
    | inr s ↦ omega (arith, ap length s.none)
  ]
  ahead_room_in (suc n) r few = elim (turn_cases r) [
    | inl m ↦ omega (arith, m.shorter, ap length m.first, ahead_room_in n (after_replay_turn r) (omega (arith, m.shorter, few)))
    | inr s ↦ omega (arith, ap length s.none)
  ]

  pub ahead_room : (r : Replaying) → least_entry * length (entries_ahead r) ≤ length r.left.bytes
  ahead_room r = ahead_room_in (length r.left.bytes) r (omega arith)

  -- where something is ahead, the turn makes the first of it
  pub made_first : (r : Replaying) (e : Entry) (es : List Entry) → entries_ahead r ≡ e ∷ es → turn r ≡ Makes e
  made_first r e es is = elim (turn_cases r) [
    | inl m ↦ m.makes ∙ ap Makes (same_first m.entry e (entries_ahead (after_replay_turn r)) es (sym m.first ∙ is))
    | inr s ↦ none_first e es (sym s.none ∙ is)
  ]
